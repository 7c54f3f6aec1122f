use Rattle.event_lines.proofs.Formed.{links_are_formed}
use Rattle.event_lines.proofs.laws.links_are_formed.Goals as goal

pub returns : goal.returns
returns c = links_are_formed
