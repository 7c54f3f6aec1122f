use Rattle.event_lines.proofs.Formed.{ases_are_formed}
use Rattle.event_lines.proofs.laws.ases_are_formed.Goals as goal

pub returns : goal.returns
returns c = ases_are_formed
