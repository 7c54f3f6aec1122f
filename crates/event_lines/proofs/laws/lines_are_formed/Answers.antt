use Rattle.event_lines.proofs.Formed.{lines_are_formed}
use Rattle.event_lines.proofs.laws.lines_are_formed.Goals as goal

pub returns : goal.returns
returns c = lines_are_formed
