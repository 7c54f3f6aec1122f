use Rattle.event_lines.proofs.Formed.{none_misfits}
use Rattle.event_lines.proofs.laws.none_misfits.Goals as goal

pub returns : goal.returns
returns c = none_misfits
