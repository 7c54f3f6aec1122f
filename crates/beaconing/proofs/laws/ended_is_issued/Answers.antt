use Rattle.beaconing.proofs.Made.{ended_issued}
use Rattle.beaconing.proofs.laws.ended_is_issued.Goals as goal

pub returns : goal.returns
returns c = ended_issued
