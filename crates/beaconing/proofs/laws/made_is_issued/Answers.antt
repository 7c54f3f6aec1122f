use Rattle.beaconing.proofs.Made.{made_is_issued}
use Rattle.beaconing.proofs.laws.made_is_issued.Goals as goal

pub returns : goal.returns
returns c = made_is_issued
