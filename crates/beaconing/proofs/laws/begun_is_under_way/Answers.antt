use Rattle.beaconing.proofs.Made.{begun_under_way}
use Rattle.beaconing.proofs.laws.begun_is_under_way.Goals as goal

pub returns : goal.returns
returns c = begun_under_way
