use Rattle.beaconing.proofs.Made.{passed_under_way}
use Rattle.beaconing.proofs.laws.passed_on_is_under_way.Goals as goal

pub returns : goal.returns
returns c = passed_under_way
