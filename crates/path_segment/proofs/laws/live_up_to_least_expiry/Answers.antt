use Rattle.path_segment.proofs.Chained.{least_is_one, live_up_to}
use Rattle.path_segment.proofs.laws.live_up_to_least_expiry.Goals as goal

pub returns : goal.returns
returns c = record { one = least_is_one; live = live_up_to }
