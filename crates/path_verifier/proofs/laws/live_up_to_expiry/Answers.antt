use Rattle.path_verifier.proofs.Expiry.{live_up_to}
use Rattle.path_verifier.proofs.laws.live_up_to_expiry.Goals as goal

pub returns : goal.returns
returns c = live_up_to
