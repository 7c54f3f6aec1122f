use Rattle.path_requests.proofs.Moments.{expires_first}
use Rattle.path_requests.proofs.laws.expiry_is_the_earliest.Goals as goal

pub returns : goal.returns
returns c = expires_first
