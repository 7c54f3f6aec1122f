use Rattle.path_requests.proofs.Moments.{path_expires}
use Rattle.path_requests.proofs.expiry.verified_expiry.Goals as goal

pub returns : goal.returns
returns c = path_expires c.args.path.now c.expiry.result c.known.ensures c.expiry.ensures
