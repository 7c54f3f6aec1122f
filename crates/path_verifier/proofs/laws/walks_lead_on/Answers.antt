use Rattle.path_verifier.proofs.Course.{path_begins, path_ends}
use Rattle.path_verifier.proofs.laws.walks_lead_on.Goals as goal

pub returns : goal.returns
returns c = record { begins = path_begins; ends = path_ends }
