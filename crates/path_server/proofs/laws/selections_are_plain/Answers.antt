use Rattle.path_server.proofs.Plain.{ups_are_plain, downs_are_plain, cores_are_plain}
use Rattle.path_server.proofs.laws.selections_are_plain.Goals as goal

pub returns : goal.returns
returns c = record { ups = ups_are_plain; downs = downs_are_plain; cores = cores_are_plain }
