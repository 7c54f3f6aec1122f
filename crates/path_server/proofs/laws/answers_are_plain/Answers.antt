use Rattle.path_server.proofs.Plain.{answer_is_plain}
use Rattle.path_server.proofs.laws.answers_are_plain.Goals as goal

pub returns : goal.returns
returns c = answer_is_plain
