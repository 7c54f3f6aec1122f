use Rattle.row_history.proofs.Only.{only}
use Rattle.row_history.proofs.laws.is_the_only_history.Goals as goal

pub returns : goal.returns
returns c = only
