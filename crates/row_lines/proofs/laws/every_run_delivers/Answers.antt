use Rattle.row_lines.proofs.Delivering.{delivers}
use Rattle.row_lines.proofs.laws.every_run_delivers.Goals as goal

pub returns : goal.returns
returns c = delivers
