use Rattle.row_lines.proofs.Every.{every}
use Rattle.row_lines.proofs.laws.replies_deliver.Goals as goal

pub returns : goal.returns
returns c = every
