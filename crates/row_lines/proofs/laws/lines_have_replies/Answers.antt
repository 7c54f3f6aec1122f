use Rattle.row_lines.proofs.Told.{have_replies}
use Rattle.row_lines.proofs.laws.lines_have_replies.Goals as goal

pub returns : goal.returns
returns c = have_replies
