use Rattle.event_lines.proofs.Formed.{lines_have_words}
use Rattle.event_lines.proofs.laws.lines_have_words.Goals as goal

pub returns : goal.returns
returns c = lines_have_words
