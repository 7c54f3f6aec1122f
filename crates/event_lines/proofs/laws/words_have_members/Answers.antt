use Rattle.event_lines.proofs.Formed.{words_have_members}
use Rattle.event_lines.proofs.laws.words_have_members.Goals as goal

pub returns : goal.returns
returns c = words_have_members
