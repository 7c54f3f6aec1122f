use Rattle.std.proofs.Common.{length}
use Rattle.line_faults.proofs.line_words.+push_words.Given as goal

abbrev pub decreases-push_words : goal.decreases-push_words
decreases-push_words l = length l.words.now
