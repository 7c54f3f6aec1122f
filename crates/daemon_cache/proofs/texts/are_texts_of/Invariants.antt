use Rattle.std.proofs.Common.{◌≡◌, length, take}
use Rattle.daemon_cache.proofs.texts.are_texts_of.Given as goal

abbrev pub invariant-loop-i : goal.invariant-loop-i
invariant-loop-i l = (take l.i l.own ≡ take l.i l.texts) × (length l.own ≡ length l.texts)
