use Rattle.std.proofs.Common.{◌≡◌, length, take}
use Rattle.daemon_cache.proofs.entry.are_same.Given as goal

abbrev pub invariant-loop-i : goal.invariant-loop-i
invariant-loop-i l = (take l.i l.segments ≡ take l.i l.others) × (length l.segments ≡ length l.others)
