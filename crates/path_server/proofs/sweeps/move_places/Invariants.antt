-- The places so far are moved, and the others are as they were.
use Rattle.std.proofs.Common.{◌≡◌, ℕ, ◌<◌, ◌≤◌, length, get_or}
use Rattle.path_server.specs.inner.Blocks.{kept_before}
use Rattle.path_server.proofs.sweeps.move_places.Given as goal

abbrev pub invariant-loop-i : goal.invariant-loop-i
invariant-loop-i l = record {
  long : length l.block ≡ length l.fn.block;
  moved : (k d : ℕ) → k < l.i → get_or l.block k d ≡ kept_before l.now l.segments (get_or l.fn.block k d);
  rest : (k d : ℕ) → l.i ≤ k → get_or l.block k d ≡ get_or l.fn.block k d;
}
