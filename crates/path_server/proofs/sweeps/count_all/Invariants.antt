-- The counts so far are those of the segments so far.
use Rattle.std.proofs.Common.{◌≡◌, ℕ, ◌<◌, ◌≤◌, ◌*◌, length, get_or, vec_capacity}
use Rattle.path_server.specs.inner.Blocks.{kept_before}
use Rattle.path_server.proofs.sweeps.count_all.Given as goal

abbrev pub invariant-loop-start : goal.invariant-loop-start
invariant-loop-start l = record {
  sum : l.kept ≡ kept_before l.now l.segments (8 * l.start);
  long : length l.counts.items ≡ l.start;
  room : vec_capacity l.fn.counts ≤ vec_capacity l.counts;
  each : (k d : ℕ) → k < l.start → get_or l.counts.items k d ≡ kept_before l.now l.segments (8 * k);
}
