-- No block so far has an equal segment, and the number so far is that of the blocks so far.
use Rattle.std.proofs.Common.{◌≡◌, ℕ, ◌<◌, false, filter, take, length, get_or}
use Rattle.std.specs.List.{list_any}
use Rattle.path_segment.specs.Tests.{is_same}
use Rattle.path_server.specs.inner.Index.{ends_number, lies_between, passes_at}
use Rattle.path_server.specs.inner.Blocks.{Block, joined}
use Rattle.path_server.proofs.same_ends.alike_between.Given as goal

abbrev pub invariant-loop-block : goal.invariant-loop-block
invariant-loop-block l = record {
  none : (k : ℕ) (d : Block) → k < l.block-index
      → list_any (passes_at (is_same l.segment) l.segments) (filter (lies_between l.segments (ends_number l.ends) (ends_number l.ends)) (get_or l.some k d).items) ≡ false;
  count : l.count ≡ length (filter (lies_between l.segments (ends_number l.ends) (ends_number l.ends)) (joined (take l.block-index l.some)));
}
