-- The blocks so far are swept, and the others are as they were.
use Rattle.std.proofs.Common.{◌≡◌, ◌≤◌, length, take, drop, All}
use Rattle.std.specs.List.{filter_map}
use Rattle.path_server.specs.inner.Blocks.{Block, joined, moved_to}
use Rattle.path_server.proofs.sweeps.sweep_blocks.Given as goal

abbrev pub invariant-loop-i : goal.invariant-loop-i
invariant-loop-i l = record {
  long : length l.blocks ≡ length l.fn.blocks;
  swept : joined (take l.i l.blocks) ≡ filter_map (moved_to l.now l.segments) (joined (take l.i l.fn.blocks));
  rest : drop l.i l.blocks ≡ drop l.i l.fn.blocks;
  short : All (λ (b : Block). length b.items ≤ 512) l.blocks;
}
