-- The indexes of the first ASes are there.
use Rattle.std.proofs.Common.{◌≡◌, ℕ, [], take}
use Rattle.scion_topology.specs.Index.{index_of, index_from}
use Rattle.scion_topology.proofs.lookup.Indexes.new.Given as goal

abbrev pub invariant-loop-position : goal.invariant-loop-position
invariant-loop-position l = (ia : ℕ) → index_of l.indexes ia ≡ index_from 0 (take l.position l.ases) [] ia
