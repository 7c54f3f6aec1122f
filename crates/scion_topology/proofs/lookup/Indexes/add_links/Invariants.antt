-- With the links that are left each index has what it is to have of all links.
use Rattle.std.proofs.Common.{◌≡◌, ℕ, drop, option_map}
use Rattle.scion_topology.specs.Index.{index_of}
use Rattle.scion_topology.specs.inner.Index.{with_links}
use Rattle.scion_topology.proofs.lookup.Indexes.add_links.Given as goal

abbrev pub invariant-loop-place : goal.invariant-loop-place
invariant-loop-place l = (ia : ℕ) → option_map (with_links l.place ia (drop l.place l.links)) (index_of l.self ia) ≡ option_map (with_links 0 ia l.links) (index_of l.fn.self ia)
