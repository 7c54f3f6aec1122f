-- The ASes so far are the side's own and those of the front.
use Rattle.std.proofs.Common.{◌≡◌, ◌∷◌, ℕ, take, map}
use Rattle.path_segment.specs.Chain.{first_as}
use Rattle.path_server.specs.inner.Index.{is_in}
use Rattle.path_server.proofs.lookup.ases_reached.Given as goal

abbrev pub invariant-loop-segment : goal.invariant-loop-segment
invariant-loop-segment l = (other : ℕ) → is_in l.ases.items other ≡ is_in (l.fn.ia ∷ map first_as (take l.segment-index l.segments)) other
