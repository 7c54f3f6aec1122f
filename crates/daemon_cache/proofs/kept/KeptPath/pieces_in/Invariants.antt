-- The pieces so far are those of the front, and no more.
use Rattle.std.proofs.Common.{◌≡◌, ◌≤◌, length, take}
use Rattle.std.specs.Prelude.{filter_map}
use Rattle.daemon_cache.specs.inner.Kept.{piece_in}
use Rattle.daemon_cache.proofs.kept.KeptPath.pieces_in.Given as goal

abbrev pub invariant-loop-placed : goal.invariant-loop-placed
invariant-loop-placed l =
    (l.pieces ≡ filter_map (piece_in l.set) (take l.placed-index l.self.pieces.items)) × (length l.pieces ≤ l.placed-index)
