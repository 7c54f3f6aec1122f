-- The pieces so far are those of the front.
use Rattle.std.proofs.Common.{◌≡◌, length, take}
use Rattle.std.specs.Prelude.{filter_map}
use Rattle.daemon_cache.specs.inner.Kept.{piece_in}
use Rattle.daemon_cache.proofs.kept.KeptPath.of.Given as goal

abbrev pub invariant-loop-piece : goal.invariant-loop-piece
invariant-loop-piece l =
    (filter_map (piece_in l.set) l.pieces.items ≡ take l.piece-index l.path.pieces) × (length l.pieces.items ≡ l.piece-index)
