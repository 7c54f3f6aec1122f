-- The pieces so far are those of the front, at most three.
use Rattle.std.proofs.Common.{◌≡◌, ◌≤◌, take}
use Rattle.path_requests.proofs.stretch.join.Given as goal

abbrev pub invariant-loop-piece : goal.invariant-loop-piece
invariant-loop-piece l = (l.pieces ≡ take l.piece-index l.list) × (l.piece-index ≤ 3)
