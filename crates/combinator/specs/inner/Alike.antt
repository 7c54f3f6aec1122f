-- Pieces that stand for one another in paths (words of private functions' contracts).
use Rattle.std.specs.Prelude.{◌≡◌, ◌↔◌, ◌+◌, List, [], ◌∷◌, length, take}
use Rattle.policy_expr.specs.declared.hop.WalkHop.{WalkHop}
use Rattle.path_verifier.specs.Piece.{PieceValue, HasRange, kind_of}
use Rattle.path_verifier.specs.Walk.{left_by, walk_of}
use Rattle.path_verifier.specs.Accepted.{IsCore}

-- a piece that may occur in a path: a core piece is whole
pub record IsUsable (piece : PieceValue) : Type 0 where
  pub range : HasRange piece
  pub whole : IsCore piece → (piece.from ≡ 0) × (piece.to + 1 ≡ length piece.segment.entries)

-- both pieces have one kind and, alone, one walk, and both or none begin at the first entry
pub record AreAlike (one other : PieceValue) : Type 0 where
  pub kind : kind_of one ≡ kind_of other
  pub walk : walk_of (one ∷ []) ≡ walk_of (other ∷ [])
  pub first : (one.from ≡ 0) ↔ (other.from ≡ 0)

-- the lists are alike place by place
abbrev pub AreAllAlike : List PieceValue → List PieceValue → Type 0
AreAllAlike [] [] = Unit {0}
AreAllAlike [] (other ∷ others) = ⊥
AreAllAlike (piece ∷ pieces) [] = ⊥
AreAllAlike (piece ∷ pieces) (other ∷ others) = AreAlike piece other × AreAllAlike pieces others

-- the hops agree in all but the first way in and the last way out
abbrev pub AreSameHops : List WalkHop → List WalkHop → Type 0
AreSameHops [] [] = Unit {0}
AreSameHops [] (other ∷ others) = ⊥
AreSameHops (hop ∷ hops) [] = ⊥
AreSameHops (hop ∷ []) (other ∷ []) = hop.ia ≡ other.ia
AreSameHops (hop ∷ []) (other ∷ second ∷ others) = ⊥
AreSameHops (hop ∷ next ∷ hops) (other ∷ []) = ⊥
AreSameHops (hop ∷ next ∷ hops) (other ∷ second ∷ others) = (hop.ia ≡ other.ia) × (hop.egress ≡ other.egress)
    × (next.ingress ≡ second.ingress) × AreSameHops (next ∷ hops) (second ∷ others)

-- a walk that is at this hop, with these before it, goes on by the hops of a piece: it leaves as
-- the piece does, and passes the piece's later hops, whatever the last way out
abbrev pub GoesOn : (hops : List WalkHop) (here : WalkHop) (rest : List WalkHop) → Type 0
GoesOn [] here rest = Unit {0}
GoesOn (hop ∷ later) here rest = (here.egress ≡ hop.egress)
    × (left_by 0 (take (length later) rest) ≡ left_by 0 later)
