use Rattle.std.proofs.Common.{◌≡◌, ℕ, true, false, [], ◌∷◌, All}
use Rattle.hop_mac.specs.Lifetime.{IsLive}
use Rattle.path_verifier.specs.Piece.{PieceValue, entries_of}
use Rattle.path_verifier.proofs.Living.{last_of_all, later_of_all, first_fails}
use Rattle.path_verifier.proofs.shape.are_live.Goals as goal
use Rattle.path_verifier.proofs.shape.are_live.Goals.{then-is_live-2, else-is_live-2}

-- each hop of the piece is live
abbrev Lives : ℕ → PieceValue → Type 0
Lives now piece = All (λ entry. IsLive piece.segment.timestamp entry.exp_time now) (entries_of piece)

pub returns-in-One : goal.returns-in-One
returns-in-One c = rw c.in-One.is
    (last_of_all (Lives c.args.now) c.is_live.result c.in-One.first c.is_live.ensures)

pub returns-then-is_live : goal.returns-then-is_live
returns-then-is_live c = rw c.in-Two.is
    (later_of_all (Lives c.args.now) c.is_live-in-Two.result c.is_live-then-is_live.result c.in-Two.first (c.in-Two.second ∷ []) c.is_live-in-Two.ensures c.if-is_live.true
    (last_of_all (Lives c.args.now) c.is_live-then-is_live.result c.in-Two.second c.is_live-then-is_live.ensures))

pub returns-else-is_live : goal.returns-else-is_live
returns-else-is_live c = rw c.in-Two.is
    (first_fails (Lives c.args.now) c.is_live-in-Two.result c.is_live-in-Two.result c.in-Two.first (c.in-Two.second ∷ []) c.is_live-in-Two.ensures c.if-is_live.false c.if-is_live.false)

pub returns-then-is_live-3 : goal.returns-then-is_live-3
returns-then-is_live-3 c = rw c.in-Three.is (elim c.if-is_live-2.branch [
  | then-is_live-2 w ↦ (let second : w.is_live-then-is_live-2.result ≡ true = cc in
      later_of_all
      (Lives c.args.now) c.is_live-in-Three.result c.is_live-then-is_live-3.result c.in-Three.first
      (c.in-Three.second ∷ c.in-Three.third ∷ []) c.is_live-in-Three.ensures w.if-is_live-2.true
      (later_of_all (Lives c.args.now) w.is_live-then-is_live-2.result c.is_live-then-is_live-3.result c.in-Three.second (c.in-Three.third ∷ []) w.is_live-then-is_live-2.ensures second
      (last_of_all (Lives c.args.now) c.is_live-then-is_live-3.result c.in-Three.third c.is_live-then-is_live-3.ensures)))
  | else-is_live-2 w ↦ absurd cc
])

pub returns-else-is_live-3 : goal.returns-else-is_live-3
returns-else-is_live-3 c = rw c.in-Three.is (elim c.if-is_live-2.branch [
  | then-is_live-2 w ↦ (let second : w.is_live-then-is_live-2.result ≡ false = cc in
      later_of_all (Lives c.args.now) c.is_live-in-Three.result c.if-is_live-2.value c.in-Three.first
      (c.in-Three.second ∷ c.in-Three.third ∷ []) c.is_live-in-Three.ensures w.if-is_live-2.true
      (first_fails (Lives c.args.now) w.is_live-then-is_live-2.result c.if-is_live-2.value c.in-Three.second (c.in-Three.third ∷ []) w.is_live-then-is_live-2.ensures second c.if-is_live-3.false))
  | else-is_live-2 w ↦ first_fails
      (Lives c.args.now) c.is_live-in-Three.result c.if-is_live-2.value c.in-Three.first
      (c.in-Three.second ∷ c.in-Three.third ∷ []) c.is_live-in-Three.ensures w.if-is_live-2.false c.if-is_live-3.false
])
