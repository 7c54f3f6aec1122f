-- The pieces of the paths of an answer have their ranges, since each may be sent.
use Rattle.std.proofs.Common.{◌≡◌, ℕ, suc, ◌<◌, List, ◌∷◌, length, get_or, All, sym, subst, arith}
use Rattle.path_verifier.specs.Piece.{HasRange}
use Rattle.combinator.specs.Candidate.{PathValue}

-- the pieces of the first path have their ranges, and so have those of each later one
pub first_has : (paths : List PathValue) (first : PathValue) (later : List PathValue) → paths ≡ first ∷ later
    → All (λ path. All HasRange path.pieces) paths → All HasRange first.pieces
first_has paths first later are all =
    let each = subst (All (λ (path : PathValue). All HasRange path.pieces)) are all in each 0 first (omega arith)

pub later_has : (paths : List PathValue) (first : PathValue) (later : List PathValue) (k : ℕ) (one : PathValue)
    → paths ≡ first ∷ later
    → All (λ path. All HasRange path.pieces) paths → k < length later → one ≡ get_or later k one
    → All HasRange one.pieces
later_has paths first later k one are all within at =
    let each = subst (All (λ (path : PathValue). All HasRange path.pieces)) are all in
    subst (λ (path : PathValue). All HasRange path.pieces) (sym at) (each (suc k) one (omega arith))
