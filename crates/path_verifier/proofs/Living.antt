-- Tests of pieces one after another.
use Rattle.std.proofs.Common.{◌≡◌, Bool, true, false, List, [], ◌∷◌, All, refl}
use Rattle.std.specs.Prelude.{◌↔◌, IsTrue}
use Rattle.std.proofs.lemmas.List.Elements.{All-nil, All-cons, All-head, All-tail}
use Rattle.path_verifier.specs.Piece.{PieceValue}

-- a test of the last piece is one of all
pub last_of_all : (P : PieceValue → Type 0) (b : Bool) (last : PieceValue) → (IsTrue b ↔ P last)
    → IsTrue b ↔ All P (last ∷ [])
last_of_all P b last test = (
  λ is. All-cons P last [] (test.0 is) (All-nil P),
  λ all. test.1 (All-head P last [] all),
)

-- a test of the later ones is one of all, where the first passes
pub later_of_all : (P : PieceValue → Type 0) (a b : Bool) (first : PieceValue)
    (later : List PieceValue) → (IsTrue a ↔ P first) → a ≡ true → (IsTrue b ↔ All P later)
    → IsTrue b ↔ All P (first ∷ later)
later_of_all P true b first later test passes later_test = (
  λ is. All-cons P first later (test.0 refl) (later_test.0 is),
  λ all. later_test.1 (All-tail P first later all),
)
later_of_all P false b first later test passes later_test = absurd cc

-- where the first fails, not all pass
pub first_fails : (P : PieceValue → Type 0) (a b : Bool) (first : PieceValue)
    (later : List PieceValue) → (IsTrue a ↔ P first) → a ≡ false → b ≡ false
    → IsTrue b ↔ All P (first ∷ later)
first_fails P true b first later test fails none = absurd cc
first_fails P false true first later test fails none = absurd cc
first_fails P false false first later test fails none = (
  λ is. absurd cc,
  λ all. test.1 (All-head P first later all),
)
