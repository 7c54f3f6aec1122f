-- In which segment a packet stands, and whether it stands at its end.
use Rattle.std.proofs.Common.{◌≡◌, ℕ, ◌+◌, ◌<◌, ◌≤◌, true, not, ◌==◌, List, [], ◌∷◌, ◌++◌, length, map, refl, arith, length-append}
use Rattle.std.specs.List.{AllByRecursion}
use Rattle.std.proofs.lemmas.Grind.{common_steps}
use Rattle.std.proofs.lemmas.Bool.Decides.{nat_tests}
use Rattle.path_header.specs.Value.{lens_from, segment_at}
use Rattle.path_verifier.specs.Piece.{PieceValue, HasRange}
use Rattle.path_verifier.specs.Header.{len_of, total_hops}
use Rattle.path_verifier.proofs.Entries.{length_travelled}
use Rattle.router_step.specs.Checks.{has_no_single}

-- every piece has two entries at least
abbrev pub IsLong : PieceValue → Type 0
IsLong piece = 2 ≤ len_of piece

pub long_of : (piece : PieceValue) → HasRange piece → 2 ≤ len_of piece
long_of piece range = let count = length_travelled piece range in let order =
    range.order in omega arith

-- the segment of the hop field at this place of a piece
pub segment_of_place : (past later : List PieceValue) (piece : PieceValue) (i : ℕ)
    → length (past ++ piece ∷ later) ≤ 3 → AllByRecursion IsLong past → i < len_of piece
    → segment_at (lens_from (map len_of (past ++ piece ∷ later))) (total_hops past + i) ≡ length past
segment_of_place [] later piece i three long within = grind (arith, common_steps, nat_tests)
segment_of_place (a ∷ []) later piece i three long within = grind (arith, common_steps, nat_tests)
segment_of_place (a ∷ b ∷ []) later piece i three long within =
    grind (arith, common_steps, nat_tests)
segment_of_place (a ∷ b ∷ c ∷ more) later piece i three long within =
    absurd (let h = length-append (a ∷ b ∷ c ∷ more) (piece ∷ later) in omega arith)

-- no segment has a single hop field
single : (n : ℕ) → 2 ≤ n → not (n == 1) ≡ true
single n two = grind (arith, nat_tests)

pub no_single : (pieces : List PieceValue) → AllByRecursion IsLong pieces
    → has_no_single (lens_from (map len_of pieces)) ≡ true
no_single [] long = refl
no_single (a ∷ []) long = rw (single (len_of a) long.0) refl
no_single (a ∷ b ∷ []) long = rw (single (len_of a) long.0, single (len_of b) long.1.0) refl
no_single (a ∷ b ∷ c ∷ more) long =
    rw (single (len_of a) long.0, single (len_of b) long.1.0, single (len_of c) long.1.1.0) refl
