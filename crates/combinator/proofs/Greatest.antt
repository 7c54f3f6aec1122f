-- The greatest expiry of pieces and the least number of their info fields, piece by piece.
use Rattle.std.proofs.Common.{◌≡◌, ℕ, ◌+◌, ◌<◌, ◌≤◌, max, min, List, [], ◌∷◌, length, get_or, take, Contains, refl, subst, inl, inr, arith}
use Rattle.std.specs.Prelude.{◌⊎◌}
use Rattle.std.proofs.lemmas.Bool.{cases_lt}
use Rattle.path_segment.specs.Chain.{IsLeastExpiry}
use Rattle.path_verifier.specs.Piece.{PieceValue, entries_of}
use Rattle.path_verifier.specs.Accepted.{LastTo}
use Rattle.combinator.specs.inner.UsablePieces.{info_number}
use Rattle.combinator.proofs.Collected.{by_items, take_past}
use Rattle.combinator.proofs.Least.{lasts_up_to, still_there, last_there}

-- no such piece lasts beyond this half second; one lasts to it
abbrev pub AreOver : ℕ → List PieceValue → Type 0
AreOver greatest pieces = (piece : PieceValue) → Contains pieces piece
    → (later : ℕ) → LastTo later (piece ∷ []) → later ≤ greatest

abbrev pub HaveOneTo : ℕ → List PieceValue → Type 0
HaveOneTo greatest pieces = (piece : PieceValue) × Contains pieces piece × LastTo greatest (piece ∷ [])

module _ (pieces : List PieceValue) (i : ℕ) (piece : PieceValue) (within : i < length pieces)
    (is : piece ≡ get_or pieces i piece) where
  pub over_more : (old new expiry : ℕ) → new ≡ max expiry old → IsLeastExpiry piece.segment.timestamp (entries_of piece) expiry
      → AreOver old (take i pieces) → AreOver new (take (i + 1) pieces)
  over_more old new expiry same least over =
      by_items (λ (p : PieceValue). (later : ℕ) → LastTo later (p ∷ []) → later ≤ old)
      (λ (p : PieceValue). (later : ℕ) → LastTo later (p ∷ []) → later ≤ new) pieces i piece within is
      (λ p before later lasts. (let upto = before later lasts in omega (arith, upto, same)))
      over
      (λ later lasts. (let upto = (lasts_up_to piece expiry later least).1 lasts in omega (arith, upto, same)))

  pub reached_more : (old new expiry : ℕ) → new ≡ max expiry old → IsLeastExpiry piece.segment.timestamp (entries_of piece) expiry
      → (old ≡ 0) ⊎ HaveOneTo old (take i pieces) → (new ≡ 0) ⊎ HaveOneTo new (take (i + 1) pieces)
  reached_more old new expiry same least either = elim (cases_lt old expiry) [
    | inl less ↦ inr (piece, last_there new pieces i piece within is, (lasts_up_to piece expiry new least).0 (omega (arith, less, same)))
    | inr upto ↦ elim either [
      | inl none ↦ inl (omega (arith, upto, same, none))
      | inr one ↦ inr (
        one.0,
        still_there new pieces i piece within is one.0 one.1,
        subst (λ (half : ℕ). LastTo half (one.0 ∷ [])) (let now : old ≡ new = omega (arith, upto, same) in now) one.2,
      )
    ]
  ]

  pub infos_more : (old new info : ℕ) → new ≡ min info old → info ≡ info_number piece
      → ((p : PieceValue) → Contains (take i pieces) p → old ≤ info_number p)
      → (p : PieceValue) → Contains (take (i + 1) pieces) p → new ≤ info_number p
  infos_more old new info same own from =
      by_items (λ (p : PieceValue). old ≤ info_number p) (λ (p : PieceValue). new ≤ info_number p) pieces i piece within is
      (λ p before. (let down : new ≤ old = omega (arith, same) in at_most new old (info_number p) down before))
      from
      (let down : new ≤ info = omega (arith, same) in at_most new info (info_number piece) down (subst (λ (n : ℕ). info ≤ n) own (omega arith)))
    where
      at_most : (a b c : ℕ) → a ≤ b → b ≤ c → a ≤ c
      at_most a b c first second = omega (arith, first, second)

-- a piece lasts to the greatest expiry of some pieces
pub reached_at_end : (pieces : List PieceValue) (i greatest : ℕ) → 0 < length pieces → length pieces ≤ i
    → (greatest ≡ 0) ⊎ HaveOneTo greatest (take i pieces) → HaveOneTo greatest pieces
reached_at_end [] i greatest some past either = absurd (omega (arith, some))
reached_at_end (piece ∷ pieces) i greatest some past (inl none) =
    (piece, (0, omega arith, refl), λ k d less j e within. (omega (arith, none)))
reached_at_end (piece ∷ pieces) i greatest some past (inr one) =
    (one.0, subst (λ (ps : List PieceValue). Contains ps one.0) (take_past (piece ∷ pieces) i past) one.1, one.2)
