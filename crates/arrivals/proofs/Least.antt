-- Every path has an expiry.
use Rattle.std.proofs.Common.{ℕ, suc, ◌<◌, ◌≤◌, List, [], ◌∷◌, All, length, refl, arith, inl, inr}
use Rattle.std.specs.Prelude.{min}
use Rattle.std.proofs.lemmas.Bool.{cases_lt}
use Rattle.std.proofs.lemmas.List.Elements.{All-nil, All-cons, All-head, All-tail, All-weaker}
use Rattle.hop_mac.specs.Lifetime.{expiry_of}
use Rattle.path_segment.specs.declared.entry.Entry.{Entry}
use Rattle.path_segment.specs.Chain.{IsLeastExpiry}
use Rattle.path_verifier.specs.Piece.{PieceValue, HasRange, entries_of}
use Rattle.path_verifier.specs.Accepted.{IsExpiry}
use Rattle.path_verifier.proofs.Entries.{length-entries_of}
use Rattle.path_verifier.proofs.Expiry.{expiry_of_one, expiry_of_more}

least_of : (timestamp : ℕ) (entries : List Entry) → 0 < length entries
    → (n : ℕ) × IsLeastExpiry timestamp entries n
least_of timestamp [] some = absurd (omega (arith, some))
least_of timestamp (e ∷ []) some =
    let own = expiry_of timestamp e.exp_time in
    let P : Entry → Type 0 = λ x. own ≤ expiry_of timestamp x.exp_time in (
      own,
      record {
        reached = (0, e, omega arith, refl, refl);
        lower = All-cons P e [] (omega arith) (All-nil P);
      },
    )
least_of timestamp (e ∷ next ∷ entries) some =
    let rest = least_of timestamp (next ∷ entries) (omega arith) in
    let own = expiry_of timestamp e.exp_time in
    elim (cases_lt own rest.0) [
      | inl less ↦ (
          let P : Entry → Type 0 = λ x. own ≤ expiry_of timestamp x.exp_time in
          let Q : Entry → Type 0 = λ x. rest.0 ≤ expiry_of timestamp x.exp_time in (
            own,
            record {
              reached = (0, e, omega arith, refl, refl);
              lower = All-cons P e (next ∷ entries) (omega arith)
                  (All-weaker Q P (λ x low. omega (arith, low, less)) (next ∷ entries)
                  rest.1.lower);
            },
          ))
      | inr more ↦ (
          let Q : Entry → Type 0 = λ x. rest.0 ≤ expiry_of timestamp x.exp_time in
          let r = rest.1.reached in
          let w = r.2 in (
            rest.0,
            record {
              reached = (suc r.0, r.1, omega (arith, w), r.3, r.4);
              lower = All-cons Q e (next ∷ entries) more rest.1.lower;
            },
          ))
    ]

entries_there : (piece : PieceValue) → HasRange piece → 0 < length (entries_of piece)
entries_there piece range =
    let e = length-entries_of piece range in let o = range.order in omega (arith, e, o)

pub expiry_there : (pieces : List PieceValue) → 0 < length pieces → All HasRange pieces
    → (n : ℕ) × IsExpiry pieces n
expiry_there [] some ranges = absurd (omega (arith, some))
expiry_there (piece ∷ []) some ranges =
    let one = least_of piece.segment.timestamp (entries_of piece)
    (entries_there piece (All-head HasRange piece [] ranges)) in
    (one.0, expiry_of_one piece one.0 one.1)
expiry_there (piece ∷ next ∷ pieces) some ranges =
    let one = least_of piece.segment.timestamp (entries_of piece)
    (entries_there piece (All-head HasRange piece (next ∷ pieces) ranges)) in
    let rest = expiry_there (next ∷ pieces) (omega arith)
    (All-tail HasRange piece (next ∷ pieces) ranges) in
    (min one.0 rest.0, expiry_of_more piece (next ∷ pieces) one.0 rest.0 one.1 rest.1)
