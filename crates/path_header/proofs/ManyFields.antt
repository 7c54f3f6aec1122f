-- So many fields of one width: what is read is spelled so, and what spells them is read as them.
use Rattle.std.proofs.Common.{◌≡◌, ℕ, zero, suc, ◌+◌, ◌*◌, ◌≤◌, List, [], ◌∷◌, ◌++◌, length, take, drop, Result, Ok, refl, sym, ap, subst, ◌∙◌, append_assoc, arith, length-append, length-drop}
use Rattle.std.specs.List.{flat_map, AllByRecursion}
use Rattle.std.proofs.lemmas.List.{drop_at}
use Rattle.std.proofs.lemmas.List.Concat.{flat_map-cons}
use Rattle.std.proofs.Math.Seq.{take-add}
use Rattle.path_header.specs.declared.fault.HeaderFault.{HeaderFault}
use Rattle.refusal.specs.Refusal.{◌>>=◌}
use Rattle.path_header.specs.Spelling.{info_spelling, hop_spelling, InfoFits, HopFits}
use Rattle.path_header.specs.Reading.{info_at, hop_at, fields_at}
use Rattle.refusal.proofs.Steps.{bind_ok, ok_is}
use Rattle.path_header.proofs.Answered.{AreBytes, AreBytes-drop}
use Rattle.path_header.proofs.OneField.{info_takes, info_again, length-info_spelling, hop_takes, hop_again, length-hop_spelling}

-- a reader of a field of this width, its spelling, and what has one
pub record IsField {A : Type 0} (one : List ℕ → Result A HeaderFault) (width : ℕ) (spell : A → List ℕ) (F : A → Type 0) : Type 0 where
  pub takes : (bytes : List ℕ) (x : A) → AreBytes bytes → width ≤ length bytes → one bytes ≡ Ok x → (take width bytes ≡ spell x) × F x
  pub again : (x : A) (rest : List ℕ) → F x → one (spell x ++ rest) ≡ Ok x
  pub len : (x : A) → F x → length (spell x) ≡ width

pub info_is_field : IsField info_at 8 info_spelling InfoFits
info_is_field = record { takes = info_takes; again = info_again; len = λ x fits. length-info_spelling x }

pub hop_is_field : IsField hop_at 12 hop_spelling HopFits
hop_is_field = record { takes = hop_takes; again = hop_again; len = length-hop_spelling }

module _ {A : Type 0} (one : List ℕ → Result A HeaderFault) (width : ℕ) (spell : A → List ℕ) (F : A → Type 0) where
  pub fields_take : IsField one width spell F → (n : ℕ) (bytes : List ℕ) (xs : List A) → AreBytes bytes → width * n ≤ length bytes → fields_at one width n bytes ≡ Ok xs
      → (take (width * n) bytes ≡ flat_map spell xs) × (length xs ≡ n) × AllByRecursion F xs
  unfolding fields_at
  fields_take field zero bytes xs fits le e =
      let none : width * 0 ≡ 0 = omega arith in
      subst (λ (ys : List A). (take (width * 0) bytes ≡ flat_map spell ys) × (length ys ≡ 0) × AllByRecursion F ys) (ok_is [] xs e) (rw none refl, refl, tt)
  fields_take field (suc n) bytes xs fits le e =
      let a = bind_ok (one bytes) (λ x. fields_at one width n (drop width bytes) >>= λ ys. Ok (x ∷ ys)) xs e in
      let b = bind_ok (fields_at one width n (drop width bytes)) (λ ys. Ok (a.0 ∷ ys)) xs a.2 in
      let more : width * suc n ≡ width + width * n = omega arith in
      let first = field.takes bytes a.0 fits (omega arith) a.1 in
      let others = fields_take field n (drop width bytes) b.0 (AreBytes-drop width bytes fits) (omega (arith, length-drop width bytes)) b.1 in
      let text : take (width * suc n) bytes ≡ flat_map spell (a.0 ∷ b.0) = rw (more, take-add width (width * n) bytes, first.0, others.0) (sym (flat_map-cons spell a.0 b.0)) in
      subst (λ (ys : List A). (take (width * suc n) bytes ≡ flat_map spell ys) × (length ys ≡ suc n) × AllByRecursion F ys) (ok_is (a.0 ∷ b.0) xs b.2) (text, ap suc others.1, (first.1, others.2))

  pub fields_again : IsField one width spell F → (xs : List A) (rest : List ℕ) → AllByRecursion F xs → fields_at one width (length xs) (flat_map spell xs ++ rest) ≡ Ok xs
  unfolding fields_at
  fields_again field [] rest fits = refl
  fields_again field (x ∷ xs) rest fits =
      let regrouped : flat_map spell (x ∷ xs) ++ rest ≡ spell x ++ (flat_map spell xs ++ rest) = ap (λ (t : List ℕ). t ++ rest) (flat_map-cons spell x xs) ∙ append_assoc (spell x) (flat_map spell xs) rest in
      ap (fields_at one width (suc (length xs))) regrouped
      ∙ rw (field.again x (flat_map spell xs ++ rest) fits.0, drop_at (spell x) (flat_map spell xs ++ rest) width (field.len x fits.0), fields_again field xs rest fits.1) refl

  pub length-fields : IsField one width spell F → (xs : List A) → AllByRecursion F xs → length (flat_map spell xs) ≡ width * length xs
  length-fields field [] fits = omega arith
  length-fields field (x ∷ xs) fits = rw (flat_map-cons spell x xs) (omega (arith, length-append (spell x) (flat_map spell xs), field.len x fits.0, length-fields field xs fits.1))
