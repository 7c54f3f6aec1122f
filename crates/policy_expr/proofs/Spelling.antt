-- What is read as a predicate is spelled so, and what is spelled so is read.
use Rattle.std.proofs.Common.{IfOk, ◌≡◌, ℕ, true, false, eqb, List, ◌∷◌, ◌++◌, Result, Ok, Err, refl, sym, ◌∙◌, ap, subst, arith, inl, inr}
use Rattle.std.specs.List.{AllByRecursion, before_first, after_first}
use Rattle.isd_as.specs.declared.fault.AddrFault.{AddrFault}
use Rattle.std.proofs.lemmas.Bool.{cases_Bool}
use Rattle.isd_as.specs.Address.{address_of, dash, colon, Spells, SpellsIsd, SpellsAs}
use Rattle.isd_as.specs.Reading.{isd_at, address_at}
use Rattle.separators.proofs.Cut.{has_sign, cut_parts, cut_behind}
use Rattle.isd_as.proofs.Spelled.{has_sign-AllDigits, Spells-address_at, address_at-Spells, SpellsIsd-isd_at, isd_at-SpellsIsd}
use Rattle.policy_expr.specs.declared.fault.PolicyFault.{PolicyFault}
use Rattle.policy_expr.specs.declared.fault.PolicyFault.TheVariants as faults
use Rattle.policy_expr.specs.declared.hop.HopPred.{HopPred}
use Rattle.policy_expr.specs.declared.hop.Interfaces.{Interfaces}
use Rattle.policy_expr.specs.declared.hop.Interfaces.TheVariants.{Any}
use Rattle.refusal.specs.Refusal.{◌>>=◌, or_else}
use Rattle.policy_expr.specs.Predicate.{hash, comma, one_interface, two_interfaces, interface_number_at, interfaces_at, ia_at, predicate_at, SpellsInterfaces, one, two, SpellsPredicate, isd_alone, address, with_interfaces}
use Rattle.refusal.proofs.Steps.{bind_ok, ok_is}
use Rattle.policy_expr.proofs.Texts.{IsPlain, all_append, plain_digits, no_hash_in, no_comma_in}

-- what an address or a number is read as, any refusal being BadPredicate
abbrev as_part : {A : Type 0} → Result A AddrFault → Result A PolicyFault
as_part read = or_else faults.BadPredicate read

part_ok : {A : Type 0} (r : Result A AddrFault) (x : A) → as_part r ≡ Ok x → r ≡ Ok x
part_ok (Ok y) x e = (let same : y ≡ x = cc in ap Ok same)
part_ok (Err d) x e = absurd cc

-- ---- what is read is spelled

one_spelled : (text : List ℕ) (i : Interfaces) → (interface_number_at text >>= λ n. Ok (one_interface n)) ≡ Ok i → SpellsInterfaces text i
one_spelled text i e =
    let n = bind_ok (interface_number_at text) (λ m. Ok (one_interface m)) i e in
    subst (SpellsInterfaces text) (ok_is (one_interface n.0) i n.2) (one text n.0 (SpellsIsd-isd_at text n.0 (part_ok (isd_at text) n.0 n.1)))

two_spelled : (front back : List ℕ) (i : Interfaces) → (interface_number_at front >>= λ m. interface_number_at back >>= λ n. Ok (two_interfaces m n)) ≡ Ok i
    → SpellsInterfaces (front ++ (comma ∷ back)) i
two_spelled front back i e =
    let m = bind_ok (interface_number_at front) (λ k. interface_number_at back >>= λ n. Ok (two_interfaces k n)) i e in
    let n = bind_ok (interface_number_at back) (λ k. Ok (two_interfaces m.0 k)) i m.2 in
    let spelled = two front back m.0 n.0 (SpellsIsd-isd_at front m.0 (part_ok (isd_at front) m.0 m.1)) (SpellsIsd-isd_at back n.0 (part_ok (isd_at back) n.0 n.1)) in
    subst (SpellsInterfaces (front ++ (comma ∷ back))) (ok_is (two_interfaces m.0 n.0) i n.2) spelled

interfaces_spelled : (text : List ℕ) (i : Interfaces) → interfaces_at text ≡ Ok i → SpellsInterfaces text i
unfolding interfaces_at
interfaces_spelled text i e = elim (cases_Bool (has_sign comma text)) [
  | inl has ↦ subst (λ (t : List ℕ). SpellsInterfaces t i) (sym (cut_parts comma text has))
      (two_spelled (before_first (λ b. eqb b comma) text) (after_first (λ b. eqb b comma) text) i (rw has at e))
  | inr lacks ↦ one_spelled text i (rw lacks at e)
]

ia_spelled : (text : List ℕ) (ia : ℕ) → ia_at text ≡ Ok ia → SpellsPredicate text (record { ia = ia; interfaces = Any })
unfolding ia_at
ia_spelled text ia e = elim (cases_Bool (has_sign dash text)) [
  | inl has ↦ address text ia (Spells-address_at text ia (part_ok (address_at text) ia (rw has at e)))
  | inr lacks ↦ (let isd = bind_ok (isd_at text) (λ n. Ok (address_of n 0)) ia (part_ok (isd_at text >>= λ n. Ok (address_of n 0)) ia (rw lacks at e)) in
      subst (λ (n : ℕ). SpellsPredicate text (record { ia = n; interfaces = Any })) (ok_is (address_of isd.0 0) ia isd.2)
      (isd_alone text isd.0 (SpellsIsd-isd_at text isd.0 isd.1)))
]

plain_spelled : (text : List ℕ) (pred : HopPred) → (ia_at text >>= λ n. Ok (record { ia = n; interfaces = Any })) ≡ Ok pred → SpellsPredicate text pred
plain_spelled text pred e =
    let ia = bind_ok (ia_at text) (λ n. Ok (record { ia = n; interfaces = Any })) pred e in
    subst (SpellsPredicate text) (ok_is (record { ia = ia.0; interfaces = Any }) pred ia.2) (ia_spelled text ia.0 ia.1)

both_spelled : (front back : List ℕ) (pred : HopPred)
    → (as_part (address_at front) >>= λ n. interfaces_at back >>= λ i. Ok (record { ia = n; interfaces = i })) ≡ Ok pred
    → SpellsPredicate (front ++ (hash ∷ back)) pred
both_spelled front back pred e =
    let n = bind_ok (as_part (address_at front)) (λ k. interfaces_at back >>= λ i. Ok (record { ia = k; interfaces = i })) pred e in
    let i = bind_ok (interfaces_at back) (λ k. Ok (record { ia = n.0; interfaces = k })) pred n.2 in
    let spelled = with_interfaces front back n.0 i.0 (Spells-address_at front n.0 (part_ok (address_at front) n.0 n.1)) (interfaces_spelled back i.0 i.1) in
    subst (SpellsPredicate (front ++ (hash ∷ back))) (ok_is (record { ia = n.0; interfaces = i.0 }) pred i.2) spelled

pub predicate_spelled : (text : List ℕ) (pred : HopPred) → predicate_at text ≡ Ok pred → SpellsPredicate text pred
unfolding predicate_at
predicate_spelled text pred e = elim (cases_Bool (has_sign hash text)) [
  | inl has ↦ subst (λ (t : List ℕ). SpellsPredicate t pred) (sym (cut_parts hash text has))
      (both_spelled (before_first (λ b. eqb b hash) text) (after_first (λ b. eqb b hash) text) pred (rw has at e))
  | inr lacks ↦ plain_spelled text pred (rw lacks at e)
]

-- ---- what is spelled is read

pub plain_isd : (text : List ℕ) (n : ℕ) → SpellsIsd text n → AllByRecursion IsPlain text
plain_isd text n s = plain_digits 10 text (omega arith) s.written.numeral.1

plain_as : (text : List ℕ) (n : ℕ) → SpellsAs text n → AllByRecursion IsPlain text
plain_as text n s = elim s [
  | inl small ↦ plain_digits 10 text (omega arith) small.written.numeral.1
  | inr groups ↦ (
      let low = all_append IsPlain groups.second (colon ∷ groups.third) (plain_digits 16 groups.second (omega arith) groups.middle_written.written.numeral.1)
      ((refl, refl, refl), plain_digits 16 groups.third (omega arith) groups.low_written.written.numeral.1) in
      subst (AllByRecursion IsPlain) (sym groups.parts) (all_append IsPlain groups.first (colon ∷ (groups.second ++ (colon ∷ groups.third)))
      (plain_digits 16 groups.first (omega arith) groups.high_written.written.numeral.1) ((refl, refl, refl), low)))
]

pub plain_address : (text : List ℕ) (n : ℕ) → Spells text n → AllByRecursion IsPlain text
plain_address text n s =
    subst (AllByRecursion IsPlain) (sym s.parts)
    (all_append IsPlain s.front (dash ∷ s.back) (plain_isd s.front s.isd s.isd_spelled) ((refl, refl, refl), plain_as s.back s.as_number s.as_spelled))

no_dash_in : (text : List ℕ) (n : ℕ) → SpellsIsd text n → has_sign dash text ≡ false
no_dash_in text n s = has_sign-AllDigits 10 dash text (omega arith) s.written.numeral.1

interfaces_read : (text : List ℕ) (i : Interfaces) → SpellsInterfaces text i → interfaces_at text ≡ Ok i
unfolding interfaces_at
interfaces_read _ _ (one text n s) = rw (no_comma_in text (plain_isd text n s), isd_at-SpellsIsd text n s) refl
interfaces_read _ _ (two front back m n s t) =
    let cut = cut_behind comma front back (no_comma_in front (plain_isd front m s)) in
    rw (cut.has, cut.front, cut.back, isd_at-SpellsIsd front m s, isd_at-SpellsIsd back n t) refl

pub predicate_read : (text : List ℕ) (pred : HopPred) → SpellsPredicate text pred → predicate_at text ≡ Ok pred
unfolding predicate_at ia_at
predicate_read _ _ (isd_alone text n s) =
    rw (no_hash_in text (plain_isd text n s), no_dash_in text n s, isd_at-SpellsIsd text n s) refl
predicate_read _ _ (address text n s) =
    let has : has_sign dash text ≡ true = ap (has_sign dash) s.parts ∙ (cut_behind dash s.front s.back (no_dash_in s.front s.isd s.isd_spelled)).has in
    rw (no_hash_in text (plain_address text n s), has, address_at-Spells text n s) refl
predicate_read _ _ (with_interfaces front back n ways s t) =
    let cut = cut_behind hash front back (no_hash_in front (plain_address front n s)) in
    rw (cut.has, cut.front, cut.back, address_at-Spells front n s, interfaces_read back ways t) refl

-- the same of what a call answered
pub answer_spelled : (answer : Result HopPred PolicyFault) (text : List ℕ) → answer ≡ predicate_at text → IfOk answer (λ pred. SpellsPredicate text pred)
answer_spelled (Ok pred) text e = predicate_spelled text pred (sym e)
answer_spelled (Err f) text e = tt
