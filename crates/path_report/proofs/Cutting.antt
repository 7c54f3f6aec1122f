-- Links that meet all of some walks: one of them is of each walk, and that one can be chosen first.
use Rattle.std.proofs.Common.{◌≡◌, ℕ, zero, suc, ◌-◌, ◌<◌, Bool, true, false, List, [], ◌∷◌, ◌++◌, get_or, length, Contains, refl, sym, ap, ◌∙◌, inl, inr, arith, eqb-true, eq-eqb, true≢false, length-append}
use Rattle.std.specs.Prelude.{◌||◌, ◌&&◌, ◌==◌}
use Rattle.std.specs.List.{list_all, list_any}
use Rattle.std.proofs.lemmas.Bool.{cases_Bool, and_parts, or_left, or_right}
use Rattle.std.proofs.lemmas.List.{append-nil, append_assoc}
use Rattle.std.proofs.lemmas.List.Elements.{All-cons}
use Rattle.path_report.specs.declared.open_walk.OpenWalk.{OpenWalk}
use Rattle.path_report.specs.inner.Cuts.{CanCut, CannotCut, IsCrossed, are_met, crosses_at, is_met}

-- ---- lists of links that meet a walk

any_append : {X : Type 0} (test : X → Bool) (xs ys : List X) → list_any test (xs ++ ys) ≡ (list_any test xs || list_any test ys)
any_append test [] ys = refl
any_append test (x ∷ xs) ys = elim (cases_Bool (test x)) [
  | inl here ↦ rw here refl
  | inr other ↦ rw other (any_append test xs ys)
]

-- a walk that is met is met by one of the links
met_by_one : (walk : OpenWalk) (lost : List ℕ) → is_met lost walk ≡ true
    → (before : List ℕ) × (place : ℕ) × (after : List ℕ) × (lost ≡ before ++ place ∷ after) × (crosses_at place walk ≡ true)
met_by_one walk [] met = absurd (true≢false (sym met))
met_by_one walk (place ∷ lost) met = elim (cases_Bool (crosses_at place walk)) [
  | inl here ↦ ([], place, lost, refl, here)
  | inr other ↦ (
      let later : is_met lost walk ≡ true = ap (λ (b : Bool). b || is_met lost walk) (sym other) ∙ met in
      let more = met_by_one walk lost later in
      (place ∷ more.0, more.1, more.2, ap (λ (l : List ℕ). place ∷ l) more.3, more.4))
]

-- what the walk crosses is one of its places
crossed_there : (place : ℕ) (places : List ℕ) → list_any (λ one. one == place) places ≡ true → Contains places place
crossed_there place [] crossed = absurd (true≢false (sym crossed))
crossed_there place (one ∷ places) crossed = elim (cases_Bool (one == place)) [
  | inl here ↦ (0, omega arith, eqb-true one place here)
  | inr other ↦ (
      let more = crossed_there place places (ap (λ (b : Bool). b || list_any (λ one. one == place) places) (sym other) ∙ crossed) in
      (suc more.0, (let within = more.1 in omega arith), more.2))
]

pub place_crossed : (walk : OpenWalk) (place : ℕ) → Contains walk.places.items place → crosses_at place walk ≡ true
place_crossed walk place there = any_there walk.places.items there.0 there.1 there.2
  where
    any_there : (places : List ℕ) (k : ℕ) → k < length places → get_or places k place ≡ place → list_any (λ one. one == place) places ≡ true
    any_there [] k within is = absurd (omega (arith, within))
    any_there (one ∷ places) zero within is = or_left (one == place) (list_any (λ one. one == place) places) (eq-eqb one place is)
    any_there (one ∷ places) (suc k) within is = or_right (one == place) (list_any (λ one. one == place) places) (any_there places k (omega (arith, within)) is)

-- one link moved to the front of the others
moved : (test : ℕ → Bool) (lost before after : List ℕ) (place : ℕ)
    → list_any test (lost ++ (before ++ place ∷ after)) ≡ list_any test ((lost ++ place ∷ []) ++ (before ++ after))
moved test lost before after place =
    any_append test lost (before ++ place ∷ after)
    ∙ ap (λ (b : Bool). list_any test lost || b) (any_append test before (place ∷ after))
    ∙ swap (list_any test lost) (list_any test before) (test place) (list_any test after)
    ∙ sym (any_append test (lost ++ place ∷ []) (before ++ after)
    ∙ ap (λ (b : Bool). b || list_any test (before ++ after)) (any_append test lost (place ∷ []))
    ∙ ap (λ (b : Bool). (list_any test lost || (test place || false)) || b) (any_append test before after))
  where
    swap : (l b p a : Bool) → (l || (b || (p || a))) ≡ ((l || (p || false)) || (b || a))
    swap true b p a = refl
    swap false true true a = refl
    swap false true false a = refl
    swap false false true a = refl
    swap false false false a = refl

all_agree : (f g : OpenWalk → Bool) (walks : List OpenWalk) → ((walk : OpenWalk) → f walk ≡ g walk) → list_all f walks ≡ list_all g walks
all_agree f g [] same = refl
all_agree f g (walk ∷ walks) same =
    ap (λ (b : Bool). b && list_all f walks) (same walk) ∙ ap (λ (b : Bool). g walk && b) (all_agree f g walks same)

-- a walk that is not met
not_all : (lost : List ℕ) (walks : List OpenWalk) (walk : OpenWalk) → Contains walks walk → are_met lost walks ≡ true → is_met lost walk ≡ true
not_all lost walks walk there met = at walks there.0 there.1 there.2 met
  where
    at : (ws : List OpenWalk) (k : ℕ) → k < length ws → get_or ws k walk ≡ walk → are_met lost ws ≡ true → is_met lost walk ≡ true
    at [] k within is all = absurd (omega (arith, within))
    at (w ∷ ws) zero within is all = ap (is_met lost) (sym is) ∙ (and_parts (is_met lost w) (are_met lost ws) all).0
    at (w ∷ ws) (suc k) within is all = at ws k (omega (arith, within)) is (and_parts (is_met lost w) (are_met lost ws) all).1

false_where_not : (b : Bool) → (b ≡ true → ⊥) → b ≡ false
false_where_not true never = absurd (never refl)
false_where_not false never = refl

module _ (walks : List OpenWalk) (lost : List ℕ) (walk : OpenWalk) (there : Contains walks walk) (unmet : is_met lost walk ≡ false) where
  -- no more links may be chosen
  pub cannot_without_more : (more : ℕ) → more ≡ 0 → CannotCut walks lost more
  cannot_without_more more none [] few = false_where_not (are_met (lost ++ []) walks) (λ met. true≢false
      (sym (not_all lost walks walk there (ap (λ (l : List ℕ). are_met l walks) (sym (append-nil lost)) ∙ met)) ∙ unmet))
  cannot_without_more more none (other ∷ others) few = absurd (omega (arith, none, few))

  -- none of the walk's links leads to a cut
  pub cannot_by_any : (more : ℕ) → 0 < more
      → ((place : ℕ) → Contains walk.places.items place → CannotCut walks (lost ++ place ∷ []) (more - 1))
      → CannotCut walks lost more
  cannot_by_any more some each others few = false_where_not (are_met (lost ++ others) walks) (λ met.
      let own : is_met (lost ++ others) walk ≡ true = not_all (lost ++ others) walks walk there met in
      let by : is_met others walk ≡ true = ap (λ (b : Bool). b || is_met others walk) (sym unmet)
      ∙ sym (any_append (λ place. crosses_at place walk) lost others) ∙ own in
      let one = met_by_one walk others by in
      let size = ap (λ (l : List ℕ). length l) one.3 in
      let long = length-append one.0 (one.1 ∷ one.2) in
      let short = length-append one.0 one.2 in
      let never = each one.1 (crossed_there one.1 walk.places.items one.4) (one.0 ++ one.2)
      (omega (arith, some, few, size, long, short)) in
      let again : are_met ((lost ++ one.1 ∷ []) ++ (one.0 ++ one.2)) walks ≡ true =
      sym (all_agree (is_met (lost ++ (one.0 ++ one.1 ∷ one.2))) (is_met ((lost ++ one.1 ∷ []) ++ (one.0 ++ one.2))) walks
      (λ w. moved (λ place. crosses_at place w) lost one.0 one.2 one.1))
      ∙ ap (λ (l : List ℕ). are_met (lost ++ l) walks) (sym one.3) ∙ met in
      true≢false (sym again ∙ never))

  -- one of the walk's links leads to a cut
  pub can_by_one : (more : ℕ) → 0 < more → (place : ℕ) → Contains walk.places.items place
      → CanCut walks (lost ++ place ∷ []) (more - 1) → CanCut walks lost more
  can_by_one more some place has can = record {
    others = place ∷ can.others;
    few = let few = can.few in omega (arith, few, some);
    crossed = All-cons (IsCrossed walks) place can.others (walk, there, place_crossed walk place has) can.crossed;
    met = ap (λ (l : List ℕ). are_met l walks) (sym (append_assoc lost (place ∷ []) can.others)) ∙ can.met;
  }

-- walks that are met are met by more links
met_by_more : (walk : OpenWalk) (lost more : List ℕ) → is_met lost walk ≡ true → is_met (lost ++ more) walk ≡ true
met_by_more walk lost more met =
    any_append (λ place. crosses_at place walk) lost more ∙ or_left (is_met lost walk) (is_met more walk) met

pub all_met_by_more : (walks : List OpenWalk) (lost more : List ℕ) → are_met lost walks ≡ true → are_met (lost ++ more) walks ≡ true
all_met_by_more [] lost more met = refl
all_met_by_more (walk ∷ walks) lost more met =
    let parts = and_parts (is_met lost walk) (are_met lost walks) met in
    ap (λ (b : Bool). b && are_met (lost ++ more) walks) (met_by_more walk lost more parts.0)
    ∙ all_met_by_more walks lost more parts.1

pub cut_already : (walks : List OpenWalk) (lost : List ℕ) (more : ℕ) → are_met lost walks ≡ true → CanCut walks lost more
cut_already walks lost more met = record {
  others = [];
  few = omega arith;
  crossed = λ k d within. absurd (omega (arith, within));
  met = ap (λ (l : List ℕ). are_met l walks) (append-nil lost) ∙ met;
}

-- no walk is met by no link
pub none_meets : (walks : List OpenWalk) → 0 < length walks → CannotCut walks [] 0
none_meets [] some others few = absurd (omega (arith, some))
none_meets (walk ∷ walks) some [] few = refl
none_meets (walk ∷ walks) some (other ∷ others) few = absurd (omega (arith, few))
