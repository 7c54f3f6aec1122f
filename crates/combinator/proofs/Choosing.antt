-- The choice of the option that is used.
use Rattle.std.proofs.Common.{◌≡◌, ℕ, ◌<◌, List, [], ◌∷◌, length, get_or, All, Option, Some, None, refl, sym, ap, subst, ◌∙◌, inl, inr, arith}
use Rattle.std.specs.Prelude.{◌⊎◌, slice_get, IfOk, IfSome, Result, Ok, Err}
use Rattle.std.proofs.lemmas.Option.{same_Some, slice_get_within, slice_get-get_or}
use Rattle.path_server.specs.Lookup.{Selection}
use Rattle.policy_expr.specs.Options.{WeighedRules}
use Rattle.path_verifier.specs.Piece.{PieceValue}
use Rattle.path_verifier.specs.Accepted.{AreLive}
use Rattle.policy_expr.specs.Policy.{Rules}
use Rattle.combinator.specs.Candidate.{AreSpelled, Question, PathValue, HasNone, IsCandidate, IsOf, question_of}
use Rattle.combinator.specs.Choice.{ChosenValue}
use Rattle.combinator.specs.Answer.{IsAnswer, question_under, GoesBefore, AnswersWith}
use Rattle.combinator.specs.inner.Choice.{HaveNone, IsChoiceOf, LeavesPath, MayChoose}
use Rattle.combinator.specs.inner.Group.{GroupValue}
use Rattle.combinator.specs.inner.Over.{AreGroupsOf}
use Rattle.combinator.specs.inner.Search.{HasFields, HaveAll}
use Rattle.combinator.proofs.Spelled.{all_spelled}
use Rattle.combinator.proofs.Wanted.{any_rules}

-- the groups of all usable pieces serve each policy
pub may_choose : (set : Selection) (src dst : ℕ) (groups : List GroupValue) (usable_pieces : List PieceValue)
    → All (IsOf set) usable_pieces → All (λ (piece : PieceValue). AreLive set.moment (piece ∷ [])) usable_pieces
    → ((rules : Rules) → HaveAll (question_of set src dst rules) usable_pieces) → All HasFields usable_pieces
    → AreGroupsOf groups usable_pieces → MayChoose set src dst groups
may_choose set src dst groups usable_pieces own live whole fields are rules = record {
  usable_pieces = usable_pieces;
  are = are;
  own = own;
  live = live;
  whole = whole rules;
  spelled = all_spelled (question_of set src dst rules) usable_pieces (whole rules) fields;
}

-- what may be searched under each option has headers of the grammar under each
pub each_spelled : (set : Selection) (src dst : ℕ) (groups : List GroupValue) → MayChoose set src dst groups
    → (option : WeighedRules) → AreSpelled (question_under set src dst option)
each_spelled set src dst groups search option = (search option.rules).spelled

-- an answer without a path, where it may have some, says that there is none
pub none_there : (question : Question) (limit : ℕ) (paths : List PathValue) → 0 < limit → paths ≡ []
    → IsAnswer question limit paths → HasNone question
none_there question limit paths some empty is path candidate =
    let count : length paths ≡ 0 = ap (λ (xs : List PathValue). length xs) empty in
    elim (is.whole path candidate) [
      | inl one ↦ (let within = one.2 in absurd (omega (arith, within, count)))
      | inr out ↦ (let full = out.full in absurd (omega (arith, full, count, some)))
    ]

pub not_empty : (paths : List PathValue) → (paths ≡ [] → ⊥) → 0 < length paths
not_empty [] some = absurd (some refl)
not_empty (path ∷ paths) some = omega arith

-- what a result has, if it is one
pub on_ok : {X E : Type 0} (P Q : X → Type 0) (result : Result X E) → ((x : X) → P x → Q x) → IfOk result P → IfOk result Q
on_ok P Q (Ok x) goes has = goes x has
on_ok P Q (Err e) goes has = tt

module _ (set : Selection) (src dst : ℕ) (options : List WeighedRules) (limit : ℕ) where
  pub answers_none : (used : Option ℕ) (paths : List PathValue) → used ≡ None → paths ≡ []
      → HaveNone (question_under set src dst) options None → AnswersWith set src dst options limit used paths
  answers_none used paths is empty none =
      subst (λ (u : Option ℕ). AnswersWith set src dst options limit u paths) (sym is)
      (empty, λ k d within. none k (get_or options k d) (slice_get-get_or options k d within) tt)

  -- the choice is that of the option at a place
  abbrev pub IsChoiceAt : ℕ → ChosenValue → Type 0
  IsChoiceAt place choice = (option : WeighedRules) → slice_get options place ≡ Some option
      → IsChoiceOf (question_under set src dst option) limit place option.weight choice

  module _ (place : ℕ) (within : place < length options) (choice : ChosenValue) (chosen : IsChoiceAt place choice) where
    abbrev option : WeighedRules
    option = get_or options place (record { rules = any_rules; weight = 0 })

    there : slice_get options place ≡ Some option
    there = slice_get-get_or options place (record { rules = any_rules; weight = 0 }) within

    is : IsChoiceOf (question_under set src dst option) limit place option.weight choice
    is = chosen option there

    pub answers_under : (length options ≡ 1) ⊎ LeavesPath (question_under set src dst) options place
        → HaveNone (question_under set src dst) options (Some place)
        → AnswersWith set src dst options limit choice.used choice.paths
    answers_under leaves none = elim is [
      | inl under ↦ subst (λ (u : Option ℕ). AnswersWith set src dst options limit u choice.paths) (sym under.used) (record {
        option = option;
        there = there;
        some = under.some;
        answer = under.answer;
        first = λ j other at goes. none j other at
            (λ second also. subst (λ (o : WeighedRules). GoesBefore j other place o) (same_Some option second (sym there ∙ also)) goes);
      })
      | inr nothing ↦ elim leaves [
        | inl one ↦ answers_none choice.used choice.paths nothing.0 nothing.1 (λ j other at wanted.
            let also = slice_get_within options j other at in
            let same : place ≡ j = omega (arith, within, also, one) in
            subst (λ (o : WeighedRules). HasNone (question_under set src dst o))
            (same_Some option other (sym there ∙ ap (slice_get options) same ∙ at)) nothing.2)
        | inr left ↦ absurd (nothing.2 left.path
            (subst (λ (o : WeighedRules). IsCandidate (question_under set src dst o) left.path)
            (same_Some left.option option (sym left.there ∙ there)) left.candidate))
      ]
    ]

    pub has_weight : IfSome choice.used (λ used. IfSome (slice_get options used) (λ o. choice.weight ≡ o.weight))
    has_weight = elim is [
      | inl under ↦ subst (λ (u : Option ℕ). IfSome u (λ used. IfSome (slice_get options used) (λ o. choice.weight ≡ o.weight))) (sym under.used)
          (subst (λ (found : Option WeighedRules). IfSome found (λ o. choice.weight ≡ o.weight)) (sym there) under.weighs)
      | inr nothing ↦ subst (λ (u : Option ℕ). IfSome u (λ used. IfSome (slice_get options used) (λ o. choice.weight ≡ o.weight))) (sym nothing.0) tt
    ]
