-- Two answers under the same options use one option and show the same paths.
use Rattle.std.proofs.Common.{◌≡◌, ℕ, List, [], ◌∷◌, map, All, Option, Some, None, refl, sym, ap, subst, ◌∙◌, inl, inr, arith}
use Rattle.std.specs.Prelude.{◌⊎◌, slice_get}
use Rattle.std.proofs.lemmas.Bool.{cases_lt}
use Rattle.std.proofs.lemmas.Option.{same_Some, slice_get_within, get_or_from_slice_get}
use Rattle.path_server.specs.Lookup.{Selection}
use Rattle.policy_expr.specs.Options.{WeighedRules}
use Rattle.combinator.specs.Candidate.{PathValue, HasNone, AreSpelled}
use Rattle.combinator.specs.Order.{header_and_walk}
use Rattle.combinator.specs.Answer.{IsAnswer, question_under, GoesBefore, IsUsed, AnswersWith}
use Rattle.combinator.proofs.Agreeing.{answers_agree}

-- of two options one goes before the other, or they are one
which : (i : ℕ) (one : WeighedRules) (j : ℕ) (other : WeighedRules)
    → GoesBefore i one j other ⊎ (GoesBefore j other i one ⊎ (i ≡ j))
which i one j other = elim (cases_lt other.weight one.weight) [
  | inl lighter ↦ inl (inl lighter)
  | inr le ↦ elim (cases_lt one.weight other.weight) [
    | inl heavier ↦ inr (inl (inl heavier))
    | inr ge ↦ elim (cases_lt i j) [
      | inl before ↦ inl (inr (omega arith, before))
      | inr later ↦ elim (cases_lt j i) [
        | inl behind ↦ inr (inl (inr (omega arith, behind)))
        | inr upto ↦ inr (inr (omega arith))
      ]
    ]
  ]
]

module _ (set : Selection) (src dst : ℕ) (options : List WeighedRules) (limit : ℕ) where
  some_path : (used : ℕ) (paths : List PathValue) (is : IsUsed set src dst options limit used paths)
      → HasNone (question_under set src dst is.option) → ⊥
  some_path used [] is none = absurd (let some = is.some in omega arith)
  some_path used (path ∷ paths) is none = none path (is.answer.best 0 path is.some).candidate

  not_before : (i j : ℕ) (paths others : List PathValue) (one : IsUsed set src dst options limit i paths) (other : IsUsed set src dst options limit j others)
      → GoesBefore i one.option j other.option → ⊥
  not_before i j paths others one other before = some_path i paths one (other.first i one.option one.there before)

  same_used : (i j : ℕ) (paths others : List PathValue) → IsUsed set src dst options limit i paths
      → IsUsed set src dst options limit j others → i ≡ j
  same_used i j paths others one other = elim (which i one.option j other.option) [
    | inl before ↦ absurd (not_before i j paths others one other before)
    | inr rest ↦ elim rest [
      | inl behind ↦ absurd (not_before j i others paths other one behind)
      | inr same ↦ same
    ]
  ]

  there_none : (i : ℕ) (paths : List PathValue) → IsUsed set src dst options limit i paths
      → All (λ option. HasNone (question_under set src dst option)) options → ⊥
  there_none i paths is none =
      some_path i paths is
      (subst (λ (option : WeighedRules). HasNone (question_under set src dst option)) (get_or_from_slice_get options i is.option is.option is.there)
      (none i is.option (slice_get_within options i is.option is.there)))

  pub options_agree : (used also : Option ℕ) (paths others : List PathValue)
      → ((option : WeighedRules) → AreSpelled (question_under set src dst option))
      → AnswersWith set src dst options limit used paths → AnswersWith set src dst options limit also others
      → (used ≡ also) × (map header_and_walk paths ≡ map header_and_walk others)
  options_agree None None paths others spelled one other = (refl, ap (map header_and_walk) (one.0 ∙ sym other.0))
  options_agree None (Some j) paths others spelled one other = absurd (there_none j others other one.1)
  options_agree (Some i) None paths others spelled one other = absurd (there_none i paths one other.1)
  options_agree (Some i) (Some j) paths others spelled one other =
      let same = same_used i j paths others one other in
      let option : one.option ≡ other.option =
      same_Some one.option other.option (sym one.there ∙ ap (slice_get options) same ∙ other.there) in
      let answer : IsAnswer (question_under set src dst one.option) limit others =
      subst (λ (o : WeighedRules). IsAnswer (question_under set src dst o) limit others) (sym option) other.answer in
      (ap Some same, answers_agree (question_under set src dst one.option) limit paths others (spelled one.option) one.answer answer)
