-- Taking a path into an answer.
use Rattle.std.proofs.Common.{◌≡◌, ℕ, ◌<◌, ◌≤◌, List, ◌∷◌, length, take, drop, insert, All, sym, ap, subst, ◌∙◌}
use Rattle.std.proofs.lemmas.List.Elements.{All-append, All-cons, All-take, All-drop}
use Rattle.combinator.specs.Candidate.{Question, PathValue}
use Rattle.combinator.specs.Order.{path_cmp}
use Rattle.combinator.specs.Answer.{IsBest}
use Rattle.combinator.specs.inner.Placed.{InOrder, IsGap, Met}
use Rattle.combinator.proofs.Ranks.{path_total}
use Rattle.combinator.proofs.Inserted as lists
use Rattle.combinator.proofs.Inserted.{Placed, placed_of}

module _ (paths slice : List PathValue) (found : PathValue) (limit place : ℕ) (same : slice ≡ paths)
    (order : InOrder path_cmp paths) (within : place ≤ length slice)
    (gap : IsGap path_cmp found slice place) where
  inside : place ≤ length paths
  inside = subst (λ (xs : List PathValue). place ≤ length xs) same within

  placed : Placed path_cmp found place paths
  placed = placed_of path_cmp path_total place paths found order inside
      (subst (λ (xs : List PathValue). IsGap path_cmp found xs place) same gap)

  pub behind_all : length paths ≤ limit → limit ≤ place → Met path_cmp limit paths found
  behind_all few past = lists.met_behind path_cmp path_total limit paths paths place found order placed few inside past

  module _ (longer new : List PathValue) (at : longer ≡ insert paths place found) (cut : new ≡ take limit longer) where
    is : new ≡ take limit (insert paths place found)
    is = cut ∙ ap (take limit) at

    pub still_in_order : InOrder path_cmp new
    still_in_order = lists.order_new path_cmp path_total limit paths new place found order placed is

    pub now_met : Met path_cmp limit new found
    now_met = lists.met_new path_cmp path_total limit paths new place found order placed is

    pub still_met : place < limit → (path : PathValue) → Met path_cmp limit paths path → Met path_cmp limit new path
    still_met = lists.met_still path_cmp path_total limit paths new place found order placed is

    pub still_best : (question : Question) → All (IsBest question) paths → IsBest question found
        → All (IsBest question) new
    still_best question all here = subst (All (IsBest question)) (sym is)
        (All-take (IsBest question) limit (insert paths place found)
        (All-append (IsBest question) (take place paths) (found ∷ drop place paths) (All-take (IsBest question) place paths all)
        (All-cons (IsBest question) found (drop place paths) here (All-drop (IsBest question) place paths all))))
