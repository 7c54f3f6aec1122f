-- Two answers to one question show the same paths.
use Rattle.std.proofs.Common.{◌≡◌, ℕ, zero, suc, ◌<◌, List, [], ◌∷◌, length, get_or, map, AllPairs, refl, sym, ap, subst, ◌∙◌, inl, inr, arith}
use Rattle.std.specs.Prelude.{◌≢◌}
use Rattle.std.specs.List.{AllByRecursion, AllZip}
use Rattle.std.specs.Ordering.{ordering_reverse}
use Rattle.std.specs.declared.cmp.Ordering.{Ordering}
use Rattle.std.specs.declared.cmp.Ordering.TheVariants.{Less, Equal, Greater}
use Rattle.std.proofs.lemmas.List.Elements.{recursion_from_All}
use Rattle.path_header.specs.Value.{HeaderValue}
use Rattle.combinator.specs.Candidate.{Question, PathValue, AreSpelled}
use Rattle.combinator.specs.Order.{header_and_walk, bytes_cmp, shown_cmp, path_cmp, HaveOneWalk}
use Rattle.combinator.specs.Answer.{IsBest, IsAnswer}
use Rattle.combinator.specs.inner.Placed.{Tied, InOrder, Met}
use Rattle.combinator.proofs.Tied.{agree}
use Rattle.combinator.proofs.Ranks.{bytes_total, path_total, same_header, same_shown, tied_shown}

neither : (c : Ordering) (one other : HeaderValue) → bytes_cmp one other ≡ c → bytes_cmp one other ≢ Less
    → bytes_cmp other one ≢ Less → bytes_cmp one other ≡ Equal
neither Less one other e first second = absurd (first e)
neither Equal one other e first second = e
neither Greater one other e first second = absurd (second (bytes_total.antisymm other one ∙ ap ordering_reverse e))

-- two paths that stand for one walk show the same
pub best_is_one : (question : Question) → AreSpelled question → (one other : PathValue) → IsBest question one
    → IsBest question other → HaveOneWalk one other → header_and_walk one ≡ header_and_walk other
best_is_one question spelled one other first second same =
    let longer = first.latest other second.candidate (sym same) in
    let shorter = second.latest one first.candidate same in
    let header = same_header one.header other.header (spelled one first.candidate) (spelled other second.candidate)
    (neither (bytes_cmp one.header other.header) one.header other.header refl (second.least one first.candidate same longer) (first.least other second.candidate (sym same) shorter)) in
    cc

pub in_order : (paths : List PathValue) → AllPairs (λ one other. path_cmp one other ≡ Less) paths
    → InOrder path_cmp paths
in_order [] pairs = tt
in_order (path ∷ paths) pairs = (
  recursion_from_All (λ other. path_cmp path other ≡ Less) paths
      (λ k d within. pairs 0 (suc k) d (omega arith) (omega arith)),
  in_order paths (λ i j d less within. pairs (suc i) (suc j) d (omega arith) (omega arith)),
)

pub tied_at : (path : PathValue) (paths : List PathValue) (k : ℕ) (other : PathValue) → k < length paths
    → get_or paths k other ≡ other → path_cmp path other ≡ Equal → Tied path_cmp path paths
tied_at path [] k other within at tie = absurd (omega arith)
tied_at path (first ∷ paths) zero other within at tie =
    inl (subst (λ (one : PathValue). path_cmp path one ≡ Equal) (sym at) tie)
tied_at path (first ∷ paths) (suc k) other within at tie = inr (tied_at path paths k other (omega arith) at tie)

met : (question : Question) → AreSpelled question → (limit : ℕ) (paths : List PathValue) (path : PathValue)
    → IsAnswer question limit paths → IsBest question path → Met path_cmp limit paths path
met question spelled limit paths path answer best = elim (answer.whole path best.candidate) [
  | inl some ↦ (
      let is_best : IsBest question some.1 = subst (IsBest question) some.3 (answer.best some.0 some.1 some.2) in
      let same = best_is_one question spelled some.1 path is_best best some.4 in
      inl (tied_at path paths some.0 some.1 some.2 some.3 (tied_shown path some.1 (sym same))))
  | inr out ↦ (
      let same = best_is_one question spelled out.best path out.is_best best out.same in
      inr (
        out.full,
        recursion_from_All (λ one. path_cmp one path ≡ Less) paths
            (λ k d within. subst (λ (s : HeaderValue × _). shown_cmp (header_and_walk (get_or paths k d)) s ≡ Less) same (out.behind k d within)),
      ))
]

all_met : (question : Question) → AreSpelled question → (limit : ℕ) (paths others : List PathValue)
    → IsAnswer question limit paths → IsAnswer question limit others
    → AllByRecursion (Met path_cmp limit others) paths
all_met question spelled limit paths others one other =
    recursion_from_All (Met path_cmp limit others) paths
    (λ k d within. met question spelled limit others (get_or paths k d) other (one.best k d within))

shown_alike : (question : Question) → AreSpelled question → (paths others : List PathValue)
    → AllZip (λ one other. path_cmp one other ≡ Equal) paths others
    → AllByRecursion (IsBest question) paths → AllByRecursion (IsBest question) others
    → map header_and_walk paths ≡ map header_and_walk others
shown_alike question spelled [] [] tied best also = refl
shown_alike question spelled [] (other ∷ others) tied best also = absurd tied
shown_alike question spelled (path ∷ paths) [] tied best also = absurd tied
shown_alike question spelled (path ∷ paths) (other ∷ others) tied best also =
    let first = same_shown path other (spelled path best.0.candidate) (spelled other also.0.candidate) tied.0 in
    let later = shown_alike question spelled paths others tied.1 best.1 also.1 in
    cc

pub answers_agree : (question : Question) (limit : ℕ) (paths others : List PathValue) → AreSpelled question
    → IsAnswer question limit paths → IsAnswer question limit others
    → map header_and_walk paths ≡ map header_and_walk others
answers_agree question limit paths others spelled one other =
    shown_alike question spelled paths others
    (agree path_cmp path_total paths others limit (in_order paths one.ordered) (in_order others other.ordered) one.few other.few
    (all_met question spelled limit paths others one other) (all_met question spelled limit others paths other one))
    (recursion_from_All (IsBest question) paths one.best) (recursion_from_All (IsBest question) others other.best)
