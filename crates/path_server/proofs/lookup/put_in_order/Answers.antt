use Rattle.std.proofs.Common.{◌≡◌, nat_eq, ltb, rules, subst, sym, ap, ◌∙◌}
use Rattle.std.specs.List.Sorted.{IsStrictlyIncreasing}
use Rattle.std.proofs.lemmas.Fn.{always_returns_same}
use Rattle.std.proofs.lemmas.List.Filters.{dedup_is}
use Rattle.std.proofs.lemmas.List.Sorted.{list_any-IsPermutation}
use Rattle.std.proofs.lemmas.Map.Keys.{IsStrictlyIncreasing-dedup}
use Rattle.path_server.specs.inner.Index.{is_in}
use Rattle.path_server.proofs.Orders.{any-dedup, rises_where_checked}
use Rattle.path_server.proofs.lookup.put_in_order.Goals as goal

pub returns-then-not-is_sorted_by-clause-rises : goal.returns-then-not-is_sorted_by-clause-rises
returns-then-not-is_sorted_by-clause-rises c =
    subst IsStrictlyIncreasing (sym (dedup_is nat_eq _ _ c.dedup.ensures.filtered))
    (IsStrictlyIncreasing-dedup _ c.sort_unstable.ensures.sorted)

pub returns-then-not-is_sorted_by-clause-same : goal.returns-then-not-is_sorted_by-clause-same
returns-then-not-is_sorted_by-clause-same c = λ place. (
    ap (λ xs. is_in xs place) (dedup_is nat_eq _ _ c.dedup.ensures.filtered)
    ∙ any-dedup (nat_eq place) _ ∙ sym (list_any-IsPermutation (nat_eq place) _ _ c.sort_unstable.ensures.permutation))

pub returns-else-not-is_sorted_by-clause-rises : goal.returns-else-not-is_sorted_by-clause-rises
returns-else-not-is_sorted_by-clause-rises c =
    let returns = always_returns_same _ (λ a r. r ≡ ltb a.0.now a.1.0.now) _ (λ a r q k. search rules) in
    subst IsStrictlyIncreasing c.deref.ensures.value
    (rises_where_checked _ _ (c.is_sorted_by.ensures.cases ltb returns) c.if-not-is_sorted_by.false)
