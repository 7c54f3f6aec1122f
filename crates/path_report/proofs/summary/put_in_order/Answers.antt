-- The sort compares by the order of links.
use Rattle.std.proofs.Common.{is_lt, rules}
use Rattle.std.specs.Cmp.{IsStrictWeakOrder}
use Rattle.std.proofs.lemmas.Cmp.{back_total, nat_cmp_total, on_total, then_total}
use Rattle.std.proofs.lemmas.List.Sorted.{answers_always, ranks_by}
use Rattle.path_report.specs.declared.summary.RankedLink.{RankedLink}
use Rattle.path_report.specs.Summary.{rank_cmp}
use Rattle.path_report.proofs.summary.put_in_order.Goals as goal

links_rank : IsStrictWeakOrder (λ (one other : RankedLink). is_lt (rank_cmp one other))
links_rank =
    ranks_by (then_total (back_total (on_total (λ (one : RankedLink). one.pairs) nat_cmp_total))
    (on_total (λ (one : RankedLink). one.place) nat_cmp_total))
    (λ (one : RankedLink). one)

pub returns-clause-sorted : goal.returns-clause-sorted
returns-clause-sorted c =
    c.sort_unstable_by.ensures.sorted (λ one other. is_lt (rank_cmp one other)) links_rank
    (answers_always _ _ _ (λ f a r after called. search rules))
