use Rattle.std.proofs.Common.{◌≤◌, ◌<◌, drop, take, length, ap, sym, subst, ◌∙◌, arith}
use Rattle.std.specs.List.{AllWithin}
use Rattle.std.specs.List.Sorted.{IsNonDecreasingBy}
use Rattle.std.proofs.lemmas.Bool.{and_from, and_left, and_right, le-leb, lt-leb}
use Rattle.std.proofs.lemmas.List.{length-drop}
use Rattle.std.proofs.lemmas.List.Sorted.{IsNonDecreasingBy-drop, IsNonDecreasingBy-take}
use Rattle.path_server.specs.Index.{rank_at}
use Rattle.path_server.specs.inner.Index.{ends_number, lies_between}
use Rattle.path_server.proofs.Ranks.{part_is_kept, part_behind}
use Rattle.path_server.proofs.index.range.Goals as goal

pub end_of-requires : goal.end_of-requires
end_of-requires c =
    subst (IsNonDecreasingBy (rank_at c.args.segments.now)) (sym c.split_at.ensures.back)
    (IsNonDecreasingBy-drop (rank_at c.args.segments.now) c.start_of.result c.args.index.now c.requires)

pub returns-clause-part : goal.returns-clause-part
returns-clause-part c =
    let index = c.args.index.now in
    let from = c.start_of.result in
    let ranks = rank_at c.args.segments.now in
    let start = c.start_of.ensures in
    let end = c.end_of.ensures in
    let back = c.split_at.ensures.back in
    let long = length-drop from index in
    let short = ap length back in
    let below =
    part_behind (λ place. ranks place ≤ ends_number c.args.high) index from 0 c.end_of.result (subst (λ rest. AllWithin (λ place. ranks place ≤ ends_number c.args.high) rest 0 c.end_of.result) back end.below) in
    let above =
    part_behind (λ place. ends_number c.args.high < ranks place) index from c.end_of.result (length (drop from index)) (subst (λ rest. AllWithin (λ place. ends_number c.args.high < ranks place) rest c.end_of.result (length rest)) back end.rest) in
    ap (take c.end_of.result) back ∙ part_is_kept
    (lies_between c.args.segments.now (ends_number c.args.low) (ends_number c.args.high)) index from c.end_of.result
    (omega (arith, end.within, start.within))
    (λ k d low high. and_left _ _ (lt-leb _ _ (start.below k d low high)))
    (λ k d low high. and_from _ _ (le-leb _ _ (start.rest k d low (omega (arith, end.within, start.within)))) (le-leb _ _ (below k d (omega arith) high)))
    (λ k d low high. and_right _ _ (lt-leb _ _ (above k d low (omega (arith, start.within)))))

pub returns-clause-ordered : goal.returns-clause-ordered
returns-clause-ordered c =
    let order = rank_at c.args.segments.now in
    let rest = IsNonDecreasingBy-drop order c.start_of.result c.args.index.now c.requires in
    IsNonDecreasingBy-take order c.end_of.result _
    (subst (IsNonDecreasingBy order) (sym c.split_at.ensures.back) rest)
