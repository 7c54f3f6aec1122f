use Rattle.std.proofs.Common.{◌≡◌, ◌∙◌, ◌+◌, ap, sym, subst, arith, length, filter, take, get_or, true}
use Rattle.std.specs.List.{list_any}
use Rattle.std.specs.List.Sorted.{IsNonDecreasingBy}
use Rattle.std.proofs.lemmas.List.{length-append}
use Rattle.std.proofs.lemmas.List.Folds.{list_any_at, list_any_none}
use Rattle.std.proofs.lemmas.List.Sums.{length-filter, count_by-le-length}
use Rattle.path_segment.specs.Tests.{is_same}
use Rattle.path_server.specs.Index.{rank_at}
use Rattle.path_server.specs.inner.Index.{ends_number, lies_between, passes_at}
use Rattle.path_server.specs.inner.Blocks.{Block, joined}
use Rattle.path_server.proofs.Found.{block_rises, kept_more, kept_at_most, any_joined}
use Rattle.path_server.proofs.same_ends.alike_between.Goals as goal

pub range-places-requires : goal.range-places-requires
range-places-requires c =
    let d = c.block-item.result in
    let same = c.deref.ensures.value ∙ ap (λ (b : Block). b.items) c.block-item.is in
    subst (IsNonDecreasingBy (rank_at c.args.segments.now)) (sym same)
    (block_rises c.args.segments.now c.between-some.result.now c.loop-block.block-index d c.between-some.ensures.rises c.loop-block-test.true)

pub overflow_add-count : goal.overflow_add-count
overflow_add-count c =
    let p = lies_between c.args.segments.now (ends_number c.args.ends) (ends_number c.args.ends) in
    let some = c.between-some.result.now in
    let i = c.loop-block.block-index in
    let d = c.block-item.result in
    let same = c.deref.ensures.value ∙ ap (λ (b : Block). b.items) c.block-item.is in
    let one = ap length (c.range-places.ensures.part ∙ ap (filter p) same) in
    let more = ap length (kept_more p some i d c.loop-block-test.true) in
    let sum = length-append (filter p (joined (take i some))) (filter p (get_or some i d).items) in
    let most = kept_at_most p some (i + 1) in
    let part = ap length c.between-some.ensures.part in
    let all = length-filter p (joined c.args.blocks.now) in
    let few = count_by-le-length p (joined c.args.blocks.now) in
    omega (arith, c.loop-block.invariant.count, one, more, sum, most, part, all, few, c.requires.few)

pub returns-then-is_among-clause-stored : goal.returns-then-is_among-clause-stored
returns-then-is_among-clause-stored c =
    let p = lies_between c.args.segments.now (ends_number c.args.ends) (ends_number c.args.ends) in
    let q = passes_at (is_same c.args.segment.now) c.args.segments.now in
    let some = c.between-some.result.now in
    let i = c.loop-block.block-index in
    let d = c.block-item.result in
    let same = c.deref.ensures.value ∙ ap (λ (b : Block). b.items) c.block-item.is in
    let here : list_any q (filter p (get_or some i d).items) ≡ true =
    ap (list_any q) (sym (c.range-places.ensures.part ∙ ap (filter p) same)) ∙ sym c.is_among.ensures ∙ c.if-is_among.true in
    let there = list_any_at (λ (b : Block). list_any q (filter p b.items)) some i d c.loop-block-test.true here in
    sym there ∙ sym (any_joined q p some) ∙ ap (list_any q) c.between-some.ensures.part

pub returns-clause-stored : goal.returns-clause-stored
returns-clause-stored c =
    let p = lies_between c.args.segments.now (ends_number c.args.ends) (ends_number c.args.ends) in
    let q = passes_at (is_same c.args.segment.now) c.args.segments.now in
    let some = c.between-some.result.now in
    let none = list_any_none (λ (b : Block). list_any q (filter p b.items)) some
    (λ k d within. c.loop-block.invariant.none k d (omega (arith, c.loop-block-test.false, c.loop-block.auto.block-index-end, within))) in
    sym none ∙ sym (any_joined q p some) ∙ ap (list_any q) c.between-some.ensures.part
