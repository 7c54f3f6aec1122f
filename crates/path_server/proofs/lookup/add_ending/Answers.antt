use Rattle.std.proofs.Common.{ℕ, List, OnOk, ◌^◌, ◌<◌, ◌++◌, filter, arith, sym, ap, subst, ◌∙◌, ◌≡◌}
use Rattle.std.specs.List.{flat_map}
use Rattle.std.specs.List.Sorted.{IsNonDecreasingBy}
use Rattle.std.proofs.lemmas.List.Elements.{All-from_get_or}
use Rattle.path_segment.specs.declared.kind.SegKind.TheVariants.{Core}
use Rattle.path_server.specs.Index.{rank_at, rank_between}
use Rattle.path_server.specs.inner.Index.{core_places, ends_number, lies_between}
use Rattle.path_server.specs.inner.Blocks.{Block, joined}
use Rattle.path_server.proofs.Found.{block_rises}
use Rattle.path_server.proofs.Joined.{joined_one}
use Rattle.path_server.proofs.Joining.{all_ending_first}
use Rattle.path_server.proofs.lookup.add_ending.Goals as goal

pub range-same_end-requires : goal.range-same_end-requires
range-same_end-requires c =
    let d = c.block-item.result in
    let same = c.deref.ensures.value ∙ ap (λ (b : Block). b.items) c.block-item.is in
    subst (IsNonDecreasingBy (rank_at c.args.segments.now)) (sym same)
    (block_rises c.args.segments.now c.between.result.now 0 d c.between.ensures.rises (omega (arith, c.in-len1.len_at_least, c.in-len1.len_below)))

pub returns-in-len1 : goal.returns-in-len1
returns-in-len1 c =
    let segments = c.args.segments.now in
    let index = joined c.args.blocks.now in
    let firsts = c.args.firsts.now in
    let last = c.args.last in
    let some = joined c.between.result.now in
    let d = c.block-item.result in
    let low = ends_number c.new-low.result in
    let high = ends_number c.new-high.result in
    let one = c.deref.ensures.value ∙ ap (λ (b : Block). b.items) c.block-item.is ∙ sym (joined_one c.between.result.now d (omega (arith, c.in-len1.len_at_least, c.in-len1.len_below))) in
    let part = c.range-same_end.ensures.part ∙ ap (filter (lies_between segments low high)) one ∙ c.between.ensures.part
    ∙ ap (λ n. filter (lies_between segments n high) index) c.new-low.ensures
    ∙ ap (λ n. filter (lies_between segments (rank_between Core 0 last) n) index) c.new-high.ensures in
    let small = All-from_get_or (λ ia. ia < 2 ^ 64) firsts 0 (λ i within. omega (arith, c.type_inv.firsts i)) in
    subst (λ found. OnOk c.add_among.result (c.add_among.new.places.items ≡ c.args.places.now.items ++ found))
    (ap (λ places. flat_map (core_places segments places c.args.now last) firsts) part ∙ all_ending_first segments index c.args.now last firsts small)
    c.add_among.ensures

pub returns-in_default : goal.returns-in_default
returns-in_default c =
    let segments = c.args.segments.now in
    let index = joined c.args.blocks.now in
    let firsts = c.args.firsts.now in
    let last = c.args.last in
    let some = joined c.between.result.now in
    let high = ends_number c.new-high.result in
    let lies : ℕ → ℕ → List ℕ → List ℕ = λ low up. filter (lies_between segments low up) in
    let part = subst (λ n. lies (rank_between Core 0 last) n some ≡ lies (rank_between Core 0 last) n index) c.new-high.ensures
    (subst (λ n. lies n high some ≡ lies n high index) c.new-low.ensures c.between.ensures.part) in
    let small = All-from_get_or (λ ia. ia < 2 ^ 64) firsts 0 (λ i within. omega (arith, c.type_inv.firsts i)) in
    subst (λ found. OnOk c.add_from.result (c.add_from.new.places.items ≡ c.args.places.now.items ++ found))
    (sym (all_ending_first segments some c.args.now last firsts small)
    ∙ ap (λ places. flat_map (core_places segments places c.args.now last) firsts) part
    ∙ all_ending_first segments index c.args.now last firsts small)
    c.add_from.ensures
