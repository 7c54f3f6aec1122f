use Rattle.std.proofs.Common.{◌≡◌, map, sym, ap, ◌∙◌}
use Rattle.std.specs.List.{AllByRecursion}
use Rattle.std.specs.Ordering.{nat_cmp}
use Rattle.std.specs.Cmp.Lexicographic.{slice_cmp}
use Rattle.path_verifier.specs.Header.{len_of}
use Rattle.combinator.specs.inner.Front.{pieces_in}
use Rattle.combinator.specs.inner.Search.{HasFields}
use Rattle.combinator.specs.inner.Words.{hops_bytes}
use Rattle.combinator.specs.declared.chosen.Chosen.{Chosen}
use Rattle.combinator.proofs.Numbers.{each_hops_cmp, hops_in_turn, last_decides, first_decides, later_decides}
use Rattle.combinator.proofs.chosen.Chosen.compare_hop_fields.Goals as goal

-- the order, as a match sees the pieces
turns : (one other seen also : Chosen) → one ≡ seen → other ≡ also
    → AllByRecursion HasFields (pieces_in one) → AllByRecursion HasFields (pieces_in other)
    → map len_of (pieces_in one) ≡ map len_of (pieces_in other)
    → slice_cmp nat_cmp (hops_bytes (pieces_in one)) (hops_bytes (pieces_in other))
    ≡ each_hops_cmp (pieces_in seen) (pieces_in also)
turns one other seen also is too has fits same =
    hops_in_turn (pieces_in one) (pieces_in other) has fits same
    ∙ ap (λ (x : Chosen). each_hops_cmp (pieces_in x) (pieces_in other)) is
    ∙ ap (λ (x : Chosen). each_hops_cmp (pieces_in seen) (pieces_in x)) too

pub returns-in-Equal : goal.returns-in-Equal
returns-in-Equal c =
    let all = turns c.args.self.now c.args.other.now _ _ c.in-Two-Two.is-0 c.in-Two-Two.is-1 c.known.ensures.fields c.known-2.ensures.fields c.requires in
    c.compare_hop_fields-in-Equal.ensures ∙ last_decides _ _ _ all (sym c.compare_hop_fields-in-Two-Two.ensures ∙ c.in-Equal.is)

pub returns-in_default-compare_hop_fields : goal.returns-in_default-compare_hop_fields
returns-in_default-compare_hop_fields c =
    let all = turns c.args.self.now c.args.other.now _ _ c.in-Two-Two.is-0 c.in-Two-Two.is-1 c.known.ensures.fields c.known-2.ensures.fields c.requires in
    c.compare_hop_fields-in-Two-Two.ensures
    ∙ first_decides _ _ _ all (λ equal. c.in_default-compare_hop_fields.not-Equal (c.compare_hop_fields-in-Two-Two.ensures ∙ equal))

pub returns-in-Equal-compare_hop_fields-2 : goal.returns-in-Equal-compare_hop_fields-2
returns-in-Equal-compare_hop_fields-2 c =
    let all = turns c.args.self.now c.args.other.now _ _ c.in-Three-Three.is-0 c.in-Three-Three.is-1 c.known.ensures.fields c.known-2.ensures.fields c.requires in
    let later = later_decides _ _ _ all (sym c.compare_hop_fields-in-Three-Three.ensures ∙ c.in-Equal-compare_hop_fields.is) in
    c.compare_hop_fields-in-Equal-compare_hop_fields-2.ensures
    ∙ last_decides _ _ _ later (sym c.compare_hop_fields-in-Equal-compare_hop_fields.ensures ∙ c.in-Equal-compare_hop_fields-2.is)

pub returns-in_default-compare_hop_fields-3 : goal.returns-in_default-compare_hop_fields-3
returns-in_default-compare_hop_fields-3 c =
    let all = turns c.args.self.now c.args.other.now _ _ c.in-Three-Three.is-0 c.in-Three-Three.is-1 c.known.ensures.fields c.known-2.ensures.fields c.requires in
    let later = later_decides _ _ _ all (sym c.compare_hop_fields-in-Three-Three.ensures ∙ c.in-Equal-compare_hop_fields.is) in
    c.compare_hop_fields-in-Equal-compare_hop_fields.ensures
    ∙ first_decides _ _ _ later (λ equal. c.in_default-compare_hop_fields-3.not-Equal (c.compare_hop_fields-in-Equal-compare_hop_fields.ensures ∙ equal))

pub returns-in_default-compare_hop_fields-2 : goal.returns-in_default-compare_hop_fields-2
returns-in_default-compare_hop_fields-2 c =
    let all = turns c.args.self.now c.args.other.now _ _ c.in-Three-Three.is-0 c.in-Three-Three.is-1 c.known.ensures.fields c.known-2.ensures.fields c.requires in
    c.compare_hop_fields-in-Three-Three.ensures
    ∙ first_decides _ _ _ all (λ equal. c.in_default-compare_hop_fields-2.not-Equal (c.compare_hop_fields-in-Three-Three.ensures ∙ equal))
