use Rattle.std.proofs.Common.{◌≡◌, ◌≤◌, [], ◌∷◌, ◌++◌, List, ℕ, length, take, refl, sym, subst, ◌∙◌}
use Rattle.std.specs.Ordering.{nat_cmp}
use Rattle.std.specs.Cmp.Lexicographic.{slice_cmp}
use Rattle.std.specs.declared.cmp.Ordering.TheVariants.{Less}
use Rattle.path_verifier.specs.Header.{header_of}
use Rattle.combinator.specs.Candidate.{path_with}
use Rattle.combinator.specs.inner.Front.{groups_in, pieces_in}
use Rattle.combinator.proofs.Before.{before_equal_choices, lens_there}
use Rattle.combinator.proofs.Prefix.{both_groups}
use Rattle.combinator.proofs.Tried.{count_fields}
use Rattle.combinator.proofs.chosen.Chosen.comes_before.Goals as goal

pub returns : goal.returns
returns c = λ yes.
    let mine = pieces_in c.args.self.now in
    let groups = groups_in c.args.front.now ++ c.args.group.now ∷ [] in
    let numbers = c.as_slice.ensures.value ∙ c.infos.ensures in
    let bounds = c.as_slice-2.ensures.value in
    before_equal_choices (path_with mine (header_of mine)) groups c.args.further
    (both_groups (groups_in c.args.front.now) (c.args.group.now ∷ []) c.known-2.ensures (c.known-3.ensures, tt))
    c.least_infos_with.result.items refl (count_fields mine ∙ c.requires.same)
    (lens_there mine ∙ sym c.lens.ensures.value ∙ c.is_same.ensures c.if-not-is_same.false ∙ c.lens_with.ensures)
    c.least_infos_with.ensures
    (subst (λ (ns : List ℕ). length c.least_infos_with.result.items ≤ length ns) numbers
    (subst (λ (ns : List ℕ). length ns ≤ length c.as_slice.result.now) bounds (c.begins_below.ensures.within yes)))
    (subst (λ (ns : List ℕ). slice_cmp nat_cmp (take (length c.least_infos_with.result.items) ns) c.least_infos_with.result.items ≡ Less) numbers
    (subst (λ (ns : List ℕ). slice_cmp nat_cmp (take (length ns) c.as_slice.result.now) ns ≡ Less) bounds (c.begins_below.ensures.less yes)))
