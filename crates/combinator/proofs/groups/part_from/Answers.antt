use Rattle.std.proofs.Common.{◌≤◌, ◌<◌, drop, take, length, ap, sym, subst, ◌∙◌, arith}
use Rattle.std.specs.List.{AllWithin}
use Rattle.std.specs.List.Sorted.{IsNonDecreasingBy}
use Rattle.std.proofs.lemmas.Bool.{eq-eqb, ne_eqb}
use Rattle.std.proofs.lemmas.List.{length-drop}
use Rattle.std.proofs.lemmas.List.Sorted.{IsNonDecreasingBy-drop}
use Rattle.path_server.proofs.Ranks.{part_is_kept, part_behind}
use Rattle.combinator.specs.inner.Group.{begins_with, group_begins}
use Rattle.combinator.proofs.groups.part_from.Goals as goal

pub count_to-requires : goal.count_to-requires
count_to-requires c =
    subst (IsNonDecreasingBy group_begins) (sym c.split_at.ensures.back)
    (IsNonDecreasingBy-drop group_begins c.count_below.result c.args.groups.now c.requires)

pub returns : goal.returns
returns c =
    let groups = c.args.groups.now in
    let at = c.args.at in
    let from = c.count_below.result in
    let start = c.count_below.ensures in
    let end = c.count_to.ensures in
    let back = c.split_at.ensures.back in
    let long = length-drop from groups in
    let short = ap length back in
    let upto =
    part_behind (λ group. group_begins group ≤ at) groups from 0 c.count_to.result (subst (λ rest. AllWithin (λ group. group_begins group ≤ at) rest 0 c.count_to.result) back end.below) in
    let above =
    part_behind (λ group. at < group_begins group) groups from c.count_to.result (length (drop from groups)) (subst (λ rest. AllWithin (λ group. at < group_begins group) rest c.count_to.result (length rest)) back end.rest) in
    ap (take c.count_to.result) back ∙ part_is_kept (begins_with at) groups from c.count_to.result
    (omega (arith, end.within, start.within))
    (λ k d low high. ne_eqb _ _ (λ same. (let less = start.below k d low high in omega (arith, less, same))))
    (λ k d low high. (
    let least = start.rest k d low (omega (arith, end.within, start.within)) in
    let most = upto k d (omega arith) high in
    eq-eqb _ _ (omega (arith, least, most))))
    (λ k d low high. ne_eqb _ _ (λ same. (let more = above k d low (omega (arith, start.within)) in omega (arith, more, same))))
