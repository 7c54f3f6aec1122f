use Rattle.std.proofs.Common.{◌<◌, length, refl, arith}
use Rattle.std.proofs.lemmas.Option.{slice_get-get_or}
use Rattle.policy_expr.proofs.Linking.{links_more, links_all}
use Rattle.policy_expr.proofs.table.link.Goals as goal

pub loop-number-preserved : goal.loop-number-preserved
loop-number-preserved c =
    let within : c.in-Some.number < length c.loop-number.lines =
    omega (arith, c.requires c.in-Some.number (c.loop-number.invariant.sub _ c.in-Some.ensures.there), c.loop-number.invariant.count) in
    links_more _ _ _ _ _ _ _ _ _ _ _ c.loop-number.invariant c.in-Some.ensures
    (slice_get-get_or c.loop-number.lines c.in-Some.number c.index-lines-number.result within) within c.or-line.ensures refl refl

pub returns : goal.returns
returns c = links_all _ _ _ _ _ c.loop-number.invariant c.in_default.ensures
