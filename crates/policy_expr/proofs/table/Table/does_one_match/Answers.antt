use Rattle.std.proofs.Common.{◌≡◌, ◌<◌, length, Some, slice_get, sym, ap, ◌∙◌, refl, arith}
use Rattle.std.proofs.lemmas.Option.{slice_get-get_or}
use Rattle.policy_expr.proofs.Passes.{none_first, none_passed}
use Rattle.policy_expr.proofs.table.Table.does_one_match.Goals as goal

pub returns-then-matches : goal.returns-then-matches
returns-then-matches g c =
    let lines = c.args.self.now.lines.items in
    let has = c.loop-number.invariant.sub _ c.in-Some.ensures.there in
    let within : c.in-Some.number < length lines = omega (arith, c.requires c.in-Some.number has, c.args.self.now.lines.ok.0) in
    let there : slice_get lines c.in-Some.number ≡ Some c.index.result.now =
    slice_get-get_or lines c.in-Some.number c.index.result.now within ∙ ap Some (sym c.index.ensures) in
    (λ yes. (c.in-Some.number, has, (c.index.result.now, there, c.if-matches.ensures.0 yes)), λ _. refl)

pub returns : goal.returns
returns g c = (λ no. absurd (let f = no in cc), λ r. absurd (c.loop-number.invariant.none r.0 (r.1, c.in_default.ensures r.0) r.2))

pub loop-number-init : goal.loop-number-init
loop-number-init g c = rw c.members-rest.ensures (none_first c.args.self.now.lines.items c.args.wanted c.args.hop.now)

pub loop-number-preserved : goal.loop-number-preserved
loop-number-preserved g c =
    let lines = c.args.self.now.lines.items in
    let has = c.loop-number.invariant.sub _ c.in-Some.ensures.there in
    let within : c.in-Some.number < length lines = omega (arith, c.requires c.in-Some.number has, c.args.self.now.lines.ok.0) in
    let there : slice_get lines c.in-Some.number ≡ Some c.index.result.now =
    slice_get-get_or lines c.in-Some.number c.index.result.now within ∙ ap Some (sym c.index.ensures) in
    none_passed _ _ _ _ _ _ _ c.loop-number.invariant c.in-Some.ensures there (λ m. let f = c.if-matches.ensures.1 m in absurd cc)
