-- One AS more.
use Rattle.std.proofs.Common.{ℕ, Bool, sym, ap, ◌∙◌}
use Rattle.std.specs.Prelude.{◌||◌, ◌&&◌, ◌==◌}
use mathlib.Core.Path.{fun_ext}
use Rattle.network_view.specs.Extent.{is_central}
use Rattle.network_view.proofs.Nearness.{central_next}
use Rattle.network_view.proofs.extent.central.Goals as goal

pub loop-one-preserved : goal.loop-one-preserved
loop-one-preserved c = fun_ext (λ (q : ℕ).
    let one = c.one-item.result in
    c.in_ok-add_central.ensures q
    ∙ ap (λ (these : ℕ → Bool). these q || (is_central c.args.centre.now one && (one.ia == q))) c.loop-one.invariant
    ∙ sym (central_next c.args.centre.now c.args.ases.now c.loop-one.one-index one q c.loop-one-test.true c.one-item.is))
