-- One link more.
use Rattle.std.proofs.Common.{ℕ, Bool, sym, ap, ◌∙◌}
use Rattle.std.specs.Prelude.{◌||◌, ◌&&◌, ◌==◌, nat_eq}
use Rattle.std.specs.HashSet.{contains}
use mathlib.Core.Path.{fun_ext}
use Rattle.network_view.proofs.Nearness.{neighbours_next}
use Rattle.network_view.proofs.extent.with_neighbours.Goals as goal

pub loop-link-preserved : goal.loop-link-preserved
loop-link-preserved c = fun_ext (λ (q : ℕ).
    let link = c.link-item.result in
    let these : ℕ → Bool = contains nat_eq c.args.these.now in
    c.in_ok-add_if-2.ensures q
    ∙ ap (λ (b : Bool). b || (these link.b.ia && (link.a.ia == q))) (c.in_ok-add_if.ensures q
    ∙ ap (λ (all : ℕ → Bool). all q || (these link.a.ia && (link.b.ia == q))) c.loop-link.invariant)
    ∙ sym (neighbours_next c.args.links.now these c.loop-link.link-index link q c.loop-link-test.true c.link-item.is))
