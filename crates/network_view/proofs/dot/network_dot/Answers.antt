-- The picture of the ASes that were found.
use Rattle.std.proofs.Common.{◌≡◌, ℕ, List, subst}
use Rattle.std.specs.Prelude.{IfOk, nat_eq}
use Rattle.std.specs.HashSet.{contains}
use Rattle.std.specs.String.{string_bytes}
use Rattle.scion_topology.specs.Network.{Network}
use Rattle.network_view.proofs.Drawing.{drawn_as}
use Rattle.network_view.proofs.dot.network_dot.Goals as goal
use Rattle.std.proofs.Common.{ap, ◌∙◌}
use Rattle.network_view.specs.Dot.{form_of}

pub returns : goal.returns
returns c =
    let network : Network = record { ases = c.args.ases.now; links = c.args.links.now } in
    let same = drawn_as network c.args.extent.now c.args.passed.now c.args.at
    (contains nat_eq c.in_ok-inside.inside) (contains nat_eq c.in_ok-drawn.drawn) c.form_of-form.result
    c.in_ok-inside.ensures c.in_ok-drawn.ensures (c.form_of-form.ensures ∙ ap form_of c.drawn_count.ensures) in
    subst (λ (picture : List ℕ). IfOk c.text_of.result (λ text. string_bytes text ≡ picture)) same c.text_of.ensures
