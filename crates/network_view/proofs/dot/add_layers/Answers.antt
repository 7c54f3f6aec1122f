-- The layers are those of the network.
use Rattle.std.proofs.Common.{◌≡◌, ◌++◌, ℕ, map, ap, ◌∙◌, subst}
use Rattle.std.specs.Prelude.{OnOk, nat_eq}
use Rattle.std.specs.HashSet.{contains}
use Rattle.std.specs.String.{string_bytes}
use Rattle.scion_topology.specs.Network.{Network}
use Rattle.network_view.specs.Layered.{layers_text}
use Rattle.network_view.specs.Layers.{layer_by, layer_of}
use Rattle.network_view.proofs.dot.add_layers.Goals as goal

pub returns : goal.returns
returns c =
    let scene = c.args.scene.now in
    let network : Network = record { ases = scene.ases.now; links = scene.links.now } in
    let same : layer_by (map (contains nat_eq) c.deref.result.now) ≡ layer_of network =
    ap (λ sets. layer_by (map (contains nat_eq) sets)) c.deref.ensures.value ∙ ap layer_by c.in_ok-sets.ensures in
    subst (λ (layers : ℕ → ℕ). OnOk c.add_layers.result (string_bytes c.add_layers.new.text
    ≡ string_bytes c.args.text.now ++ layers_text scene.at.now (contains nat_eq scene.inside.now)
    (contains nat_eq scene.drawn.now) layers scene.ases.now 9)) same c.add_layers.ensures
