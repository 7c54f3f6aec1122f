-- One AS more, if it is of the layer.
use Rattle.std.proofs.Common.{◌≡◌, ℕ, ◌+◌, ◌++◌, Bool, List, length, length-append, map, take, sym, ap, ◌∙◌, arith}
use Rattle.std.specs.Prelude.{nat_eq}
use Rattle.std.specs.HashSet.{contains}
use Rattle.std.specs.String.{string_bytes}
use Rattle.std.proofs.lemmas.List.{append_assoc}
use Rattle.scion_topology.specs.declared.network.AsEntry.{AsEntry}
use Rattle.network_view.specs.Layered.{cells_text}
use Rattle.network_view.specs.Layers.{if_of, layer_ases, layer_by}
use Rattle.network_view.proofs.Cells.{cells_append, layer_next, of_one}
use Rattle.network_view.proofs.layered.add_layer.Goals as goal

pub loop-one-preserved : goal.loop-one-preserved
loop-one-preserved c =
    let layer = c.args.layer.now in
    let scene = c.args.scene.now in
    let layer_of : ℕ → ℕ = layer_by (map (contains nat_eq) layer.sets.now) in
    let drawn : ℕ → Bool = contains nat_eq scene.drawn.now in
    let inside : ℕ → Bool = contains nat_eq scene.inside.now in
    let one = c.one-item.result in
    let i = c.loop-one.one-index in
    let front = layer_ases layer_of drawn (take i scene.ases.now) layer.number in
    let ones = if_of drawn layer_of layer.number one in
    let next = layer_next layer_of drawn layer.number scene.ases.now i one c.loop-one-test.true c.one-item.is in
    let before = c.loop-one.invariant in
    let starts : c.loop-one.place ≡ 0 + length front = before.count
    ∙ (let same : length front ≡ 0 + length front = omega arith in same) in
    let short = of_one drawn layer_of layer.number one in
    let few = before.few in
    let place = c.in_ok-behind.ensures.place in
    record {
      text = c.in_ok-behind.ensures.text
          ∙ ap (λ (t : List ℕ). t ++ cells_text scene.at.now inside layer.first_row c.loop-one.place ones) before.text
          ∙ append_assoc (string_bytes c.args.text.now) (cells_text scene.at.now inside layer.first_row 0 front)
          (cells_text scene.at.now inside layer.first_row c.loop-one.place ones)
          ∙ ap (λ (t : List ℕ). string_bytes c.args.text.now ++ t)
          (ap (λ (p : ℕ). cells_text scene.at.now inside layer.first_row 0 front ++ cells_text scene.at.now inside layer.first_row p ones) starts
          ∙ sym (cells_append scene.at.now inside layer.first_row 0 front ones)
          ∙ ap (cells_text scene.at.now inside layer.first_row 0) (sym next));
      count = place ∙ ap (λ (p : ℕ). p + length ones) before.count ∙ sym (length-append front ones)
          ∙ ap (λ (ases : List AsEntry). length ases) (sym next);
      few = omega (arith, place, few, short);
    }
