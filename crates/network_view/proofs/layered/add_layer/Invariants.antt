-- The ASes so far that are of the layer.
use Rattle.std.proofs.Common.{◌≡◌, ◌≤◌, ◌++◌, length, map, take}
use Rattle.std.specs.Prelude.{nat_eq}
use Rattle.std.specs.HashSet.{contains}
use Rattle.std.specs.String.{string_bytes}
use Rattle.network_view.specs.Layered.{cells_text}
use Rattle.network_view.specs.Layers.{layer_ases, layer_by}
use Rattle.network_view.proofs.layered.add_layer.Given as goal

abbrev pub invariant-loop-one : goal.invariant-loop-one
invariant-loop-one l = record {
  text : string_bytes l.text ≡ string_bytes l.initial.text
      ++ cells_text l.scene.at.now (contains nat_eq l.scene.inside.now) l.layer.first_row 0
      (layer_ases (layer_by (map (contains nat_eq) l.layer.sets.now)) (contains nat_eq l.scene.drawn.now)
      (take l.one-index l.scene.ases.now) l.layer.number);
  count : l.place ≡ length (layer_ases (layer_by (map (contains nat_eq) l.layer.sets.now))
      (contains nat_eq l.scene.drawn.now) (take l.one-index l.scene.ases.now) l.layer.number);
  few : l.place ≤ l.one-index;
}
