-- The layers so far, and the first row of the next.
use Rattle.std.proofs.Common.{◌≡◌, ◌≤◌, ◌*◌, ◌^◌, ◌++◌, map}
use Rattle.std.specs.Prelude.{nat_eq}
use Rattle.std.specs.HashSet.{contains}
use Rattle.std.specs.String.{string_bytes}
use Rattle.network_view.specs.Layered.{layers_text}
use Rattle.network_view.specs.Layers.{first_row, layer_by}
use Rattle.network_view.proofs.layered.add_layers.Given as goal

abbrev pub invariant-loop-number : goal.invariant-loop-number
invariant-loop-number l = record {
  text : string_bytes l.text ≡ string_bytes l.initial.text
      ++ layers_text l.scene.at.now (contains nat_eq l.scene.inside.now) (contains nat_eq l.scene.drawn.now)
      (layer_by (map (contains nat_eq) l.sets)) l.scene.ases.now l.number;
  row : l.first_row ≡ first_row (layer_by (map (contains nat_eq) l.sets)) (contains nat_eq l.scene.drawn.now)
      l.scene.ases.now l.number;
  few : l.first_row ≤ l.number * 2 ^ 59;
}
