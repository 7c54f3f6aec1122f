-- The ASes so far.
use Rattle.std.proofs.Common.{◌≡◌, ◌++◌, take}
use Rattle.std.specs.Prelude.{nat_eq}
use Rattle.std.specs.HashSet.{contains}
use Rattle.std.specs.String.{string_bytes}
use Rattle.network_view.specs.Dot.{listed_as, listed_text}
use Rattle.network_view.proofs.dot.add_listed.Given as goal

abbrev pub invariant-loop-one : goal.invariant-loop-one
invariant-loop-one l = string_bytes l.text ≡ string_bytes l.initial.text
    ++ listed_text (listed_as l.detailed l.scene.at.now) (contains nat_eq l.scene.inside.now)
    (contains nat_eq l.scene.drawn.now) (take l.one-index l.scene.ases.now)
