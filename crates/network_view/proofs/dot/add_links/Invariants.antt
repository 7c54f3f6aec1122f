-- The links so far.
use Rattle.std.proofs.Common.{◌≡◌, ◌++◌, take}
use Rattle.std.specs.Prelude.{nat_eq}
use Rattle.std.specs.HashSet.{contains}
use Rattle.std.specs.String.{string_bytes}
use Rattle.network_view.specs.Dot.{links_text}
use Rattle.network_view.proofs.dot.add_links.Given as goal

abbrev pub invariant-loop-link : goal.invariant-loop-link
invariant-loop-link l = string_bytes l.text ≡ string_bytes l.initial.text
    ++ links_text l.form l.scene.passed.now (contains nat_eq l.scene.inside.now)
    (take l.link-index l.scene.links.now)
