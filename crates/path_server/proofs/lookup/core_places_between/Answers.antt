use Rattle.std.proofs.Common.{ℕ, List, ◌^◌, ◌<◌, ◌++◌, arith, ap, ◌∙◌}
use Rattle.std.specs.List.{flat_map}
use Rattle.std.proofs.lemmas.List.Elements.{All-from_get_or}
use Rattle.path_server.specs.inner.Index.{core_places, is_in}
use Rattle.path_server.specs.inner.Blocks.{joined}
use Rattle.path_server.proofs.Growing.{index_rises}
use Rattle.path_server.proofs.Joining.{joining_is_kept}
use Rattle.path_server.proofs.lookup.core_places_between.Goals as goal

pub returns : goal.returns
returns c =
    let segments = c.args.segments.now in
    let index = joined c.args.blocks.now in
    let near = c.args.near.now in
    let far = c.args.far.now in
    let places : List ℕ → List ℕ → List ℕ = λ firsts lasts. flat_map (λ last. flat_map (core_places segments index c.args.now last) firsts) lasts in
    let first = c.in_ok-add_between.ensures ∙ ap (λ items. items ++ places near far) c.new-places.ensures.items in
    let added = c.in_ok-add_between-2.ensures ∙ ap (λ items. items ++ places far near) first in
    let nears = All-from_get_or (λ ia. ia < 2 ^ 64) near 0 (λ i within. omega (arith, c.type_inv.near i)) in
    let fars = All-from_get_or (λ ia. ia < 2 ^ 64) far 0 (λ i within. omega (arith, c.type_inv.far i)) in
    joining_is_kept segments index c.put_in_order.new.places.items near far c.requires.index nears fars c.args.now c.put_in_order.ensures.rises
    (λ i. c.put_in_order.ensures.same i ∙ ap (λ places. is_in places i) added)

pub add_between-requires-clause-rises : goal.add_between-requires-clause-rises
add_between-requires-clause-rises c = index_rises c.args.segments.now (joined c.args.blocks.now) c.requires.index (omega arith)

pub add_between-requires-2-clause-rises : goal.add_between-requires-2-clause-rises
add_between-requires-2-clause-rises c = index_rises c.args.segments.now (joined c.args.blocks.now) c.requires.index (omega arith)
