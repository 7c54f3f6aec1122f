-- The index at the place is the one that was changed.
use Rattle.std.proofs.Common.{◌≡◌, ◌∙◌, refl}
use Rattle.std.proofs.lemmas.Option.{get_or_from_slice_get}
use Rattle.scion_topology.proofs.index.add_at.Goals as goal

pub returns : goal.returns
returns c = λ index found.
    let is : c.index_mut.result.now ≡ index = c.index_mut.ensures.value ∙ get_or_from_slice_get c.args.list.now.items c.args.at index c.index_mut.result.now found in
    (c.add.new.self, refl, rw is at c.add.ensures.ia, rw is at c.add.ensures.value)
