-- The AS that comes next has its index, where none before it has its address.
use Rattle.std.proofs.Common.{◌∙◌, [], eqb, ap, sym}
use Rattle.scion_topology.specs.Index.{index_at}
use Rattle.scion_topology.specs.inner.Index.{with_first_index}
use Rattle.scion_topology.proofs.Placing.{first_index}
use Rattle.scion_topology.proofs.lookup.Indexes.new.Goals as goal

pub loop-position-preserved : goal.loop-position-preserved
loop-position-preserved c = λ x.
    let one = c.index-ases-position.result in
    let position = c.loop-position.position in
    c.in_ok-indexes-2.ensures x ∙ ap (with_first_index (eqb one.ia x) (index_at position x [])) (c.loop-position.invariant x)
    ∙ sym (first_index c.args.ases.now position one x c.loop-position-test.true c.index-ases-position.is)
