-- Parts that pass the tests make a right view.
use Rattle.std.proofs.Common.{sym}
use Rattle.scion_topology.proofs.KeyTests.{AreKeys-keys_of}
use Rattle.scion_topology.proofs.RightViews.{right}
use Rattle.scion_topology.proofs.view.RouterView.new.Goals as goal

pub invariant_of-result : goal.invariant_of-result
invariant_of-result c =
    right c.args.ia c.args.router c.in_ok-keys.keys c.args.table.now (AreKeys-keys_of c.args.key.now _ c.in_ok-keys.keys (sym c.in_ok-keys.ensures))
    (sym c.if-is_wildcard.ensures) (sym c.if-is_named.ensures) (sym c.if-numbers_twice.ensures)
