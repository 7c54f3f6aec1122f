use Rattle.path_server.proofs.Bounds.{stores_are_distinct, stores_are_few}
use Rattle.path_server.proofs.laws.stores_are_bounded.Goals as goal

pub returns : goal.returns
returns c = record { distinct = stores_are_distinct; few = stores_are_few }
