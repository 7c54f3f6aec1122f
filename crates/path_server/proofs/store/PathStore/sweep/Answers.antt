use Rattle.path_server.proofs.Lasting.{none_expired, swept_live}
use Rattle.path_server.proofs.store.PathStore.sweep.Goals as goal

pub returns-then-are_all_live-clause-kept : goal.returns-then-are_all_live-clause-kept
returns-then-are_all_live-clause-kept c =
    swept_live c.args.self.now c.args.now (c.are_all_live.ensures c.if-are_all_live.true)

pub returns-then-are_all_live-clause-count : goal.returns-then-are_all_live-clause-count
returns-then-are_all_live-clause-count c =
    none_expired c.args.self.now c.args.now (c.are_all_live.ensures c.if-are_all_live.true)
