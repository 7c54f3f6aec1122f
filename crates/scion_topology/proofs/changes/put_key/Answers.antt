use Rattle.std.proofs.Common.{arith}
use Rattle.scion_topology.proofs.Keyed.{put_key-is}
use Rattle.scion_topology.proofs.changes.put_key.Goals as goal

pub returns : goal.returns
returns c = rw c.renew.ensures (put_key-is c.args.place c.args.key c.args.ases.now.items c.index_mut.result.now (omega (arith, c.requires, c.args.ases.now.ok)) c.index_mut.ensures.value)
