use Rattle.std.proofs.Common.{arith}
use Rattle.scion_topology.proofs.Marking.{put_up-is}
use Rattle.scion_topology.proofs.changes.put_up.Goals as goal

pub returns : goal.returns
returns c = put_up-is c.args.place c.args.up c.args.links.now.items c.index_mut.result.now (omega (arith, c.requires, c.args.links.now.ok)) c.index_mut.ensures.value
