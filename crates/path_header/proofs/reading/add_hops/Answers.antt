use Rattle.std.proofs.Common.{ap, ◌∙◌, arith}
use Rattle.path_header.specs.Reading.{hop_from, hop_at}
use Rattle.path_header.proofs.FieldLoop.{goes_on_checked, is_done_checked}
use Rattle.path_header.proofs.Seen.{hop_is}
use Rattle.path_header.proofs.reading.add_hops.Goals as goal

pub loop-i-preserved : goal.loop-i-preserved
loop-i-preserved c =
    let fields = c.loop-i.hops.items in
    let x = c.hop_in.ensures ∙ ap hop_from c.split_at.ensures.back in
    record {
      read = λ all e. rw (c.push.ensures.items, x) (goes_on_checked hop_at hop_from 12 fields c.args.count c.loop-i.i c.args.bytes.now all hop_is c.loop-i-test.true (c.loop-i.invariant.read all e));
      len = omega (arith, c.push.ensures.len, c.loop-i.invariant.len);
    }

pub returns-clause-read : goal.returns-clause-read
returns-clause-read c all e = is_done_checked hop_at 12 c.loop-i.hops.items c.args.count c.loop-i.i c.args.bytes.now all c.loop-i-test.false (c.loop-i.invariant.read all e)
