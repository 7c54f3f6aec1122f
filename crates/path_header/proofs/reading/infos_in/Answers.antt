use Rattle.std.proofs.Common.{ap, ◌∙◌, arith}
use Rattle.path_header.specs.Reading.{info_from, info_at}
use Rattle.path_header.proofs.FieldLoop.{goes_on_checked, is_done_checked}
use Rattle.path_header.proofs.Seen.{info_is}
use Rattle.path_header.proofs.reading.infos_in.Goals as goal

pub loop-i-preserved : goal.loop-i-preserved
loop-i-preserved c =
    let fields = c.loop-i.infos.items in
    let x = c.info_in.ensures ∙ ap info_from c.split_at.ensures.back in
    record {
      read = λ all e. rw (c.push.ensures.items, x) (goes_on_checked info_at info_from 8 fields c.args.count c.loop-i.i c.args.bytes.now all info_is c.loop-i-test.true (c.loop-i.invariant.read all e));
      len = omega (arith, c.push.ensures.len, c.loop-i.invariant.len);
    }

pub returns-clause-read : goal.returns-clause-read
returns-clause-read c all e = is_done_checked info_at 8 c.loop-i.infos.items c.args.count c.loop-i.i c.args.bytes.now all c.loop-i-test.false (c.loop-i.invariant.read all e)
