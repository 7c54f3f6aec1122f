use Rattle.std.proofs.Common.{arith}
use Rattle.std.proofs.lemmas.Result.{IfOk-at_ok}
use Rattle.scion_packet.proofs.Written.{all_taken}
use Rattle.scion_packet.proofs.writing.put_header.Goals as goal

pub returns : goal.returns
returns c =
    let len = IfOk-at_ok _ c.unwrap.ensures c.encode.ensures.len in
    let spelled = IfOk-at_ok _ c.unwrap.ensures c.encode.ensures.spelled in
    all_taken c.encode.new.room c.args.header.now c.unwrap.result len
    (omega (arith, c.encode.auto.room, c.requires)) spelled
