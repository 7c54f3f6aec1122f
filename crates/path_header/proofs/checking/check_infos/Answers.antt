use Rattle.std.proofs.Common.{◌≡◌, ◌*◌, drop, Ok, Err, sym}
use Rattle.std.proofs.lemmas.Result.{err_from_is_err_and}
use Rattle.path_header.specs.Reading.{info_from, info_at, fields_at}
use Rattle.path_header.specs.Shown.{without_value}
use Rattle.path_header.proofs.FieldChecks.{goes_on, ends, is_done}
use Rattle.path_header.proofs.checking.check_infos.Goals as goal

pub returns-in_err-check_info : goal.returns-in_err-check_info
returns-in_err-check_info c =
    let p = err_from_is_err_and c.from_residual.result c.from_residual.ensures.1 in
    let refused : info_at (drop (8 * c.loop-i.i) c.args.bytes.now) ≡ Err c.in_err-check_info.field-0.0 = cc (c.in_err-check_info.ensures, c.split_at.ensures.back) in
    rw (p.1, p.2) (sym (ends info_at 8 c.args.count c.loop-i.i c.args.bytes.now c.in_err-check_info.field-0.0 (without_value (fields_at info_at 8 c.args.count c.args.bytes.now)) c.loop-i-test.true refused c.loop-i.invariant))

pub loop-i-preserved : goal.loop-i-preserved
loop-i-preserved c =
    let rest = drop (8 * c.loop-i.i) c.args.bytes.now in
    let taken : info_at rest ≡ Ok (info_from rest) = cc (c.in_ok-check_info.ensures, c.split_at.ensures.back) in
    goes_on info_at 8 c.args.count c.loop-i.i c.args.bytes.now (info_from rest) (without_value (fields_at info_at 8 c.args.count c.args.bytes.now)) c.loop-i-test.true taken c.loop-i.invariant

pub returns : goal.returns
returns c = sym (is_done info_at 8 c.args.count c.loop-i.i c.args.bytes.now (without_value (fields_at info_at 8 c.args.count c.args.bytes.now)) c.loop-i-test.false c.loop-i.invariant)
