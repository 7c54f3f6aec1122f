use Rattle.std.proofs.Common.{◌≡◌, ◌*◌, drop, Ok, Err, sym}
use Rattle.std.proofs.lemmas.Result.{err_from_is_err_and}
use Rattle.path_header.specs.Reading.{hop_from, hop_at, fields_at}
use Rattle.path_header.specs.Shown.{without_value}
use Rattle.path_header.proofs.FieldChecks.{goes_on, ends, is_done}
use Rattle.path_header.proofs.checking.check_hops.Goals as goal

pub returns-in_err-check_hop : goal.returns-in_err-check_hop
returns-in_err-check_hop c =
    let p = err_from_is_err_and c.from_residual.result c.from_residual.ensures.1 in
    let refused : hop_at (drop (12 * c.loop-i.i) c.args.bytes.now) ≡ Err c.in_err-check_hop.field-0.0 = cc (c.in_err-check_hop.ensures, c.split_at.ensures.back) in
    rw (p.1, p.2) (sym (ends hop_at 12 c.args.count c.loop-i.i c.args.bytes.now c.in_err-check_hop.field-0.0 (without_value (fields_at hop_at 12 c.args.count c.args.bytes.now)) c.loop-i-test.true refused c.loop-i.invariant))

pub loop-i-preserved : goal.loop-i-preserved
loop-i-preserved c =
    let rest = drop (12 * c.loop-i.i) c.args.bytes.now in
    let taken : hop_at rest ≡ Ok (hop_from rest) = cc (c.in_ok-check_hop.ensures, c.split_at.ensures.back) in
    goes_on hop_at 12 c.args.count c.loop-i.i c.args.bytes.now (hop_from rest) (without_value (fields_at hop_at 12 c.args.count c.args.bytes.now)) c.loop-i-test.true taken c.loop-i.invariant

pub returns : goal.returns
returns c = sym (is_done hop_at 12 c.args.count c.loop-i.i c.args.bytes.now (without_value (fields_at hop_at 12 c.args.count c.args.bytes.now)) c.loop-i-test.false c.loop-i.invariant)
