use Rattle.std.proofs.Common.{◌≡◌, ℕ, Result, Ok, Err, sym, arith}
use Rattle.std.proofs.lemmas.Result.{err_from_is_err_and}
use Rattle.path_header.specs.declared.fault.HeaderFault.{HeaderFault}
use Rattle.path_header.specs.Value.{HeaderValue}
use Rattle.path_header.specs.Reading.{read_at}
use Rattle.path_header.proofs.Seen.{read_is_judged, read_is_refused}
use Rattle.path_header.proofs.WholeHeader.{len_is, is_found, is_only}
use Rattle.path_header.proofs.reading.decode.Goals as goal

pub returns-in_err-len-clause-only : goal.returns-in_err-len-clause-only
returns-in_err-len-clause-only c v text rest spells parts =
    let p = err_from_is_err_and c.from_residual.result c.from_residual.ensures.1 in
    let read = read_is_refused c.args.bytes.now c.in_err-len.field-0.0 (sym c.in_err-len.ensures.exact) in
    rw (p.1, p.2) (is_only c.args.bytes.now (Err c.in_err-len.field-0.0) (sym read) v text rest spells parts)

pub returns : goal.returns
returns c =
    let bytes = c.args.bytes.now in
    let r : Result (HeaderValue × ℕ) HeaderFault = Ok (c.checked.result, c.in_ok-len.len) in
    let read : r ≡ read_at bytes = rw (c.checked.ensures, c.in_ok-len.ensures.len) (sym (read_is_judged bytes c.in_ok-len.ensures.begins)) in
    record {
      found = is_found bytes r (λ i. omega (arith, c.type_inv.bytes i)) read;
      len = len_is bytes r read;
      only = is_only bytes r read;
      exact = read;
    }
