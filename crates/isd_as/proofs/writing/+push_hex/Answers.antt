-- A number of more digits than one has those of what is left, and then its last one.
use Rattle.std.proofs.Common.{◌/◌, ◌%◌, ◌^◌, ◌<◌, false, ◌∷◌, [], ◌∙◌, arith, append_assoc, lit<}
use Rattle.std.specs.Fmt.{digits, digit_glyph}
use Rattle.std.proofs.Math.Nat.{div-lt_self}
use Rattle.isd_as.proofs.Printed.{digits_of_large, length-digits_of_large}
use Rattle.isd_as.proofs.writing.+push_hex.Goals as goal

pub push_hex-requires : goal.push_hex-requires
push_hex-requires t c =
    let a = c.args in
    let large = c.if-number-lt16.false in
    let fits : a.number < 2 ^ 64 = omega arith in
    let len = length-digits_of_large 16 a.number (omega arith) large fits in
    let less : a.number / 16 < a.number = div-lt_self (omega arith) (omega arith) in
    (omega (arith, less, c.decreases), omega (arith, len))

pub push-requires-else-number-lt16 : goal.push-requires-else-number-lt16
push-requires-else-number-lt16 t c =
    let a = c.args in
    let fits : a.number < 2 ^ 64 = omega arith in
    let len = length-digits_of_large 16 a.number (omega arith) c.if-number-lt16.false fits in
    (lit< tt, omega (arith, len, c.push_hex.ensures.len))

pub returns-else-number-lt16-clause-added : goal.returns-else-number-lt16-clause-added
returns-else-number-lt16-clause-added t c =
    let a = c.args in
    let fits : a.number < 2 ^ 64 = omega arith in
    let more = digits_of_large 16 a.number (omega arith) c.if-number-lt16.false fits in
    let glyph = c.glyph-else-number-lt16.ensures in
    c.push-else-number-lt16.ensures.items ∙ rw (c.push_hex.ensures.added, glyph, more) (append_assoc a.text.now.items (digits 16 false (a.number / 16)) (digit_glyph false (a.number % 16) ∷ []))

pub returns-else-number-lt16-clause-len : goal.returns-else-number-lt16-clause-len
returns-else-number-lt16-clause-len t c =
    let a = c.args in
    let fits : a.number < 2 ^ 64 = omega arith in
    let len = length-digits_of_large 16 a.number (omega arith) c.if-number-lt16.false fits in
    omega (arith, len, c.push_hex.ensures.len, c.push-else-number-lt16.ensures.len)
