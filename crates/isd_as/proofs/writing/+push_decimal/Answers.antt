-- A number of more digits than one has those of what is left, and then its last one.
use Rattle.std.proofs.Common.{◌/◌, ◌%◌, ◌^◌, ◌<◌, false, ◌∷◌, [], ◌∙◌, arith, append_assoc, lit<}
use Rattle.std.specs.Fmt.{decimal, digit_glyph}
use Rattle.std.proofs.Math.Nat.{div-lt_self}
use Rattle.isd_as.proofs.Printed.{digits_of_large, length-digits_of_large}
use Rattle.isd_as.proofs.writing.+push_decimal.Goals as goal

pub push_decimal-requires : goal.push_decimal-requires
push_decimal-requires t c =
    let a = c.args in
    let large = c.if-number-lt10.false in
    let fits : a.number < 2 ^ 64 = omega arith in
    let len = length-digits_of_large 10 a.number (omega arith) large fits in
    let less : a.number / 10 < a.number = div-lt_self (omega arith) (omega arith) in
    (omega (arith, less, c.decreases), omega (arith, len))

pub push-requires-else-number-lt10 : goal.push-requires-else-number-lt10
push-requires-else-number-lt10 t c =
    let a = c.args in
    let fits : a.number < 2 ^ 64 = omega arith in
    let len = length-digits_of_large 10 a.number (omega arith) c.if-number-lt10.false fits in
    (lit< tt, omega (arith, len, c.push_decimal.ensures.len))

pub returns-else-number-lt10-clause-added : goal.returns-else-number-lt10-clause-added
returns-else-number-lt10-clause-added t c =
    let a = c.args in
    let fits : a.number < 2 ^ 64 = omega arith in
    let more = digits_of_large 10 a.number (omega arith) c.if-number-lt10.false fits in
    let glyph = c.glyph-else-number-lt10.ensures in
    c.push-else-number-lt10.ensures.items ∙ rw (c.push_decimal.ensures.added, glyph, more) (append_assoc a.text.now.items (decimal (a.number / 10)) (digit_glyph false (a.number % 10) ∷ []))

pub returns-else-number-lt10-clause-len : goal.returns-else-number-lt10-clause-len
returns-else-number-lt10-clause-len t c =
    let a = c.args in
    let fits : a.number < 2 ^ 64 = omega arith in
    let len = length-digits_of_large 10 a.number (omega arith) c.if-number-lt10.false fits in
    omega (arith, len, c.push_decimal.ensures.len, c.push-else-number-lt10.ensures.len)
