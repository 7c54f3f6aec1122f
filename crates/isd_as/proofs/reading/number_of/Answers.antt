-- Digits that the standard reader refuses are past the limit.
use Rattle.std.proofs.Common.{◌≡◌, ◌<◌, length, true, arith, sym, ◌∙◌}
use Rattle.std.proofs.lemmas.Bool.{eqb-false}
use Rattle.isd_as.specs.Reading.{all_digits}
use Rattle.isd_as.proofs.Digits.{number_at-too_large}
use Rattle.isd_as.proofs.reading.number_of.Goals as goal

pub returns-in_default-2-clause-exact : goal.returns-in_default-2-clause-exact
returns-in_default-2-clause-exact c =
    let text = c.args.text.now in
    let some = eqb-false (length text) 0 (sym c.is_empty.ensures ∙ c.if-is_empty.false) in
    let long : 0 < length text = omega arith in
    let passed : all_digits c.args.radix text ≡ true = sym c.is_all_digits.ensures ∙ c.if-not-is_all_digits.false in
    sym (number_at-too_large c.args.radix c.args.limit c.args.too_large text c.requires.high (omega arith) long passed c.in_default.ensures.value)
