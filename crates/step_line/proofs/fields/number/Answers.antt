-- Digits that the standard reader refuses are past the highest number.
use Rattle.std.proofs.Common.{◌≡◌, ◌<◌, length, true, arith, sym, ◌∙◌}
use Rattle.std.proofs.lemmas.Bool.{eqb-false}
use Rattle.isd_as.specs.Reading.{all_digits}
use Rattle.step_line.proofs.Decimal.{number_at-refused}
use Rattle.step_line.proofs.fields.number.Goals as goal

pub returns-in_default-3-clause-value : goal.returns-in_default-3-clause-value
returns-in_default-3-clause-value c =
    let text = c.args.text.now in
    let some = eqb-false (length text) 0 (sym c.is_empty.ensures ∙ c.if-is_empty.false) in
    let long : 0 < length text = omega arith in
    let passed : all_digits 10 text ≡ true = sym c.is_all_digits.ensures ∙ c.if-not-is_all_digits.false in
    sym (number_at-refused c.args.low c.args.high text c.ranges.low.fits c.ranges.high.fits long passed c.in_default.ensures.value)
