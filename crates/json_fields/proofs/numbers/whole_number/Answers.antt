use Rattle.std.proofs.Common.{false, option_and_then, drop, sym, ap, ◌∙◌}
use Rattle.fast_float.specs.Text.{scan}
use Rattle.serde_json.specs.Find.{as_u64}
use Rattle.serde_json.specs.Read.{number_of, number_from}
use Rattle.json_fields.proofs.Signs.{signed_number, unsigned_number, not_whole, is_whole}
use Rattle.json_fields.proofs.numbers.whole_number.Goals as goal

pub returns-then-has_minus : goal.returns-then-has_minus
returns-then-has_minus c =
    let s = c.as_bytes-bytes.result.now in
    sym (not_whole (scan (drop 1 s))) ∙ ap (option_and_then as_u64) (sym (signed_number s (sym c.if-has_minus.ensures.value)))
    ∙ ap (λ t. option_and_then as_u64 (number_of t)) c.as_bytes-bytes.ensures.value

pub returns-else-has_minus : goal.returns-else-has_minus
returns-else-has_minus c =
    let s = c.as_bytes-bytes.result.now in
    is_whole c.to_u64.result c.scan.result c.to_u64.ensures ∙ ap (λ p. option_and_then as_u64 (number_from false p)) c.scan.ensures.parts
    ∙ ap (option_and_then as_u64) (sym (unsigned_number s (sym c.if-has_minus.ensures.value))) ∙ ap (λ t. option_and_then as_u64 (number_of t)) c.as_bytes-bytes.ensures.value
