use Rattle.std.proofs.Common.{◌∙◌, sym}
use Rattle.separators.proofs.Ascii.{behind_ascii, blank_is_ascii}
use Rattle.separators.proofs.text.trim_start.Goals as goal

pub range_from-rest-requires : goal.range_from-rest-requires
range_from-rest-requires c = λ _. behind_ascii _ _ _ _ c.as_bytes.ensures.utf8 c.as_bytes.ensures.value c.in-Some.ensures.cases.0
    (blank_is_ascii _ (sym c.is_blank.ensures ∙ c.if-not-is_blank.false))
