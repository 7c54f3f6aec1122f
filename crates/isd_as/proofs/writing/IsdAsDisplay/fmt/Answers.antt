-- The canonical text is ASCII, so the standard reader of texts never refuses it.
use Rattle.std.proofs.Common.{rules, ℕ, ◌^◌, ◌<◌, subst, sym, ◌∙◌}
use Rattle.std.specs.Str.{IsUtf8}
use Rattle.isd_as.proofs.Ascii.{canonical_is_utf8}
use Rattle.isd_as.proofs.writing.IsdAsDisplay.fmt.Goals as goal

pub unwrap-requires : goal.unwrap-requires
unwrap-requires g c =
    let fits = subst (λ (n : ℕ). n < 2 ^ 64) c.number-number.ensures.value c.number-number.ensures.bound in
    let utf8 : IsUtf8 c.deref.result.now = subst IsUtf8 (sym (c.deref.ensures.0 ∙ c.text-text.ensures)) (canonical_is_utf8 c.args.self.now fits) in
    search rules
