-- Behind a first character that is ASCII a text goes on with a character.
use Rattle.std.proofs.Common.{◌≡◌, ℕ, ◌<◌, true, List, ◌∷◌, get_or, length, ap, sym, ◌∙◌, subst, arith}
use Rattle.std.proofs.lemmas.Bool.Decides.{nat_tests}
use Rattle.std.proofs.lemmas.Str.{IsCharBoundary-after_ascii}
use Rattle.std.specs.Str.{IsUtf8, IsCharBoundary}
use Rattle.separators.specs.Blanks.{is_blank}

pub blank_is_ascii : (b : ℕ) → is_blank b ≡ true → b < 128
blank_is_ascii b blank = grind (arith, nat_tests)

pub behind_ascii : (text bytes rest : List ℕ) (b : ℕ) → IsUtf8 bytes → bytes ≡ text → bytes ≡ b ∷ rest → b < 128 → IsCharBoundary text 1
behind_ascii text bytes rest b utf8 same begins small =
    let first : get_or text 0 0 ≡ b = ap (λ (t : List ℕ). get_or t 0 0) (sym same ∙ begins) in
    let low : get_or text 0 0 < 128 = omega arith in
    let some : 0 < length text = (let l = ap (λ (t : List ℕ). length t) (sym same ∙ begins) in omega (arith, l)) in
    IsCharBoundary-after_ascii text 0 (subst IsUtf8 same utf8) some low
