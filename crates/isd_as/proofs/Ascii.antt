-- The canonical text is ASCII, so it is a text of characters.
use Rattle.std.proofs.Common.{ℕ, ◌^◌, ◌<◌, List, ◌∷◌, ◌++◌, arith, subst, sym, inl, inr}
use Rattle.std.specs.Str.{IsAscii, IsUtf8}
use Rattle.std.proofs.lemmas.Str.{IsAscii-append, IsUtf8-from_ascii}
use Rattle.std.proofs.lemmas.Str.Ascii.{IsAscii-cons}
use Rattle.isd_as.specs.Address.{dash, colon, IsNumeralOf, SpellsAs, Spells, canonical}
use Rattle.isd_as.proofs.Canonical.{Spells-canonical}
use Rattle.isd_as.proofs.Spelled.{IsAscii-AllDigits}

IsAscii-IsNumeralOf : (radix : ℕ) (text : List ℕ) (n : ℕ) → radix < 37 → IsNumeralOf radix text n → IsAscii text
IsAscii-IsNumeralOf radix text n small written = IsAscii-AllDigits radix text (omega arith) written.numeral.1

-- two texts with a sign between them
IsAscii-joined : (sign : ℕ) (front back : List ℕ) → sign < 128 → IsAscii front → IsAscii back → IsAscii (front ++ (sign ∷ back))
IsAscii-joined sign front back small first second = IsAscii-append front (sign ∷ back) first (IsAscii-cons sign back small second)

IsAscii-SpellsAs : (text : List ℕ) (n : ℕ) → SpellsAs text n → IsAscii text
IsAscii-SpellsAs text n (inl d) = IsAscii-IsNumeralOf 10 text n (omega arith) d.written
IsAscii-SpellsAs text n (inr g) =
    let high = IsAscii-IsNumeralOf 16 g.first g.high (omega arith) g.high_written.written in
    let middle = IsAscii-IsNumeralOf 16 g.second g.middle (omega arith) g.middle_written.written in
    let low = IsAscii-IsNumeralOf 16 g.third g.low (omega arith) g.low_written.written in
    subst IsAscii (sym g.parts) (IsAscii-joined colon g.first _ (omega arith) high (IsAscii-joined colon g.second g.third (omega arith) middle low))

IsAscii-Spells : (text : List ℕ) (a : ℕ) → Spells text a → IsAscii text
IsAscii-Spells text a s =
    let front = IsAscii-IsNumeralOf 10 s.front s.isd (omega arith) s.isd_spelled.written in
    let back = IsAscii-SpellsAs s.back s.as_number s.as_spelled in
    subst IsAscii (sym s.parts) (IsAscii-joined dash s.front s.back (omega arith) front back)

pub canonical_is_utf8 : (a : ℕ) → a < 2 ^ 64 → IsUtf8 (canonical a)
canonical_is_utf8 a fits = IsUtf8-from_ascii (canonical a) (IsAscii-Spells (canonical a) a (Spells-canonical a fits))
