-- Blanks, which may occur around a text and between its words.
use Rattle.std.specs.Prelude.{ℕ, ◌==◌, ◌||◌, Bool, if◌then◌else◌, List, [], ◌∷◌, reverse}

-- space, tab, CR or LF
abbrev pub is_blank : ℕ → Bool
is_blank b = (b == 32) || ((b == 9) || ((b == 13) || (b == 10)))

-- the text from its first byte on that is no blank
unfoldable pub after_blanks : List ℕ → List ℕ
after_blanks [] = []
after_blanks (b ∷ rest) = if is_blank b then after_blanks rest else b ∷ rest

-- the text without blanks at its ends
abbrev pub trimmed_text : List ℕ → List ℕ
trimmed_text text = reverse (after_blanks (reverse (after_blanks text)))
