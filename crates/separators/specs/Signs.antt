-- Signs that separate the parts of a text.
use Rattle.std.specs.Prelude.{ℕ, ◌==◌, if◌then◌else◌, List, Option, Some, None}
use Rattle.std.specs.List.{list_any, before_first, after_first}

-- the text before the first such sign and the text after it, if the text has the sign
abbrev pub cut_at : ℕ → List ℕ → Option (List ℕ × List ℕ)
cut_at sign text = if list_any (λ b. b == sign) text
    then Some (before_first (λ b. b == sign) text, after_first (λ b. b == sign) text) else None
