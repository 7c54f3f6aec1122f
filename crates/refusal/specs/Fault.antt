-- Refusals in lines of text.
use Rattle.std.specs.Prelude.{ℕ, ◌==◌, not, codes, Bool, List, ◌++◌}
use Rattle.std.specs.List.{list_any}
use Rattle.std.specs.Fmt.{decimal}

-- whether a byte is a space
abbrev pub is_space : ℕ → Bool
is_space byte = byte == 32

-- whether a text has no space
abbrev pub is_word : List ℕ → Bool
is_word text = not (list_any is_space text)

-- the number and the name of a refusal: `CODE Name`
abbrev pub code_text : ℕ × List ℕ → List ℕ
code_text coded = decimal coded.0 ++ (codes " " ++ coded.1)
