-- Numbers that occur twice in a list.
use Rattle.std.specs.Prelude.{ℕ, ◌==◌, ◌||◌, nat_eq, Bool, false, List, [], ◌∷◌}
use Rattle.std.specs.List.{list_any}

-- whether a number is at two places of the list
abbrev pub has_double : List ℕ → Bool
has_double [] = false
has_double (number ∷ later) = list_any (nat_eq number) later || has_double later

-- whether the list begins with this number (a word of no public clause)
abbrev pub begins_with : List ℕ → ℕ → Bool
begins_with [] number = false
begins_with (first ∷ later) number = first == number
