-- Hops of one AS.
use Rattle.std.specs.Prelude.{◌==◌, ◌||◌, ℕ, Bool, false, List, [], ◌∷◌}
use Rattle.std.specs.List.{list_any}
use Rattle.policy_expr.specs.declared.hop.WalkHop.{WalkHop}

-- whether one of these hops is of this AS
abbrev pub is_passed : List WalkHop → ℕ → Bool
is_passed hops ia = list_any (λ hop. hop.ia == ia) hops

-- whether two of these hops are of one AS
abbrev pub names_twice : List WalkHop → Bool
names_twice [] = false
names_twice (hop ∷ later) = is_passed later hop.ia || names_twice later

-- whether one of the first hops is of the AS of a later one
abbrev pub is_any_passed : (front later : List WalkHop) → Bool
is_any_passed front later = list_any (λ hop. is_passed later hop.ia) front

-- whether one of the first hops is of the AS of a later one, or two of the later ones are of one AS
abbrev pub names_again : (front later : List WalkHop) → Bool
names_again front later = is_any_passed front later || names_twice later
