-- Which end of a link breaks a rule.
use Rattle.std.specs.Prelude.{Option, Some, None, option_map}

-- the first of two ends with a fault, and its fault
abbrev pub first_at_fault : {A F : Type 0} (a b : A) (of_a of_b : Option F) → Option (A × F)
first_at_fault a b (Some fault) of_b = Some (a, fault)
first_at_fault a b None of_b = option_map (λ fault. (b, fault)) of_b
