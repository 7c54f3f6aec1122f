-- Building a router's view from its parts, or the first refusal.
use Rattle.std.specs.Prelude.{ℕ, ◌==◌, ◌||◌, not, Bool, false, if◌then◌else◌, List, [], ◌∷◌, Option, Result, Ok, Err}
use Rattle.std.specs.List.{list_any, list_all}
use Rattle.scion_topology.specs.declared.entry.IfEntry.{IfEntry}
use Rattle.scion_topology.specs.declared.fault.TopologyFault.{TopologyFault}
use Rattle.scion_topology.specs.declared.fault.TopologyFault.TheVariants as faults
use Rattle.scion_topology.specs.Keys.{is_key, accepted_keys}
use Rattle.scion_topology.specs.Network.{is_wildcard}
use Rattle.scion_topology.specs.View.{View}

-- an interface of the table has this number
abbrev pub is_named : ℕ → List IfEntry → Bool
is_named number table = list_any (λ entry. entry.number == number) table

-- a key is empty or has more than 64 bytes, the address is a wildcard, or an interface has number 0
abbrev pub has_bad_field : ℕ → List (List ℕ) → List IfEntry → Bool
has_bad_field ia keys table =
    not (list_all is_key keys) || (is_wildcard ia || is_named 0 table)

-- two interfaces of the table have the same number
unfoldable pub numbers_twice : List IfEntry → Bool
numbers_twice [] = false
numbers_twice (entry ∷ rest) = is_named entry.number rest || numbers_twice rest

-- the view of a router of an AS, from its key in use, the key before it and its interfaces:
-- BadField, then DuplicateIf
unfoldable pub view_of : (ia router : ℕ) (key : List ℕ) (previous : Option (List ℕ))
    (table : List IfEntry) → Result View TopologyFault
view_of ia router key previous table =
    if has_bad_field ia (accepted_keys key previous) table then Err faults.BadField
    else if numbers_twice table then Err faults.DuplicateIf
    else Ok (record { ia = ia; router = router; keys = accepted_keys key previous; table = table })
