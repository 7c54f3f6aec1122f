-- Interfaces as numbers, by which an interface at two links is found (words of no public clause).
use Rattle.std.specs.Prelude.{ℕ, ◌+◌, ◌*◌, ◌^◌, ◌<◌, ◌==◌, if◌then◌else◌, List, [], ◌∷◌}
use Rattle.scion_topology.specs.declared.network.End.{End}
use Rattle.scion_topology.specs.declared.network.Link.{Link}

-- an interface as a number: its AS's address, and then its own number
abbrev pub end_number : End → ℕ
end_number end = end.ia * 2 ^ 16 + end.number

-- the numbers of the interfaces at both ends of a link, or one number if they are equal
abbrev pub numbers_of : Link → List ℕ
numbers_of link =
    if end_number link.a == end_number link.b then end_number link.a ∷ []
    else end_number link.a ∷ end_number link.b ∷ []

-- the interfaces at a link's ends have numbers of 16 bits
abbrev pub HasBits : Link → Type 0
HasBits link = (link.a.number < 2 ^ 16) × (link.b.number < 2 ^ 16)
