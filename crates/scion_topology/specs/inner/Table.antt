-- The interfaces of an AS by their numbers: their places, and how one goes up or down. No clause of
-- a public call cites it.
use Rattle.std.specs.Prelude.{ℕ, ◌==◌, Bool, if◌then◌else◌, List, [], ◌∷◌, Option, position}
use Rattle.scion_topology.specs.declared.entry.IfEntry.{IfEntry}

-- the place of the first interface of this number
abbrev pub place_in_table : List IfEntry → ℕ → Option ℕ
place_in_table table number = position (λ entry. entry.number == number) table

-- the interfaces with the link of this interface up or down
abbrev pub marked_table : ℕ → Bool → List IfEntry → List IfEntry
marked_table number up [] = []
marked_table number up (entry ∷ table) =
    if entry.number == number then record entry { up = up } ∷ table
    else entry ∷ marked_table number up table
