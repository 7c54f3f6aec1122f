-- The arguments of a host's calls, as values of this network.
use Rattle.std.specs.Prelude.{ℕ, ◌==◌, Bool, true, false, if◌then◌else◌, nat_lt, List, [], ◌∷◌, length, Option, Some, None}
use Rattle.refusal.specs.Optional.{◌>>=◌}
use Rattle.scion_topology.specs.declared.entry.IfEntry.{IfEntry}
use Rattle.scion_topology.specs.declared.entry.LinkKind.{LinkKind}
use Rattle.scion_topology.specs.declared.entry.LinkKind.TheVariants.{Core, Parent, Child}
use Rattle.router_step.specs.declared.arrival.Arrival.{Arrival}
use Rattle.router_step.specs.declared.arrival.Arrival.TheVariants.{FromHost, Inside, Link}
use Rattle.scion_ffi.specs.declared.records.ScionInterface.{ScionInterface}

-- the kind of a link from its number, or nothing
abbrev pub kind_told : ℕ → Option LinkKind
kind_told number =
    if number == 0 then Some Core else if number == 1 then Some Parent
    else if number == 2 then Some Child else None

-- the state of a link from its number, or nothing
abbrev pub state_told : ℕ → Option Bool
state_told number = if number == 0 then Some false else if number == 1 then Some true else None

-- an interface of the AS
unfoldable pub entry_told : ScionInterface → Option IfEntry
entry_told interface = do
  kind ← kind_told interface.kind
  up ← state_told interface.up
  Some (record { number = interface.number; kind = kind; router = interface.router; up = up })

-- the interfaces, in their order
unfoldable pub entries_told : List ScionInterface → Option (List IfEntry)
entries_told [] = Some []
entries_told (interface ∷ interfaces) = do
  entry ← entry_told interface
  table ← entries_told interfaces
  Some (entry ∷ table)

-- the interfaces, if there are at most 256
abbrev pub table_told : List ScionInterface → Option (List IfEntry)
table_told interfaces =
    if nat_lt 256 (length interfaces) then None else entries_told interfaces

-- the key before, if it has any bytes
abbrev pub previous_told : List ℕ → Option (List ℕ)
previous_told key = if length key == 0 then None else Some key

-- how a packet came, from its number
abbrev pub arrival_told : (number interface : ℕ) → Option Arrival
arrival_told number interface =
    if number == 0 then Some FromHost else if number == 1 then Some Inside
    else if number == 2 then Some (Link interface) else None
