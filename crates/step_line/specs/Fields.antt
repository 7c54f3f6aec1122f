-- The values of `scionet step`'s options, from their texts.
use Rattle.std.specs.Prelude.{ℕ, ◌&&◌, nat_lt, nat_le, Bool, true, false, if◌then◌else◌, codes, List, [], ◌∷◌, length, Option, Some, None}
use Rattle.std.specs.Str.{bytes_eq}
use Rattle.std.specs.Str.Parse.{digits_value}
use Rattle.hex.specs.Hex.{decode_of}
use Rattle.std.specs.Result.{result_ok}
use Rattle.refusal.specs.Optional.{◌>>=◌}
use Rattle.separators.specs.Signs.{cut_at}
use Rattle.isd_as.specs.Reading.{address_at, all_digits}
use Rattle.scion_topology.specs.declared.entry.IfEntry.{IfEntry}
use Rattle.scion_topology.specs.declared.entry.LinkKind.{LinkKind}
use Rattle.scion_topology.specs.declared.entry.LinkKind.TheVariants.{Core, Parent, Child}
use Rattle.router_step.specs.declared.arrival.Arrival.{Arrival}
use Rattle.router_step.specs.declared.arrival.Arrival.TheVariants.{FromHost, Inside, Link}

-- whether the text is decimal digits alone, at least one
abbrev pub is_decimal : List ℕ → Bool
is_decimal text = nat_lt 0 (length text) && all_digits 10 text

-- a number from `low` to `high`, in decimal digits
unfoldable pub bounded_number_at : (low high : ℕ) (text : List ℕ) → Option ℕ
bounded_number_at low high text =
    if is_decimal text && (nat_le low (digits_value 10 text) && nat_le (digits_value 10 text) high)
    then Some (digits_value 10 text) else None

-- bytes in hexadecimal, with letters of either case
abbrev pub hex_bytes_of : List ℕ → Option (List ℕ)
hex_bytes_of text = result_ok (decode_of text)

-- the address of an AS
abbrev pub as_address_at : List ℕ → Option ℕ
as_address_at text = result_ok (address_at text)

-- how the packet came: `host`, `inside`, or the number of the interface
unfoldable pub arrival_at : List ℕ → Option Arrival
arrival_at text =
    if bytes_eq text (codes "host") then Some FromHost
    else if bytes_eq text (codes "inside") then Some Inside
    else (do
      number ← bounded_number_at 1 65535 text
      Some (Link number))

-- a comma
abbrev pub comma : ℕ
comma = 44

-- the kind of a link: what the AS at its far end is
unfoldable pub link_kind_at : List ℕ → Option LinkKind
link_kind_at text =
    if bytes_eq text (codes "core") then Some Core
    else if bytes_eq text (codes "parent") then Some Parent
    else if bytes_eq text (codes "child") then Some Child
    else None

-- whether a link is up
unfoldable pub state_at : List ℕ → Option Bool
state_at text =
    if bytes_eq text (codes "up") then Some true
    else if bytes_eq text (codes "down") then Some false
    else None

-- an interface: `NUMBER,core|parent|child,ROUTER,up|down`
unfoldable pub table_entry_at : List ℕ → Option IfEntry
table_entry_at text = do
  first ← cut_at comma text
  second ← cut_at comma first.1
  third ← cut_at comma second.1
  number ← bounded_number_at 1 65535 first.0
  kind ← link_kind_at second.0
  router ← bounded_number_at 0 63 third.0
  up ← state_at third.1
  Some (record { number = number; kind = kind; router = router; up = up })

-- the interfaces of these texts
unfoldable pub table_at : List (List ℕ) → Option (List IfEntry)
table_at [] = Some []
table_at (text ∷ texts) = do
  entry ← table_entry_at text
  table ← table_at texts
  Some (entry ∷ table)
