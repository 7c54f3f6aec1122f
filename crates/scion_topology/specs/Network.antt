-- A network: its ASes and its links (draft-dekater-scion-controlplane, topology).
use Rattle.std.specs.Prelude.{◌≢◌, ℕ, ◌==◌, ◌&&◌, ◌||◌, Bool, List, Option, Some, None, find, filter_map, if◌then◌else◌}
use Rattle.isd_as.specs.Address.{isd_of, as_number_of}
use Rattle.scion_topology.specs.declared.entry.IfEntry.{IfEntry}
use Rattle.scion_topology.specs.declared.entry.LinkKind.{LinkKind}
use Rattle.scion_topology.specs.declared.entry.LinkKind.TheVariants as kinds
use Rattle.scion_topology.specs.declared.network.AsEntry.{AsEntry}
use Rattle.scion_topology.specs.declared.network.End.{End}
use Rattle.scion_topology.specs.declared.network.Link.{Link}
use Rattle.scion_topology.specs.declared.network.LinkClass.{LinkClass}
use Rattle.scion_topology.specs.declared.network.LinkClass.TheVariants.{Core, Child}

-- a network: its ASes and its links, each in the order of the text from which they were read
pub record Network : Type 0 where
  pub ases : List AsEntry
  pub links : List Link

-- whether the ISD or the AS number of this address is the wildcard 0, and that neither is
abbrev pub is_wildcard : ℕ → Bool
is_wildcard ia = (isd_of ia == 0) || (as_number_of ia == 0)

abbrev pub IsPlain : ℕ → Type 0
IsPlain ia = (isd_of ia ≢ 0) × (as_number_of ia ≢ 0)

-- the first AS of this address
abbrev pub as_named : List AsEntry → ℕ → Option AsEntry
as_named ases ia = find (λ one. one.ia == ia) ases

-- the end is at this interface of this AS
abbrev pub is_end : (end : End) (ia number : ℕ) → Bool
is_end end ia number = (end.ia == ia) && (end.number == number)

-- the link has an end at this interface of this AS
abbrev pub has_end : (link : Link) (ia number : ℕ) → Bool
has_end link ia number = is_end link.a ia number || is_end link.b ia number

-- the first link with an end at this interface of this AS
abbrev pub link_named : (links : List Link) (ia number : ℕ) → Option Link
link_named links ia number = find (λ link. has_end link ia number) links

-- the kind of a link as seen from the AS at end a, and from the AS at end b
abbrev pub kind_at_a : LinkClass → LinkKind
kind_at_a Core = kinds.Core
kind_at_a Child = kinds.Child

abbrev pub kind_at_b : LinkClass → LinkKind
kind_at_b Core = kinds.Core
kind_at_b Child = kinds.Parent

-- the end of a link as an interface of its AS
abbrev pub end_as_interface : End → LinkKind → Bool → IfEntry
end_as_interface end kind up =
    record { number = end.number; kind = kind; router = end.router; up = up }

-- the interface by which the link ends in this AS, or nothing if it has no end there
abbrev pub interface_of : ℕ → Link → Option IfEntry
interface_of ia link =
    if link.a.ia == ia then Some (end_as_interface link.a (kind_at_a link.class) link.up)
    else if link.b.ia == ia then Some (end_as_interface link.b (kind_at_b link.class) link.up)
    else None

-- the interfaces of an AS, in the order of the links
abbrev pub table_of : ℕ → List Link → List IfEntry
table_of ia links = filter_map (interface_of ia) links

-- the kind of a link as seen from its other end
abbrev pub mirrored_kind : LinkKind → LinkKind
mirrored_kind kinds.Core = kinds.Core
mirrored_kind kinds.Parent = kinds.Child
mirrored_kind kinds.Child = kinds.Parent

-- the interface of this number in a table
abbrev pub interface_in : List IfEntry → ℕ → Option IfEntry
interface_in table number = find (λ entry. entry.number == number) table
