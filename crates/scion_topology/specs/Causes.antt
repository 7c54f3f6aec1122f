-- Why a list of ASes and a list of links are no network: the first fault, in the order of
-- `cause_of`.
use Rattle.std.specs.Prelude.{ℕ, ◌==◌, ◌||◌, not, nat_lt, nat_le, Bool, false, if◌then◌else◌, List, [], ◌∷◌, length, Option, Some, None}
use Rattle.std.specs.List.{list_any}
use Rattle.std.specs.Option.{option_map_or}
use Rattle.isd_as.specs.Address.{isd_of}
use Rattle.scion_topology.specs.declared.fault.TopologyFault.{TopologyFault}
use Rattle.scion_topology.specs.declared.fault.TopologyFault.TheVariants as faults
use Rattle.scion_topology.specs.declared.network.AsEntry.{AsEntry}
use Rattle.scion_topology.specs.declared.network.End.{End}
use Rattle.scion_topology.specs.declared.network.Link.{Link}
use Rattle.scion_topology.specs.declared.network.LinkClass.{LinkClass}
use Rattle.scion_topology.specs.declared.network.LinkClass.TheVariants.{Core, Child}
use Rattle.scion_topology.specs.Network.{as_named, has_end}

-- ---- the whole

-- there is no AS, or there are more than 1,024 ASes or more than 4,096 links
abbrev pub is_too_many : List AsEntry → List Link → Bool
is_too_many ases links =
    (length ases == 0) || (nat_lt 1024 (length ases) || nat_lt 4096 (length links))

-- the list has an AS of this address
abbrev pub is_listed : List AsEntry → ℕ → Bool
is_listed ases ia = list_any (λ one. one.ia == ia) ases

-- two ASes of the list have one address
unfoldable pub lists_twice : List AsEntry → Bool
lists_twice [] = false
lists_twice (one ∷ rest) = is_listed rest one.ia || lists_twice rest

-- an end of the link is in no AS of the list
abbrev pub has_unknown_end : List AsEntry → Link → Bool
has_unknown_end ases link = not (is_listed ases link.a.ia) || not (is_listed ases link.b.ia)

-- the AS of this end has no router of the end's number
abbrev pub lacks_router : List AsEntry → End → Bool
lacks_router ases end =
    option_map_or (λ one. nat_le one.routers end.router) (as_named ases end.ia) false

abbrev pub has_no_router : List AsEntry → Link → Bool
has_no_router ases link = lacks_router ases link.a || lacks_router ases link.b

-- the list has a core AS of this address
abbrev pub is_core : List AsEntry → ℕ → Bool
is_core ases ia = option_map_or (λ one. one.core) (as_named ases ia) false

-- the link's class does not allow its ends: a core link joins core ASes, and a child link a parent
-- to a child in its ISD that is no core AS
abbrev pub is_ill_classed : (ases : List AsEntry) (class : LinkClass) (a b : ℕ) → Bool
is_ill_classed ases Core a b = not (is_core ases a) || not (is_core ases b)
is_ill_classed ases Child parent child =
    not (isd_of parent == isd_of child) || is_core ases child

-- both ends are in one AS, or the link's class does not allow its ends
abbrev pub is_ill_joined : List AsEntry → Link → Bool
is_ill_joined ases link =
    (link.a.ia == link.b.ia) || is_ill_classed ases link.class link.a.ia link.b.ia

-- a link of the list ends at the interface of this end
abbrev pub stands : List Link → End → Bool
stands links end = list_any (λ link. has_end link end.ia end.number) links

-- two links of the list end at one interface
unfoldable pub joins_twice : List Link → Bool
joins_twice [] = false
joins_twice (link ∷ rest) = stands rest link.a || (stands rest link.b || joins_twice rest)

-- the first fault; each rule is checked for the whole lists before the next rule
unfoldable pub cause_of : List AsEntry → List Link → Option TopologyFault
cause_of ases links =
    if is_too_many ases links then Some faults.TooMany
    else if lists_twice ases then Some faults.DuplicateAs
    else if list_any (λ link. has_unknown_end ases link) links then Some faults.UnknownAs
    else if list_any (λ link. has_no_router ases link) links then Some faults.NoRouter
    else if list_any (λ link. is_ill_joined ases link) links then Some faults.BadKind
    else if joins_twice links then Some faults.DuplicateIf
    else None
