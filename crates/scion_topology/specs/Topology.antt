-- Topologies: reading a network from a text, its queries, and its changes.
use Rattle.std.specs.Prelude.{◌≡◌, ℕ, ◌==◌, nat_lt, Bool, if◌then◌else◌, codes, List, [], ◌∷◌, Option, Some, None, Result, Ok, Err}
use Rattle.std.specs.List.{position_or_len}
use Rattle.std.specs.Option.{ok_or}
use Rattle.serde_json.specs.Data.{Data}
use Rattle.json_fields.specs.Fields.{document_in, list_at, items_at}
use Rattle.refusal.specs.Refusal.{◌>>=◌, unless}
use Rattle.scion_topology.specs.declared.entry.IfEntry.{IfEntry}
use Rattle.scion_topology.specs.declared.fault.TopologyFault.{TopologyFault}
use Rattle.scion_topology.specs.declared.fault.TopologyFault.TheVariants as faults
use Rattle.scion_topology.specs.declared.network.AsEntry.{AsEntry}
use Rattle.scion_topology.specs.declared.network.AsInfo.{AsInfo}
use Rattle.scion_topology.specs.declared.network.End.{End}
use Rattle.scion_topology.specs.declared.network.Link.{Link}
use Rattle.scion_topology.specs.View.{View}
use Rattle.scion_topology.specs.Keys.{key_from, renewed_keys}
use Rattle.scion_topology.specs.Network.{Network, as_named, is_end, has_end, link_named, table_of, interface_in}
use Rattle.scion_topology.specs.Causes.{cause_of}
pub use Rattle.scion_topology.specs.Rules.{IsNetwork}
use Rattle.scion_topology.specs.Reading.{as_entry_at, link_at}

-- ---- reading

-- the network of a JSON value: BadField for its form, and then the first fault of `cause_of`
unfoldable pub network_of : Data → Result Network TopologyFault
network_of d = do
  as_items ← ok_or (list_at (codes "ases") d) faults.BadField
  link_items ← ok_or (list_at (codes "links") d) faults.BadField
  ases ← ok_or (items_at as_entry_at as_items) faults.BadField
  links ← ok_or (items_at link_at link_items) faults.BadField
  unless (cause_of ases links) (record { ases = ases; links = links })

-- the network of a text: NotJson, or as of its value
abbrev pub of_value : Option Data → Result Network TopologyFault
of_value (Some d) = network_of d
of_value None = Err faults.NotJson

abbrev pub network_in : List ℕ → Result Network TopologyFault
network_in bytes = of_value (document_in bytes)

-- ---- asking

-- the AS of this address, or UnknownAs
abbrev pub known_as : Network → ℕ → Result AsEntry TopologyFault
known_as n ia = ok_or (as_named n.ases ia) faults.UnknownAs

-- the link at this interface of this AS: UnknownAs, then NoLink
abbrev pub known_link : (n : Network) (ia number : ℕ) → Result Link TopologyFault
known_link n ia number = known_as n ia >>= λ _. ok_or (link_named n.links ia number) faults.NoLink

-- the place of an AS in the list, and its values there
unfoldable pub info_in : Network → ℕ → Result AsInfo TopologyFault
info_in n ia = do
  one ← known_as n ia
  Ok (record {
    position = position_or_len (λ other. other.ia == ia) n.ases;
    core = one.core;
    exp = one.exp_time;
    routers = one.routers;
  })

-- the interface of this number of an AS: UnknownAs, then NoLink
abbrev pub interface_at : (n : Network) (ia number : ℕ) → Result IfEntry TopologyFault
interface_at n ia number =
    known_as n ia >>= λ _. ok_or (interface_in (table_of ia n.links) number) faults.NoLink

-- the end of a link at this interface, and its other end
abbrev pub near_end : (link : Link) (ia number : ℕ) → End
near_end link ia number = if is_end link.a ia number then link.a else link.b

abbrev pub far_end : (link : Link) (ia number : ℕ) → End
far_end link ia number = if is_end link.a ia number then link.b else link.a

-- the AS and the interface at the far end of the link
unfoldable pub far_end_in : (n : Network) (ia number : ℕ) → Result (ℕ × ℕ) TopologyFault
far_end_in n ia number = do
  link ← known_link n ia number
  Ok ((far_end link ia number).ia, (far_end link ia number).number)

-- the router that owns an interface
unfoldable pub owner_in : (n : Network) (ia number : ℕ) → Result ℕ TopologyFault
owner_in n ia number = do
  link ← known_link n ia number
  Ok (near_end link ia number).router

-- the view of a router: UnknownAs, then NoRouter
unfoldable pub view_in : (n : Network) (ia router : ℕ) → Result View TopologyFault
view_in n ia router = do
  one ← known_as n ia
  if nat_lt router one.routers
      then Ok (record { ia = ia; router = router; keys = one.keys; table = table_of ia n.links })
      else Err faults.NoRouter

-- ---- changing

-- the links with the link at this interface up or down
abbrev pub with_up : (up : Bool) (ia number : ℕ) (links : List Link) → List Link
with_up up ia number [] = []
with_up up ia number (link ∷ links) = if has_end link ia number then record link { up = up } ∷ links
    else link ∷ with_up up ia number links

-- the ASes with this key in use for the AS of this address
abbrev pub with_key : ℕ → List ℕ → List AsEntry → List AsEntry
with_key ia key [] = []
with_key ia key (one ∷ rest) =
    if one.ia == ia then record one { keys = renewed_keys key one.keys } ∷ rest
    else one ∷ with_key ia key rest

-- the network with the link at this interface up or down
unfoldable pub set_up : (up : Bool) (ia number : ℕ) (n : Network) → Result Network TopologyFault
set_up up ia number n = do
  link ← known_link n ia number
  Ok (record n { links = with_up up ia number n.links })

-- the network with another key in use for an AS: UnknownAs, then BadField for the key
unfoldable pub with_rotated_key : ℕ → List ℕ → Network → Result Network TopologyFault
with_rotated_key ia key n = do
  one ← known_as n ia
  new ← key_from key
  Ok (record n { ases = with_key ia new n.ases })

-- a change is done and gives the new network, or is refused and leaves the network as it was
abbrev pub Becomes : (change : Result Network TopologyFault) (old new : Network)
    (result : Result (Unit {0}) TopologyFault) → Type 0
Becomes change old new (Ok x) = change ≡ Ok new
Becomes change old new (Err e) = (change ≡ Err e) × (new ≡ old)
