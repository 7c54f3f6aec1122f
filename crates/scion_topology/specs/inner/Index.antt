-- The index that a topology keeps beside its lists to find ASes and links fast.
use Rattle.std.specs.Prelude.{ℕ, zero, suc, ◌+◌, ◌==◌, Bool, if◌then◌else◌, List, [], ◌∷◌, ◌++◌, Option, Some, None, Result, Ok, option_map, position, slice_get}
use Rattle.std.specs.List.{position_or_len}
use Rattle.std.specs.Option.{ok_or, option_and_then}
use Rattle.refusal.specs.Refusal.{◌>>=◌}
use Rattle.scion_topology.specs.declared.entry.IfEntry.{IfEntry}
use Rattle.scion_topology.specs.declared.network.AsEntry.{AsEntry}
use Rattle.scion_topology.specs.declared.network.Link.{Link}
use Rattle.scion_topology.specs.declared.fault.TopologyFault.{TopologyFault}
use Rattle.scion_topology.specs.declared.fault.TopologyFault.TheVariants as faults
use Rattle.scion_topology.specs.Keys.{renewed_keys}
use Rattle.scion_topology.specs.Network.{Network, has_end, table_of}
use Rattle.scion_topology.specs.inner.Table.{place_in_table, marked_table}
use Rattle.scion_topology.specs.Topology.{known_as}
use Rattle.scion_topology.specs.Index.{IndexValue, places_of, index_at}

-- the index that an AS already had, or else `new` if this is its AS
abbrev pub with_first_index : Bool → IndexValue → Option IndexValue → Option IndexValue
with_first_index here new (Some old) = Some old
with_first_index here new None = if here then Some new else None

-- the entry of `places` at the same position as the interface of this number
abbrev pub place_beside : ℕ → List IfEntry → List ℕ → Option ℕ
place_beside number table places =
    option_and_then (slice_get places) (place_in_table table number)

-- an AS together with its index
abbrev pub index_in : Network → ℕ → Result (AsEntry × IndexValue) TopologyFault
index_in n ia = do
  one ← known_as n ia
  Ok (one, index_at (position_or_len (λ other. other.ia == ia) n.ases) ia n.links)

-- the place of the link at this interface of this AS
abbrev pub place_in : (n : Network) (ia number : ℕ) → Result ℕ TopologyFault
place_in n ia number =
    known_as n ia >>= λ _. ok_or (position (λ link. has_end link ia number) n.links) faults.NoLink

-- the index with one more interface, and with the place of its link
abbrev pub with_interface : IfEntry → ℕ → IndexValue → IndexValue
with_interface entry place index =
    record {
      position = index.position;
      table = index.table ++ entry ∷ [];
      places = index.places ++ place ∷ [];
    }

-- `with_interface` if this is the interface's AS, and else the index as it was
abbrev pub added_where : Bool → IfEntry → ℕ → Option IndexValue → Option IndexValue
added_where here entry place index =
    if here then option_map (with_interface entry place) index else index

-- the index of an AS with these links added, whose places begin at `base`
abbrev pub with_links : (base ia : ℕ) (links : List Link) (index : IndexValue) → IndexValue
with_links base ia links index =
    record {
      position = index.position;
      table = index.table ++ table_of ia links;
      places = index.places ++ places_of base ia links;
    }

abbrev pub with_link : (place ia : ℕ) (link : Link) (index : IndexValue) → IndexValue
with_link place ia link index = with_links place ia (link ∷ []) index

-- the index with the link of this interface up or down
abbrev pub with_state : ℕ → Bool → IndexValue → IndexValue
with_state number up index = record index { table = marked_table number up index.table }

-- `with_state` if this is the interface's AS, and else the index as it was
abbrev pub marked_where : (here : Bool) (number : ℕ) (up : Bool) (index : Option IndexValue)
    → Option IndexValue
marked_where here number up index = if here then option_map (with_state number up) index else index

-- the links with the link at this place up or down; places are counted from `base`
abbrev pub set_from : ℕ → ℕ → Bool → List Link → List Link
set_from base place up [] = []
set_from base place up (link ∷ links) =
    (if base == place then record link { up = up } else link) ∷ set_from (base + 1) place up links

-- the ASes with this key in use for the AS at this place
abbrev pub keyed_at : ℕ → List ℕ → List AsEntry → List AsEntry
keyed_at place key [] = []
keyed_at zero key (one ∷ rest) = record one { keys = renewed_keys key one.keys } ∷ rest
keyed_at (suc place) key (one ∷ rest) = one ∷ keyed_at place key rest
