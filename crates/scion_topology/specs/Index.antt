-- The index that a topology keeps beside its lists to find ASes and links fast. No clause of a
-- public call cites it.
use Rattle.std.specs.Prelude.{ℕ, ◌+◌, ◌==◌, if◌then◌else◌, List, [], ◌∷◌, Option, Some, None, is_some, option_map, position, slice_get}
use Rattle.std.specs.Option.{option_and_then}
use Rattle.std.specs.Ordering.{nat_cmp}
use Rattle.std.specs.BTreeMap.{get}
use Rattle.scion_topology.specs.declared.entry.IfEntry.{IfEntry}
use Rattle.scion_topology.specs.declared.network.AsEntry.{AsEntry}
use Rattle.scion_topology.specs.declared.network.Link.{Link}
use Rattle.scion_topology.specs.declared.index.AsIndex.{AsIndex}
use Rattle.scion_topology.specs.declared.lookup.Indexes.{Indexes}
use Rattle.scion_topology.specs.Network.{interface_of, table_of}

-- the index of an AS: its place in the list, its interfaces, and the places of their links
pub record IndexValue : Type 0 where
  pub position : ℕ
  pub table : List IfEntry
  pub places : List ℕ

abbrev pub value_of_index : AsIndex → IndexValue
value_of_index index =
    record { position = index.position; table = index.table; places = index.places.items }

-- the place of an AS's index
abbrev pub spot_of : Indexes → ℕ → Option ℕ
spot_of indexes ia = get nat_cmp indexes.places ia

-- the index of an AS
abbrev pub index_of : Indexes → ℕ → Option IndexValue
index_of indexes ia =
    option_map value_of_index (option_and_then (slice_get indexes.list.items) (spot_of indexes ia))

-- the places of the links that end in an AS, counted from `base`
abbrev pub places_of : (base ia : ℕ) (links : List Link) → List ℕ
places_of base ia [] = []
places_of base ia (link ∷ links) =
    if is_some (interface_of ia link) then base ∷ places_of (base + 1) ia links
    else places_of (base + 1) ia links

abbrev pub index_at : (position ia : ℕ) (links : List Link) → IndexValue
index_at position ia links =
    record { position = position; table = table_of ia links; places = places_of 0 ia links }

-- the index of an AS in a list whose places are counted from `base`
abbrev pub index_from : (base : ℕ) (ases : List AsEntry) (links : List Link) (ia : ℕ)
    → Option IndexValue
index_from base [] links ia = None
index_from base (one ∷ rest) links ia =
    if one.ia == ia then Some (index_at base ia links) else index_from (base + 1) rest links ia
