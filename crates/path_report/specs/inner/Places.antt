-- Walks with the places of their links in a list of links.
use Rattle.std.specs.Prelude.{◌≡◌, ℕ, Bool, true, List, filter_map, position, slice_get, Option}
use Rattle.std.specs.List.{list_all}
use Rattle.std.specs.Option.{option_map_or}
use Rattle.policy_expr.specs.declared.hop.WalkHop.{WalkHop}
use Rattle.scion_topology.specs.declared.network.Link.{Link}
use Rattle.scion_topology.specs.Network.{has_end}
use Rattle.path_report.specs.declared.open_walk.OpenWalk.{OpenWalk}
use Rattle.path_report.specs.declared.open_walk.Crossing.{Crossing}

-- the place of the link at the interface by which the hop leaves
abbrev pub place_left_by : List Link → WalkHop → Option ℕ
place_left_by links hop = position (λ link. has_end link hop.ia hop.egress) links

-- the places of the links that the walk crosses, in its order
abbrev pub places_crossed : List Link → List WalkHop → List ℕ
places_crossed links walk = filter_map (place_left_by links) walk

-- the crossing has the place of the link by which its hop leaves
abbrev pub IsCrossing : List Link → Crossing → Type 0
IsCrossing links crossing = crossing.place ≡ place_left_by links crossing.hop

-- whether the link at the place is up, and whether those at all of these places are
abbrev pub is_up_at : List Link → (place : ℕ) → Bool
is_up_at links place = option_map_or (λ (link : Link). link.up) (slice_get links place) true

abbrev pub are_up_at : List Link → (places : List ℕ) → Bool
are_up_at links places = list_all (is_up_at links) places

-- the places of the walk are those of the links that it crosses
abbrev pub HasPlaces : List Link → OpenWalk → Type 0
HasPlaces links walk = walk.places.items ≡ places_crossed links walk.hops.now
