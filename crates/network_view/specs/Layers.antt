-- How far ASes are from the core, and in which rows of a picture they stand.
use Rattle.std.specs.Prelude.{ℕ, zero, suc, ◌+◌, ◌/◌, ◌==◌, ◌&&◌, not, if◌then◌else◌, Bool, List, [], ◌∷◌, ◌++◌, count_by, filter, length}
use Rattle.scion_topology.specs.declared.network.AsEntry.{AsEntry}
use Rattle.scion_topology.specs.declared.network.Link.{Link}
use Rattle.scion_topology.specs.Network.{Network}
use Rattle.network_view.specs.declared.extent.Centre.TheVariants.{Core}
use Rattle.network_view.specs.Extent.{central, within}

-- the ASes at most 0, 1, 2, .. links from these: so many sets
abbrev pub nearest : List Link → (these : ℕ → Bool) (count : ℕ) → List (ℕ → Bool)
nearest links these zero = []
nearest links these (suc count) = nearest links these count ++ within links count these ∷ []

-- how many of these sets lack the AS
abbrev pub layer_by : (sets : List (ℕ → Bool)) (ia : ℕ) → ℕ
layer_by sets ia = count_by (λ near. not (near ia)) sets

-- the layer of an AS: how many links lead from it to the nearest core AS, at most 8; for so many of
-- the sets of ASes at most 0, 1, .. 7 links from the core lack it
abbrev pub layer_of : Network → (ia : ℕ) → ℕ
layer_of network ia = layer_by (nearest network.links (central Core network.ases) 8) ia

-- whether an AS is drawn, and is of this layer
abbrev pub is_of : (drawn : ℕ → Bool) (layer_of : ℕ → ℕ) (layer : ℕ) → AsEntry → Bool
is_of drawn layer_of layer one = drawn one.ia && (layer_of one.ia == layer)

-- this AS, if it is drawn and of this layer
abbrev pub if_of : (drawn : ℕ → Bool) (layer_of : ℕ → ℕ) (layer : ℕ) → AsEntry → List AsEntry
if_of drawn layer_of layer one = if is_of drawn layer_of layer one then one ∷ [] else []

-- the ASes of a layer that are drawn, in the order of the list
abbrev pub layer_ases : (layer_of : ℕ → ℕ) (drawn : ℕ → Bool) → List AsEntry → (layer : ℕ)
    → List AsEntry
layer_ases layer_of drawn ases layer = filter (is_of drawn layer_of layer) ases

-- the rows of so many ASes, 32 in each, and an empty row behind them
abbrev pub rows_of : ℕ → ℕ
rows_of count = (count + 31) / 32 + 1

-- the first row of a layer
abbrev pub first_row : (layer_of : ℕ → ℕ) (drawn : ℕ → Bool) → List AsEntry → (layer : ℕ) → ℕ
first_row layer_of drawn ases zero = 0
first_row layer_of drawn ases (suc layer) =
    first_row layer_of drawn ases layer + rows_of (length (layer_ases layer_of drawn ases layer))
