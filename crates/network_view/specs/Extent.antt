-- Which ASes and which links of a network a picture has.
use Rattle.std.specs.Prelude.{ℕ, zero, suc, ◌==◌, ◌&&◌, ◌||◌, Bool, true, List}
use Rattle.std.specs.List.{list_any}
use Rattle.isd_as.specs.Address.{isd_of}
use Rattle.scion_topology.specs.declared.network.AsEntry.{AsEntry}
use Rattle.scion_topology.specs.declared.network.Link.{Link}
use Rattle.scion_topology.specs.Network.{Network}
use Rattle.network_view.specs.declared.extent.Centre.{Centre}
use Rattle.network_view.specs.declared.extent.Centre.TheVariants.{Whole, Core, Isd, As}
use Rattle.network_view.specs.declared.extent.Extent.{Extent}

-- ---- ASes that are near

-- whether the link joins this AS to one of these
abbrev pub joins_to : (these : ℕ → Bool) (ia : ℕ) → Link → Bool
joins_to these ia link =
    (these link.a.ia && (link.b.ia == ia)) || (these link.b.ia && (link.a.ia == ia))

-- these ASes, and those that a link joins to one of them
abbrev pub with_neighbours : List Link → (these : ℕ → Bool) → (ia : ℕ) → Bool
with_neighbours links these ia = these ia || list_any (joins_to these ia) links

-- the ASes that are at most so many links from one of these
abbrev pub within : List Link → (hops : ℕ) (these : ℕ → Bool) → (ia : ℕ) → Bool
within links zero these = these
within links (suc hops) these = with_neighbours links (within links hops these)

-- ---- the part of a network that a picture shows

-- whether an AS is one of those around which a picture is drawn
abbrev pub is_central : Centre → AsEntry → Bool
is_central Whole one = true
is_central Core one = one.core
is_central (Isd isd) one = isd_of one.ia == isd
is_central (As ia) one = one.ia == ia

-- whether there is such an AS
abbrev pub has_central : Centre → List AsEntry → Bool
has_central centre ases = list_any (is_central centre) ases

-- the addresses of these ASes
abbrev pub central : Centre → List AsEntry → (ia : ℕ) → Bool
central centre ases ia = list_any (λ one. is_central centre one && (one.ia == ia)) ases

-- whether an AS is in the part: it is at most so many links from one of the ASes around which the
-- picture is drawn
abbrev pub is_inside : Network → Extent → (ia : ℕ) → Bool
is_inside network extent = within network.links extent.hops (central extent.centre network.ases)

-- whether a picture has an AS: it is in the part, or a link joins it to one that is
abbrev pub is_drawn : Network → Extent → (ia : ℕ) → Bool
is_drawn network extent = with_neighbours network.links (is_inside network extent)

-- whether a picture has a link: one of its ends is in the part
abbrev pub is_link_drawn : (inside : ℕ → Bool) → Link → Bool
is_link_drawn inside link = inside link.a.ia || inside link.b.ia
