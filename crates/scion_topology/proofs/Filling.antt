-- The indexes of ASes, to which the links are added one by one.
use Rattle.std.proofs.Common.{◌≡◌, ℕ, ◌+◌, Bool, true, false, cond, eqb, List, [], ◌∷◌, Option, Some, refl, option_map}
use Rattle.scion_topology.specs.declared.network.AsEntry.{AsEntry}
use Rattle.scion_topology.specs.declared.network.Link.{Link}
use Rattle.scion_topology.specs.Index.{IndexValue, index_at, index_from}
use Rattle.scion_topology.specs.inner.Index.{with_links}

-- the indexes without links, to which all links were added
pub filled : (base : ℕ) (ases : List AsEntry) (links : List Link) (ia : ℕ) → option_map (with_links 0 ia links) (index_from base ases [] ia) ≡ index_from base ases links ia
filled base [] links ia = refl
filled base (one ∷ rest) links ia = go (eqb one.ia ia) (index_from (base + 1) rest [] ia) (index_from (base + 1) rest links ia) (filled (base + 1) rest links ia)
  where
    go : (here : Bool) (o p : Option IndexValue) → option_map (with_links 0 ia links) o ≡ p → option_map (with_links 0 ia links) (cond here (Some (index_at base ia [])) o) ≡ cond here (Some (index_at base ia links)) p
    go true o p e = refl
    go false o p e = e
