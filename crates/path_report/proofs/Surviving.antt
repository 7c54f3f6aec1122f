-- What is known of the places of links is known of the links.
use Rattle.std.proofs.Common.{◌≡◌, ℕ, suc, Bool, List, [], ◌∷◌, Some, length, map, All, Contains, refl, sym, ap, subst, ◌∙◌, arith}
use Rattle.std.specs.Prelude.{◌||◌, ◌&&◌, slice_get}
use Rattle.std.specs.List.{list_any}
use Rattle.std.proofs.lemmas.List.Elements.{All-cons, All-head, All-tail}
use Rattle.std.proofs.lemmas.Option.{slice_get-get_or}
use Rattle.policy_expr.specs.declared.hop.WalkHop.{WalkHop}
use Rattle.scion_topology.specs.declared.network.Link.{Link}
use Rattle.scion_topology.specs.Network.{Network}
use Rattle.scion_topology.specs.Topology.{IsNetwork}
use Rattle.path_report.specs.declared.open_walk.OpenWalk.{OpenWalk}
use Rattle.path_report.specs.Paths.{IsSurvived, are_cut, crosses}
use Rattle.path_report.specs.inner.Cuts.{DoSurvive, IsCrossed, are_met, is_met}
use Rattle.path_report.specs.inner.Places.{HasPlaces}
use Rattle.path_report.proofs.Placing.{crosses_there, crossed_within}

abbrev hops_of : List OpenWalk → List (List WalkHop)
hops_of walks = map (λ (walk : OpenWalk). walk.hops.now) walks

-- these places are those of these links
abbrev AreAt : List Link → List ℕ → List Link → Type 0
AreAt links [] [] = Unit {0}
AreAt links [] (link ∷ lost) = ⊥
AreAt links (place ∷ places) [] = ⊥
AreAt links (place ∷ places) (link ∷ lost) = (slice_get links place ≡ Some link) × AreAt links places lost

same_length : (links : List Link) (places : List ℕ) (lost : List Link) → AreAt links places lost → length places ≡ length lost
same_length links [] [] at = refl
same_length links [] (link ∷ lost) at = absurd at
same_length links (place ∷ places) [] at = absurd at
same_length links (place ∷ places) (link ∷ lost) at = ap suc (same_length links places lost at.1)

module _ (n : Network) (network : IsNetwork n) where
  met_where_crossed : (places : List ℕ) (lost : List Link) → AreAt n.links places lost → (walk : OpenWalk) → HasPlaces n.links walk
      → is_met places walk ≡ list_any (crosses walk.hops.now) lost
  met_where_crossed [] [] at walk has = refl
  met_where_crossed [] (link ∷ lost) at walk has = absurd at
  met_where_crossed (place ∷ places) [] at walk has = absurd at
  met_where_crossed (place ∷ places) (link ∷ lost) at walk has =
      ap (λ (b : Bool). b || is_met places walk) (crosses_there n network place link at.0 walk has)
      ∙ ap (λ (b : Bool). crosses walk.hops.now link || b) (met_where_crossed places lost at.1 walk has)

  met_where_cut : (places : List ℕ) (lost : List Link) → AreAt n.links places lost → (walks : List OpenWalk)
      → All (HasPlaces n.links) walks → are_met places walks ≡ are_cut lost (hops_of walks)
  met_where_cut places lost at [] have = refl
  met_where_cut places lost at (walk ∷ walks) have =
      ap (λ (b : Bool). b && are_met places walks)
      (met_where_crossed places lost at walk (All-head (HasPlaces n.links) walk walks have))
      ∙ ap (λ (b : Bool). list_any (crosses walk.hops.now) lost && b)
      (met_where_cut places lost at walks (All-tail (HasPlaces n.links) walk walks have))

  -- links of the network have places
  places_at : (lost : List Link) → All (Contains n.links) lost → (places : List ℕ) × AreAt n.links places lost
  places_at [] all = ([], tt)
  places_at (link ∷ lost) all =
      let there = All-head (Contains n.links) link lost all in
      let more = places_at lost (All-tail (Contains n.links) link lost all) in
      (there.0 ∷ more.0, (slice_get-get_or n.links there.0 link there.1 ∙ ap Some there.2, more.1))

  module _ (walks : List OpenWalk) (have : All (HasPlaces n.links) walks) where
    -- places that walks cross are those of links
    links_at : (places : List ℕ) → All (IsCrossed walks) places → (lost : List Link) × All (Contains n.links) lost × AreAt n.links places lost
    links_at [] all = ([], (λ k d within. absurd (omega (arith, within))), tt)
    links_at (place ∷ places) all =
        let one = All-head (IsCrossed walks) place places all in
        let more = links_at places (All-tail (IsCrossed walks) place places all) in
        let link = crossed_within n.links place one.0 (subst (HasPlaces n.links) one.1.2 (have one.1.0 one.0 one.1.1)) one.2 in (
          link.0 ∷ more.0,
          All-cons (Contains n.links) link.0 more.0 (place, link.1, link.2) more.1,
          ((slice_get-get_or n.links place link.0 link.1 ∙ ap Some link.2), more.2),
        )

    pub survived : (count : ℕ) → DoSurvive walks count → IsSurvived n.links (hops_of walks) count
    survived count is = record {
      few = is.few;
      survive = λ lost all few. (
          let at = places_at lost all in
          let long = same_length n.links at.0 lost at.1 in
          sym (met_where_cut at.0 lost at.1 walks have) ∙ is.survive at.0 (omega (arith, few, long)));
      most = λ less. (
          let can = is.most less in
          let links = links_at can.others can.crossed in
          let long = same_length n.links can.others links.0 links.2 in
          let few = can.few in
          (links.0, links.1, omega (arith, few, long), sym (met_where_cut can.others links.0 links.2 walks have) ∙ can.met));
    }
