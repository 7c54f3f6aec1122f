-- The places of the links that a walk crosses, and what they tell of the walk.
use Rattle.std.proofs.Common.{◌≡◌, ℕ, zero, suc, Bool, true, false, List, [], ◌∷◌, ◌++◌, ◌+◌, ◌<◌, get_or, length, take, Option, Some, None, refl, sym, ap, ◌∙◌, inl, inr, subst, arith, eqb-true, eq-eqb, true≢false}
use Rattle.std.specs.Prelude.{◌||◌, ◌&&◌, ◌==◌, All, map, position, slice_get}
use Rattle.std.specs.List.{cons_option, list_all, list_any}
use Rattle.std.specs.Option.{option_and_then, option_map_or}
use Rattle.std.proofs.lemmas.Bool.{cases_Bool, or_cases}
use Rattle.std.proofs.lemmas.List.{take_more}
use Rattle.std.proofs.lemmas.List.Elements.{All-head, All-tail, filter_map-append}
use Rattle.std.proofs.lemmas.List.Quantifiers.{position-Some}
use Rattle.std.proofs.lemmas.Option.{get_or_from_slice_get}
use Rattle.policy_expr.specs.declared.hop.WalkHop.{WalkHop}
use Rattle.scion_topology.specs.declared.network.Link.{Link}
use Rattle.scion_topology.specs.Network.{Network, has_end}
use Rattle.scion_topology.specs.Topology.{IsNetwork}
use Rattle.scion_topology.proofs.Ends.{place_in_network}
use Rattle.scion_topology.proofs.Tables.{find-position}
use Rattle.path_report.specs.declared.open_walk.OpenWalk.{OpenWalk}
use Rattle.path_report.specs.Paths.{crosses, is_open, lets_leave}
use Rattle.path_report.specs.inner.Cuts.{crosses_at}
use Rattle.path_report.specs.inner.Needed.{is_crossed}
use Rattle.path_report.specs.inner.Places.{HasPlaces, are_up_at, is_up_at, place_left_by, places_crossed}

-- ---- links that are up

up_at_place : (links : List Link) (place : Option ℕ) → option_map_or (λ (k : ℕ). is_up_at links k) place true
    ≡ option_map_or (λ (link : Link). link.up) (option_and_then (slice_get links) place) true
up_at_place links None = refl
up_at_place links (Some k) = refl

lets_leave_by : (links : List Link) (hop : WalkHop)
    → lets_leave links hop ≡ option_map_or (λ (k : ℕ). is_up_at links k) (place_left_by links hop) true
lets_leave_by links hop =
    ap (λ (found : Option Link). option_map_or (λ (link : Link). link.up) found true)
    (find-position (λ link. has_end link hop.ia hop.egress) links) ∙ sym (up_at_place links (place_left_by links hop))

all_behind : {X : Type 0} (test : X → Bool) (one : Option X) (later : List X)
    → list_all test (cons_option one later) ≡ (option_map_or test one true && list_all test later)
all_behind test None later = refl
all_behind test (Some x) later = refl

-- the links at the places are up if and only if the walk is open
pub are_up_where_open : (links : List Link) (walk : List WalkHop)
    → are_up_at links (places_crossed links walk) ≡ is_open links walk
are_up_where_open links [] = refl
are_up_where_open links (hop ∷ walk) =
    all_behind (is_up_at links) (place_left_by links hop) (places_crossed links walk)
    ∙ ap (λ (b : Bool). b && are_up_at links (places_crossed links walk)) (sym (lets_leave_by links hop))
    ∙ ap (λ (b : Bool). lets_leave links hop && b) (are_up_where_open links walk)

-- one hop more of the front
pub places_next : (links : List Link) (walk : List WalkHop) (i : ℕ) (hop : WalkHop) → i < length walk → hop ≡ get_or walk i hop
    → places_crossed links (take (i + 1) walk) ≡ places_crossed links (take i walk) ++ cons_option (place_left_by links hop) []
places_next links walk i hop within is =
    ap (places_crossed links) (take_more walk i hop within ∙ ap (λ (it : WalkHop). take i walk ++ it ∷ []) (sym is))
    ∙ filter_map-append (place_left_by links) (take i walk) (hop ∷ [])

-- ---- links that are crossed

within_links : (links : List Link) (place : ℕ) → place < length links
    → (link : Link) × (place < length links) × (get_or links place link ≡ link)
within_links [] place within = absurd (omega (arith, within))
within_links (link ∷ links) zero within = (link, within, refl)
within_links (link ∷ links) (suc place) within =
    let more = within_links links place (omega (arith, within)) in (more.0, within, more.2)

found_within : (test : Link → Bool) (links : List Link) (k : ℕ) → position test links ≡ Some k → k < length links
found_within test [] k is = absurd cc
found_within test (link ∷ links) k is = (position-Some test (link ∷ links) k link is).0

any_behind : {X : Type 0} (test : X → Bool) (one : Option X) (later : List X)
    → list_any test (cons_option one later) ≡ (option_map_or test one false || list_any test later)
any_behind test None later = refl
any_behind test (Some x) later = refl

module _ (n : Network) (network : IsNetwork n) (place : ℕ) (link : Link) (there : slice_get n.links place ≡ Some link) where
  left_by : (hop : WalkHop) (left : Option ℕ) → place_left_by n.links hop ≡ left → (ends : Bool) → has_end link hop.ia hop.egress ≡ ends
      → option_map_or (λ (one : ℕ). one == place) left false ≡ ends
  left_by hop None is false ends = refl
  left_by hop None is true ends =
      absurd (let found : None ≡ Some place = sym is ∙ place_in_network n network place link there hop.ia hop.egress ends in cc)
  left_by hop (Some k) is true ends =
      let found : Some k ≡ Some place = sym is ∙ place_in_network n network place link there hop.ia hop.egress ends in
      let same : k ≡ place = cc in
      eq-eqb k place same
  left_by hop (Some k) is false ends = elim (cases_Bool (k == place)) [
    | inl same ↦ absurd (
        let at : k ≡ place = eqb-true k place same in
        let found = position-Some (λ l. has_end l hop.ia hop.egress) n.links k link is in
        let one : get_or n.links k link ≡ link = ap (λ (i : ℕ). get_or n.links i link) at ∙ get_or_from_slice_get n.links place link link there in
        true≢false (sym found.1 ∙ ap (λ (l : Link). has_end l hop.ia hop.egress) one ∙ ends))
    | inr apart ↦ apart
  ]

  crossed_places : (walk : List WalkHop) → list_any (λ (one : ℕ). one == place) (places_crossed n.links walk) ≡ crosses walk link
  crossed_places [] = refl
  crossed_places (hop ∷ walk) =
      any_behind (λ (one : ℕ). one == place) (place_left_by n.links hop) (places_crossed n.links walk)
      ∙ ap (λ (b : Bool). b || list_any (λ (one : ℕ). one == place) (places_crossed n.links walk))
      (left_by hop (place_left_by n.links hop) refl (has_end link hop.ia hop.egress) refl)
      ∙ ap (λ (b : Bool). has_end link hop.ia hop.egress || b) (crossed_places walk)

  -- a walk has the place of a link if and only if it crosses the link
  pub crosses_there : (walk : OpenWalk) → HasPlaces n.links walk → crosses_at place walk ≡ crosses walk.hops.now link
  crosses_there walk has = ap (list_any (λ (one : ℕ). one == place)) has ∙ crossed_places walk.hops.now

  pub all_cross : (walks : List OpenWalk) → All (HasPlaces n.links) walks
      → list_all (crosses_at place) walks ≡ is_crossed (map (λ (walk : OpenWalk). walk.hops.now) walks) link
  all_cross [] have = refl
  all_cross (walk ∷ walks) have =
      ap (λ (b : Bool). b && list_all (crosses_at place) walks)
      (crosses_there walk (All-head (HasPlaces n.links) walk walks have))
      ∙ ap (λ (b : Bool). crosses walk.hops.now link && b) (all_cross walks (All-tail (HasPlaces n.links) walk walks have))

-- what a walk crosses is the place of a link
pub crossed_within : (links : List Link) (place : ℕ) (walk : OpenWalk) → HasPlaces links walk → crosses_at place walk ≡ true
    → (link : Link) × (place < length links) × (get_or links place link ≡ link)
crossed_within links place walk has meets =
    by walk.hops.now (sym (ap (list_any (λ (one : ℕ). one == place)) has) ∙ meets)
  where
    one : (hop : WalkHop) (left : Option ℕ) → place_left_by links hop ≡ left → option_map_or (λ (p : ℕ). p == place) left false ≡ true
        → (link : Link) × (place < length links) × (get_or links place link ≡ link)
    one hop None is crossed = absurd (true≢false (sym crossed))
    one hop (Some k) is crossed = within_links links place (subst (λ (p : ℕ). p < length links) (eqb-true k place crossed)
        (found_within (λ l. has_end l hop.ia hop.egress) links k is))

    by : (hops : List WalkHop) → list_any (λ (p : ℕ). p == place) (places_crossed links hops) ≡ true
        → (link : Link) × (place < length links) × (get_or links place link ≡ link)
    by [] none = absurd (true≢false (sym none))
    by (hop ∷ hops) crossed = elim (or_cases (option_map_or (λ (p : ℕ). p == place) (place_left_by links hop) false)
        (list_any (λ (p : ℕ). p == place) (places_crossed links hops))
        (sym (any_behind (λ (p : ℕ). p == place) (place_left_by links hop) (places_crossed links hops)) ∙ crossed)) [
          | inl here ↦ one hop (place_left_by links hop) refl here
          | inr later ↦ by hops later
        ]
