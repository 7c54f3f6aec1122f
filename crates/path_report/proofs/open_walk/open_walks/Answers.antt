-- One walk more, which is open or not.
use Rattle.std.proofs.Common.{◌≡◌, ◌++◌, ◌∷◌, [], List, Bool, cond, All, map, option_map, take, rules, sym, ap, subst, ◌∙◌}
use Rattle.std.proofs.lemmas.List.{map-append}
use Rattle.std.proofs.lemmas.List.Elements.{All-push}
use Rattle.policy_expr.specs.declared.hop.WalkHop.{WalkHop}
use Rattle.scion_topology.specs.declared.network.Link.{Link}
use Rattle.path_report.specs.declared.open_walk.OpenWalk.{OpenWalk}
use Rattle.path_report.specs.Paths.{is_open, open_walks}
use Rattle.path_report.specs.inner.Places.{HasPlaces, are_up_at}
use Rattle.path_report.proofs.Opening.{walks_next}
use Rattle.path_report.proofs.Placing.{are_up_where_open}
use Rattle.path_report.proofs.open_walk.open_walks.Goals as goal
use Rattle.path_report.proofs.open_walk.open_walks.Goals.{then-are_up_at+in_ok-push, else-are_up_at}

pub loop-place-preserved : goal.loop-place-preserved
loop-place-preserved c =
    let links = c.args.topology.now.links in
    let hops = c.unwrap-hops.result.now in
    let there = sym c.get.ensures ∙ ap (λ o. option_map (λ walk. walk.now) o) c.unwrap-hops.ensures in
    let next = walks_next links c.args.walks.now c.loop-place.place hops there in
    let opens : c.are_up_at.result ≡ is_open links hops =
    c.are_up_at.ensures ∙ ap (λ (ls : List Link). are_up_at ls c.deref.result.now) c.links.ensures
    ∙ ap (are_up_at links) (c.deref.ensures.value ∙ c.in_ok-places.ensures.places)
    ∙ are_up_where_open links hops in
    elim c.if-are_up_at.branch [
      | then-are_up_at+in_ok-push w ↦ (
          let one : OpenWalk = record { hops = c.unwrap-hops.result; places = c.in_ok-places.places } in
          let items : c.if-are_up_at.found.items ≡ c.loop-place.found.items ++ one ∷ [] =
          ap (λ found. found.items) w.found-is ∙ w.in_ok-push.ensures.items in
          record {
            walks = ap (map (λ (walk : OpenWalk). walk.hops.now)) items
                ∙ map-append (λ (walk : OpenWalk). walk.hops.now) c.loop-place.found.items (one ∷ [])
                ∙ ap (λ (front : List (List WalkHop)). front ++ hops ∷ []) c.loop-place.invariant.walks
                ∙ ap (λ (b : Bool). open_walks links (take c.loop-place.place c.args.walks.now) ++ cond b (hops ∷ []) [])
                (sym w.if-are_up_at.true ∙ opens)
                ∙ sym next;
            known = c.in_ok-places.ensures.known;
            places = subst (All (HasPlaces links)) (sym items)
                (All-push (HasPlaces links) c.loop-place.found.items one c.loop-place.invariant.places c.in_ok-places.ensures.places);
          })
      | else-are_up_at w ↦ record {
        walks = search (rules, next, opens);
        known = c.in_ok-places.ensures.known;
        places = search (rules);
      }
    ]
