use Rattle.std.proofs.Common.{List, ℕ, sym, ap, ◌∙◌, subst, arith}
use Rattle.forwarding.specs.Turn.{packet_with, turn_under}
use Rattle.router_workers.specs.Flight.{FlightValue, IsViewAt, advanced_flight}
use Rattle.router_workers.proofs.Flying.{at_router, hops_left, flies_by, advanced_by, few_passed, turned_in_room}
use Rattle.router_workers.proofs.flight.Flight.turn_by.Goals as goal

pub add_hop-requires : goal.add_hop-requires
add_hop-requires c =
    let at = subst (λ (f : FlightValue). IsViewAt f.fabric f.packet.place c.args.view.now)
    (sym c.self.view_is) c.requires in
    let here = at_router _ _ c.args.view.now at in
    let fewer = hops_left _ c.self.invariant.0 here in
    let room = c.self.invariant.2 here in
    λ _. omega (arith, fewer, room)

pub invariant_of-self : goal.invariant_of-self
invariant_of-self c =
    let at = subst (λ (f : FlightValue). IsViewAt f.fabric f.packet.place c.args.view.now)
    (sym c.self.view_is) c.requires in
    let here = at_router _ _ c.args.view.now at in
    let old = c.self.inside in
    let new = c.turn_in_place-hop.new in
    let hops = c.add_hop.ensures.hops in
    let left = turned_in_room new.bytes old.bytes.items old.bytes.len new.place c.add_hop.new.passed.items _ _
    (c.turn_in_place-hop.ensures.len ∙ c.deref_mut.ensures.len) hops
    (c.turn_in_place-hop.ensures.packet old.passed.items
    ∙ ap (λ (bytes : List ℕ). (turn_under old.fabric.now c.args.view.now c.args.now (packet_with bytes old.place old.passed.items)).1)
    c.deref_mut.ensures.value) in (
      flies_by c.args.now _ c.args.view.now _ c.self.invariant.0 at left,
      few_passed _ _ _ c.self.invariant.1 hops,
      λ _. (
          let room = c.self.invariant.2 here in
          let same = c.add_hop.ensures.room in
          omega (arith, room, same)),
    )

pub returns : goal.returns
returns c =
    let at = subst (λ (f : FlightValue). IsViewAt f.fabric f.packet.place c.args.view.now)
    (sym c.self.view_is) c.requires in
    let old = c.self.inside in
    let new = c.turn_in_place-hop.new in
    let left = turned_in_room new.bytes old.bytes.items old.bytes.len new.place c.add_hop.new.passed.items _ _
    (c.turn_in_place-hop.ensures.len ∙ c.deref_mut.ensures.len) c.add_hop.ensures.hops
    (c.turn_in_place-hop.ensures.packet old.passed.items
    ∙ ap (λ (bytes : List ℕ). (turn_under old.fabric.now c.args.view.now c.args.now (packet_with bytes old.place old.passed.items)).1)
    c.deref_mut.ensures.value) in
    advanced_by c.args.now _ c.args.view.now _ at left ∙ ap (advanced_flight c.args.now) c.self.view_is
