-- What a step leaves of a packet's header, and where an interface of a network leads.
use Rattle.std.proofs.Common.{◌≡◌, ℕ, ◌<◌, Bool, true, false, if◌then◌else◌, length, Result, Ok, Some, refl, sym, ap, ◌∙◌, inl, inr}
use Rattle.std.specs.Prelude.{nat_lt}
use Rattle.std.proofs.lemmas.Option.{same_Some}
use Rattle.refusal.specs.Refusal.{◌>>=◌, check}
use Rattle.refusal.proofs.Steps.{bind_ok, guard_ok, ok_or_ok, ok_is}
use Rattle.scion_topology.specs.declared.entry.IfEntry.{IfEntry}
use Rattle.scion_topology.specs.declared.fault.TopologyFault.TheVariants as faults
use Rattle.scion_topology.specs.declared.network.AsEntry.{AsEntry}
use Rattle.scion_topology.specs.declared.network.End.{End}
use Rattle.scion_topology.specs.View.{View, entry_of}
use Rattle.scion_topology.specs.Network.{Network, as_named, table_of, interface_in}
use Rattle.scion_topology.specs.Topology.{IsNetwork, known_as, known_link, interface_at, far_end_in, owner_in, view_in}
use Rattle.scion_topology.specs.Ends.{IsAt, IsShown, at_a, at_b}
use Rattle.scion_topology.proofs.Ends.{owner_below}
use Rattle.scion_topology.proofs.Shown.{is_end_of, shows_both_ends}
use Rattle.path_header.specs.declared.fields.InfoField.{InfoField}
use Rattle.path_header.specs.Value.{HeaderValue, IsHeader}
use Rattle.router_step.specs.declared.arrival.Arrival.{Arrival}
use Rattle.router_step.specs.declared.arrival.Arrival.TheVariants.{Inside}
use Rattle.router_step.specs.declared.outcome.Outcome.TheVariants.{ToRouter}
use Rattle.router_step.specs.declared.fault.Refusal.{Refusal}
use Rattle.router_step.specs.declared.fault.Refusal.TheVariants as refusals
use Rattle.router_step.specs.Place.{current_info, current_hop, way_out, seg_id_on_arrival, header_on_arrival, moved_on}
use Rattle.router_step.specs.Checks.{ends_segment}
use Rattle.router_step.specs.Step.{passes, switches_here, step_of}
use Rattle.router_step.proofs.FieldReads.{info_of-with_seg_id}
use Rattle.router_step.proofs.DoneSteps.{same_value, left_ok, step_ok}
use Rattle.forwarding.proofs.AtSpot.{not_moved}
use Rattle.forwarding.proofs.Routers.{view_for, view_is}

-- ---- the way out

-- the way out of the hop at which a packet stands
abbrev pub way_of : HeaderValue → ℕ
way_of header = way_out (current_info header) (current_hop header)

-- the router of a view owns this interface
pub record Owns (view : View) (number : ℕ) : Type 0 where
  pub entry : IfEntry
  pub known : entry_of view number ≡ Some entry
  pub own : entry.router ≡ view.router

way_on_arrival : (arrival : Arrival) (header : HeaderValue) → header.curr_inf < length header.infos
    → way_of (header_on_arrival arrival header) ≡ way_of header
way_on_arrival arrival header within =
    ap (λ (i : InfoField). way_out i (current_hop header))
    (info_of-with_seg_id header (seg_id_on_arrival arrival (current_info header) (current_hop header)) within)

-- a packet from inside the AS does not switch
no_switch_by : (ends : Bool) (next : Unit {0} → Result Bool Refusal) (has_switched : Bool)
    → (if ends then (check false refusals.SwitchInside >>= next) else Ok false) ≡ Ok has_switched
    → has_switched ≡ false
no_switch_by true next has_switched e = absurd cc
no_switch_by false next has_switched e = sym (same_value false has_switched e)

no_switch_inside : (view : View) (now : ℕ) (here : HeaderValue) (has_switched : Bool)
    → switches_here view now Inside here ≡ Ok has_switched → has_switched ≡ false
unfolding switches_here
no_switch_inside view now here has_switched e =
    no_switch_by (ends_segment here)
    (λ _. passes view now (current_info (moved_on true here)) (current_hop (moved_on true here))
    >>= λ _. Ok true) has_switched e

-- from inside, at the owner of its way out, it goes to no other router
pub leaves_from_inside : (view : View) (now source destination router : ℕ)
    (header new : HeaderValue) → IsHeader header → Owns view (way_of header)
    → step_of view now Inside source destination header ≡ Ok (ToRouter router, new) → ⊥
leaves_from_inside view now source destination router header new is owns done =
    let here = header_on_arrival Inside header in
    elim (step_ok view now Inside source destination header new (ToRouter router) done).1 [
      | inl w ↦ absurd (let to = w.1.outcome_is in cc)
      | inr w ↦ (
          let still : moved_on w.1.0 here ≡ here =
          ap (λ b. moved_on b here) (no_switch_inside view now here w.1.0 w.1.1.switch)
          ∙ not_moved here in
          let way : way_of (moved_on w.1.0 here) ≡ way_of header =
          ap way_of still ∙ way_on_arrival Inside header is.curr_inf in
          elim (left_ok view Inside w.1.0 _ _ (ToRouter router) w.1.1.leaves) [
            | inl d ↦ (
                let same : d.0 ≡ owns.entry = same_Some d.0 owns.entry
                (sym d.1.known ∙ ap (entry_of view) way ∙ owns.known) in
                d.1.another (ap (λ (e : IfEntry). e.router) same ∙ owns.own))
            | inr d ↦ absurd (let to = d.1.outcome_is in cc)
          ])
    ]

-- ---- what a network shows

-- a view of a network
pub record IsSeen (n : Network) (ia router : ℕ) (view : View) : Type 0 where
  pub one : AsEntry
  pub named : as_named n.ases ia ≡ Some one
  pub is : view_for n one ia router ≡ view

pub seen_as : (n : Network) (ia router : ℕ) (view : View) → view_in n ia router ≡ Ok view
    → IsSeen n ia router view
unfolding view_in
seen_as n ia router view seen =
    let at = bind_ok (known_as n ia) _ view seen in
    let passed = guard_ok (nat_lt router at.0.routers) _ faults.NoRouter view at.2 in
    record {
      one = at.0;
      named = ok_or_ok (as_named n.ases ia) faults.UnknownAs at.0 at.1;
      is = ok_is (view_for n at.0 ia router) view passed.1;
    }

pub entry_there : (n : Network) (ia router number : ℕ) (view : View) (entry : IfEntry)
    → IsSeen n ia router view → entry_of view number ≡ Some entry
    → interface_at n ia number ≡ Ok entry
entry_there n ia router number view entry seen shown =
    let there : interface_in (table_of ia n.links) number ≡ Some entry =
    ap (λ (v : View). entry_of v number) seen.is ∙ shown in
    rw (seen.named, there) refl

-- an interface leads to a far end, and both have an owner
pub record Leads (n : Network) (ia number : ℕ) (entry : IfEntry) : Type 0 where
  pub owner : owner_in n ia number ≡ Ok entry.router
  pub far : End
  pub leads : far_end_in n ia number ≡ Ok (far.ia, far.number)
  pub far_owner : owner_in n far.ia far.number ≡ Ok far.router

leads_from : (n : Network) (near far : End) (ia number : ℕ) (shown entry : IfEntry)
    → IsShown n near far shown → owner_in n far.ia far.number ≡ Ok far.router
    → near.router ≡ shown.router → IsAt near ia number → entry ≡ shown → Leads n ia number entry
leads_from n near far ia number shown entry is far_owner own at same = record {
  owner =
      ap (λ x. owner_in n x number) (sym at.0) ∙ ap (λ m. owner_in n near.ia m) (sym at.1)
      ∙ is.owner ∙ ap (λ r. Ok r) (own ∙ ap (λ (e : IfEntry). e.router) (sym same));
  far = far;
  leads =
      ap (λ x. far_end_in n x number) (sym at.0) ∙ ap (λ m. far_end_in n near.ia m) (sym at.1)
      ∙ is.leads;
  far_owner = far_owner;
}

pub leads_on : (n : Network) (ia number : ℕ) (entry : IfEntry) → IsNetwork n
    → interface_at n ia number ≡ Ok entry → Leads n ia number entry
leads_on n ia number entry network there =
    let of = is_end_of n ia number entry there in
    let link = of.link in
    let ends = shows_both_ends n link network of.listed in
    elim of.end [
      | inl at ↦
          leads_from n link.a link.b ia number (at_a link) entry ends.a ends.b.owner refl at.0 at.1
      | inr at ↦
          leads_from n link.b link.a ia number (at_b link) entry ends.b ends.a.owner refl at.0 at.1
    ]

-- the router that owns an interface is there
pub owner_is_there : (n : Network) (ia number router : ℕ) → IsNetwork n
    → owner_in n ia number ≡ Ok router
    → (one : AsEntry) × (view_in n ia router ≡ Ok (view_for n one ia router))
unfolding owner_in
owner_is_there n ia number router network owned =
    let at = bind_ok (known_link n ia number) _ router owned in
    let here = bind_ok (known_as n ia) _ at.0 at.1 in
    let named = ok_or_ok (as_named n.ases ia) faults.UnknownAs here.0 here.1 in (
      here.0,
      view_is n ia router here.0 named
          (owner_below n ia number router here.0 network owned here.1),
    )
