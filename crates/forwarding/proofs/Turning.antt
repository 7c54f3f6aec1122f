-- Where one turn leads a packet that stands at a spot of an open path.
use Rattle.std.proofs.Common.{◌≡◌, ◌≢◌, ℕ, ◌+◌, ◌^◌, ◌<◌, true, false, List, [], Result, Ok, Some, ap, ◌∙◌}
use Rattle.router_step.specs.Packet.{packet_step}
use Rattle.refusal.specs.Refusal.{◌>>=◌}
use Rattle.std.specs.Result.{result_unwrap_or}
use Rattle.std.specs.Prelude.{slice_get}
use Rattle.std.proofs.lemmas.Bool.{eq-eqb, ne_eqb}
use Rattle.hop_mac.specs.Lifetime.{IsLive}
use Rattle.scion_topology.specs.declared.fault.TopologyFault.{TopologyFault}
use Rattle.scion_topology.specs.declared.network.AsEntry.{AsEntry}
use Rattle.scion_topology.specs.View.{View}
use Rattle.scion_topology.specs.Network.{Network, as_named}
use Rattle.scion_topology.specs.Topology.{far_end_in}
use Rattle.path_segment.specs.declared.entry.Entry.{Entry}
use Rattle.path_header.specs.Value.{HeaderValue}
use Rattle.path_verifier.specs.Piece.{PieceValue, HasRange, travelled_entries}
use Rattle.path_verifier.specs.Header.{len_of}
use Rattle.policy_expr.specs.declared.hop.WalkHop.{WalkHop}
use Rattle.router_step.specs.declared.arrival.Arrival.{Arrival}
use Rattle.router_step.specs.declared.arrival.Arrival.TheVariants.{Inside, Link}
use Rattle.router_step.specs.declared.outcome.Outcome.{Outcome}
use Rattle.router_step.specs.declared.fault.Refusal.{Refusal}
use Rattle.router_step.specs.Step.{step_of}
use Rattle.forwarding.specs.PathPosition.{PathPosition, header_there, next_position, in_by, out_by}
use Rattle.forwarding.specs.Forwardable.{IsAuthenticHop, IsLinked}
use Rattle.forwarding.specs.declared.location.RouterStop.{RouterStop}
use Rattle.forwarding.specs.declared.location.PacketLocation.TheVariants.{AtRouter, Delivered}
use Rattle.path_header.specs.Spelling.{SpellsHeader, spelling}
use Rattle.forwarding.specs.Frame.{frame_of}
use Rattle.forwarding.specs.Turn.{Packet, with_passed_hop, after_outcome, after_step, turn_of, turned_packet, still}
use Rattle.forwarding.specs.OnPath.{header_on, at_spot}
use Rattle.forwarding.proofs.Framed.{frame_goes}
use Rattle.forwarding.proofs.AtSpot.{IsSpot, Comes, IsOwn}
use Rattle.forwarding.proofs.Stepping.{Opens, onward_by, goes_on, arrives}
use Rattle.forwarding.proofs.Switching.{at_end, at_start, switches}
use Rattle.forwarding.proofs.Routers.{view_for, view_is, own}

-- a packet at a router
abbrev pub carried : ℕ → ℕ → List ℕ → HeaderValue → RouterStop → List WalkHop → Packet
carried source destination payload header stop passed = record {
  bytes = frame_of source destination header payload;
  place = AtRouter stop;
  passed = passed;
}

-- what a step over the header makes of it
abbrev pub placed : Network → ℕ → ℕ → List ℕ → RouterStop → List WalkHop → Outcome × HeaderValue → Packet
placed n source destination payload stop passed done =
    after_outcome n (carried source destination payload done.1 stop passed) stop done.0

-- a way into an AS, at this router of it
abbrev pub stop_at : ℕ → ℕ → Arrival → ℕ → RouterStop
stop_at ia router arrival came_in_by =
    record { ia = ia; router = router; arrival = arrival; came_in_by = came_in_by }

-- over a link to the next entry
abbrev pub crossed : ℕ → ℕ → List ℕ → PathPosition → Entry → Entry → ℕ → ℕ → List WalkHop → Packet
crossed source destination payload spot entry next router came_in_by passed =
    at_spot source destination payload (next_position spot) next (Link (in_by spot.piece next)) router
    (in_by spot.piece next)
    (with_passed_hop passed (record { ia = entry.ia; ingress = came_in_by; egress = out_by spot.piece entry }))

-- what a step answers puts the packet over the link, or at the router that owns it
pub over : (n : Network) (source destination : ℕ) (payload : List ℕ) (stop : RouterStop)
    (passed : List WalkHop) (view : View) (spot : PathPosition) (entry next : Entry)
    (goes : IsLinked n spot.piece entry next) → stop.ia ≡ entry.ia → goes.near.router ≡ view.router
    → placed n source destination payload stop passed (onward_by view goes.near spot entry)
    ≡ crossed source destination payload spot entry next goes.far.router stop.came_in_by passed
over n source destination payload stop passed view spot entry next goes here same =
    let leads : far_end_in n stop.ia (out_by spot.piece entry) ≡ Ok
    (next.ia, in_by spot.piece next) =
    ap (λ ia. far_end_in n ia (out_by spot.piece entry)) here ∙ goes.leads in
    rw (eq-eqb goes.near.router view.router same, leads, goes.far_owner)
    (ap (λ ia. at_spot source destination payload (next_position spot) next
    (Link (in_by spot.piece next))
    goes.far.router (in_by spot.piece next)
    (with_passed_hop passed (record { ia = ia; ingress = stop.came_in_by; egress = out_by spot.piece entry })))
    here)

pub inside : (n : Network) (source destination : ℕ) (payload : List ℕ) (stop : RouterStop)
    (passed : List WalkHop) (view : View) (spot : PathPosition) (entry next : Entry)
    (goes : IsLinked n spot.piece entry next) → stop.ia ≡ entry.ia → goes.near.router ≢ view.router
    → placed n source destination payload stop passed (onward_by view goes.near spot entry)
    ≡ at_spot source destination payload spot entry Inside goes.near.router stop.came_in_by passed
inside n source destination payload stop passed view spot entry next goes here other =
    rw (ne_eqb goes.near.router view.router other)
    (ap (λ ia. carried source destination payload (header_there spot)
    (stop_at ia goes.near.router Inside stop.came_in_by) passed) here)

-- a turn is the router's step
turn_is : (n : Network) (now source destination : ℕ) (payload : List ℕ) (header : HeaderValue)
    (stop : RouterStop) (passed : List WalkHop) (one : AsEntry) (done : Outcome × HeaderValue)
    → as_named n.ases stop.ia ≡ Some one → stop.router < one.routers
    → source < 2 ^ 64 → destination < 2 ^ 64 → SpellsHeader (spelling header) header
    → step_of (view_for n one stop.ia stop.router) now stop.arrival source destination header
    ≡ Ok done
    → turned_packet n now (carried source destination payload header stop passed)
    ≡ placed n source destination payload stop passed done
unfolding turn_of
turn_is n now source destination payload header stop passed one done named below from for spells
    step =
    let packet = carried source destination payload header stop passed in
    let view = view_for n one stop.ia stop.router in
    ap (λ (v : Result View TopologyFault). (result_unwrap_or (v >>= λ (seen : View). Ok
    (after_step n packet stop (packet_step seen now stop.arrival packet.bytes))) (still packet)).1)
    (view_is n stop.ia stop.router one named below)
    ∙ ap (λ (r : Result (Outcome × List ℕ) Refusal). (after_step n packet stop r).1)
    (frame_goes view now stop.arrival source destination header payload done from for spells step)

module _ (n : Network) (now source destination : ℕ) (payload : List ℕ) (from : source < 2 ^ 64)
    (for : destination < 2 ^ 64) where
  -- on one piece
  pub turns_on : (spot : PathPosition) (entry next : Entry) (arrival : Arrival) (router came_in_by : ℕ)
      (passed : List WalkHop) → (accepted : IsAuthenticHop n spot.piece spot.reached entry)
      (goes : IsLinked n spot.piece entry next) → IsSpot spot entry → router < accepted.one.routers
      → SpellsHeader (spelling (header_on arrival spot)) (header_on arrival spot)
      → IsLive spot.piece.segment.timestamp entry.exp_time now
      → destination ≢ entry.ia → spot.reached + 1 < len_of spot.piece
      → Comes (view_for n accepted.one entry.ia router) arrival source spot entry
      → Opens (view_for n accepted.one entry.ia router) arrival false spot.piece entry goes.near
      → turned_packet n now (at_spot source destination payload spot entry arrival router came_in_by passed)
      ≡ placed n source destination payload (stop_at entry.ia router arrival came_in_by) passed
      (onward_by (view_for n accepted.one entry.ia router) goes.near spot entry)
  turns_on spot entry next arrival router came_in_by passed accepted goes is below spells live other more
      comes opens =
      turn_is n now source destination payload (header_on arrival spot)
      (stop_at entry.ia router arrival came_in_by) passed accepted.one _ accepted.named below from for
      spells
      (goes_on (view_for n accepted.one entry.ia router) now arrival source destination spot entry
      goes.near is comes
      (own n now router spot.piece spot.reached entry accepted live) other more opens)

  -- at the end of the path
  pub turns_last : (spot : PathPosition) (entry : Entry) (arrival : Arrival) (router came_in_by : ℕ)
      (passed : List WalkHop) → (accepted : IsAuthenticHop n spot.piece spot.reached entry)
      → IsSpot spot entry → router < accepted.one.routers
      → SpellsHeader (spelling (header_on arrival spot)) (header_on arrival spot)
      → IsLive spot.piece.segment.timestamp entry.exp_time now
      → destination ≡ entry.ia → spot.reached + 1 ≡ len_of spot.piece → spot.later ≡ []
      → Comes (view_for n accepted.one entry.ia router) arrival source spot entry
      → turned_packet n now (at_spot source destination payload spot entry arrival router came_in_by passed)
      ≡ record {
        bytes = frame_of source destination (header_there spot) payload;
        place = Delivered;
        passed = with_passed_hop passed (record { ia = entry.ia; ingress = came_in_by; egress = 0 });
      }
  turns_last spot entry arrival router came_in_by passed accepted is below spells live here at_end none
      comes =
      turn_is n now source destination payload (header_on arrival spot)
      (stop_at entry.ia router arrival came_in_by) passed accepted.one _ accepted.named below from for
      spells
      (arrives (view_for n accepted.one entry.ia router) now arrival source destination spot entry
      is
      comes (own n now router spot.piece spot.reached entry accepted live) here at_end none)

  -- onto the next piece
  pub turns_beyond : (past later : List PieceValue) (piece next_piece : PieceValue) (i : ℕ)
      (entry first second : Entry) (interface router came_in_by : ℕ) (passed : List WalkHop)
      → (accepted : IsAuthenticHop n piece i entry) (first_accepted : IsAuthenticHop n next_piece 0 first)
      (goes : IsLinked n next_piece first second)
      → IsSpot (at_end past piece next_piece later i) entry → router < accepted.one.routers
      → SpellsHeader (spelling (header_on (Link interface) (at_end past piece next_piece later i)))
      (header_on (Link interface) (at_end past piece next_piece later i))
      → IsLive piece.segment.timestamp entry.exp_time now
      → IsLive next_piece.segment.timestamp first.exp_time now
      → destination ≢ entry.ia → i + 1 ≡ len_of piece → HasRange next_piece
      → slice_get (travelled_entries next_piece) 0 ≡ Some first
      → IsOwn (view_for n accepted.one entry.ia router) now next_piece 0 first
      → Comes (view_for n accepted.one entry.ia router) (Link interface) source
      (at_end past piece next_piece later i) entry
      → Opens (view_for n accepted.one entry.ia router)
      (Link interface) true next_piece first goes.near
      → turned_packet n now
      (at_spot source destination payload (at_end past piece next_piece later i) entry
      (Link interface) router came_in_by passed)
      ≡ placed n source destination payload (stop_at entry.ia router (Link interface) came_in_by) passed
      (onward_by (view_for n accepted.one entry.ia router) goes.near
      (at_start past piece next_piece later) first)
  turns_beyond past later piece next_piece i entry first second interface router came_in_by passed
      accepted first_accepted goes is below spells live live_first other at_the_end range there
      own_first comes opens =
      turn_is n now source destination payload
      (header_on (Link interface) (at_end past piece next_piece later i))
      (stop_at entry.ia router (Link interface) came_in_by) passed accepted.one _ accepted.named below
      from for
      spells
      (switches
      (view_for n accepted.one entry.ia router) now interface source destination past later
      piece next_piece i entry first goes.near is comes
      (own n now router piece i entry accepted live) range there own_first other at_the_end opens)
