-- Facts about a step that was done, which do not speak of its order of checks.
use Rattle.std.specs.Prelude.{◌≡◌, ℕ, ◌+◌, true, Ok, Some, slice_set}
use Rattle.hop_mac.specs.Lifetime.{IsLive}
use Rattle.scion_topology.specs.declared.entry.IfEntry.{IfEntry}
use Rattle.scion_topology.specs.View.{View, IsAuthentic, entry_of}
use Rattle.path_header.specs.Value.{HeaderValue}
use Rattle.router_step.specs.declared.arrival.Arrival.{Arrival}
use Rattle.router_step.specs.declared.outcome.Outcome.{Outcome}
use Rattle.router_step.specs.Place.{info_field_at, current_info, current_hop, header_on_arrival, moved_on}
use Rattle.router_step.specs.Checks.{changes_segment}
use Rattle.router_step.specs.Step.{step_of}

-- a packet at a router: the router's view, the second, how the packet came, both addresses in the
-- packet, and its path header
pub record Situation : Type 0 where
  pub view : View
  pub now : ℕ
  pub arrival : Arrival
  pub source : ℕ
  pub destination : ℕ
  pub header : HeaderValue

-- the step succeeds with this outcome and this new header
abbrev pub DoesStep : Situation → Outcome → HeaderValue → Type 0
DoesStep at outcome new =
    step_of at.view at.now at.arrival at.source at.destination at.header ≡ Ok (outcome, new)

-- the header after step 5, the change on arrival
abbrev pub on_arrival : Situation → HeaderValue
on_arrival at = header_on_arrival at.arrival at.header

-- the header after the arrival and, if there is a switch, at the first hop of the next segment
abbrev pub at_the_way_out : Situation → HeaderValue
at_the_way_out at = moved_on (changes_segment at.header) (header_on_arrival at.arrival at.header)

-- the current hop is live, and its authenticator is right under a key that the AS accepts
pub record IsOwnHop (view : View) (now : ℕ) (header : HeaderValue) : Type 0 where
  pub live : IsLive (current_info header).timestamp (current_hop header).exp_time now
  pub authentic : IsAuthentic view (current_hop header).mac (current_info header).seg_id
      (current_info header).timestamp
      (current_hop header).exp_time (current_hop header).cons_ingress
      (current_hop header).cons_egress

-- the new header differs only in the index of its hop field and in the accumulator of the current
-- segment
pub record StaysOnSegment (old new : HeaderValue) : Type 0 where
  pub curr_inf : new.curr_inf ≡ old.curr_inf
  pub lens : new.lens ≡ old.lens
  pub infos : new.infos
      ≡ slice_set old.infos old.curr_inf
      (record (current_info old) { seg_id = (current_info new).seg_id })
  pub hops : new.hops ≡ old.hops

-- the packet goes on in the next segment. The segment behind it keeps the accumulator of its
-- arrival, and lengths and hop fields stay. At its way out, before a link takes it, the packet is
-- at the first hop of the next segment, whose info field is as it came.
pub record ChangesSegment (at : Situation) (new : HeaderValue) : Type 0 where
  pub curr_inf : new.curr_inf ≡ at.header.curr_inf + 1
  pub curr_hf : (at_the_way_out at).curr_hf ≡ at.header.curr_hf + 1
  pub lens : new.lens ≡ at.header.lens
  pub hops : new.hops ≡ at.header.hops
  pub behind : info_field_at new at.header.curr_inf ≡ current_info (on_arrival at)
  pub ahead : current_info (at_the_way_out at) ≡ info_field_at at.header (at.header.curr_inf + 1)

-- the interface belongs to this router, and its link is up
pub record IsOwnLink (view : View) (interface : ℕ) (entry : IfEntry) : Type 0 where
  pub known : entry_of view interface ≡ Some entry
  pub own : entry.router ≡ view.router
  pub up : entry.up ≡ true
