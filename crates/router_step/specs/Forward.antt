-- When the checks of a step succeed, in words for the proofs about packets that are sent.
use Rattle.std.specs.Prelude.{◌≡◌, ℕ, Bool, true, not, ◌==◌, if◌then◌else◌, Some}
use Rattle.scion_topology.specs.declared.entry.IfEntry.{IfEntry}
use Rattle.scion_topology.specs.View.{View, entry_of}
use Rattle.path_header.specs.Value.{HeaderValue}
use Rattle.router_step.specs.declared.arrival.Arrival.{Arrival}
use Rattle.router_step.specs.declared.outcome.Outcome.{Outcome}
use Rattle.router_step.specs.declared.outcome.Outcome.TheVariants.{ToLink, ToRouter}
use Rattle.router_step.specs.Place.{current_info, current_hop, way_out, header_on_arrival}
use Rattle.router_step.specs.Checks.{indices_fit, way_in_fits, is_hop_live, is_mac_right, source_fits, kinds_fit}

-- the packet passes steps 2 to 6; `here` is the header after the arrival
pub record IsAdmitted (view : View) (now : ℕ) (arrival : Arrival) (source : ℕ)
    (header here : HeaderValue) : Type 0 where
  pub here_is : header_on_arrival arrival header ≡ here
  pub indices : indices_fit arrival header ≡ true
  pub way_in : way_in_fits view arrival (current_info header) (current_hop header) ≡ true
  pub live : is_hop_live now (current_info here) (current_hop header) ≡ true
  pub mac : is_mac_right view (current_info here) (current_hop header) ≡ true
  pub from : source_fits view arrival source ≡ true

-- the packet may leave by the way out of its hop: the interface exists, the links may be joined,
-- and the link is up
pub record MayLeave (view : View) (arrival : Arrival) (has_switched : Bool) (header : HeaderValue)
    (out : IfEntry) : Type 0 where
  pub known : entry_of view (way_out (current_info header) (current_hop header)) ≡ Some out
  pub kinds : kinds_fit view arrival has_switched out.kind ≡ true
  pub up : out.up ≡ true

-- the outcome for a packet that may leave: over the link, or to the router that owns the interface
abbrev pub goes : View → IfEntry → HeaderValue → Outcome
goes view out header =
    if not (out.router == view.router) then ToRouter out.router
    else ToLink (way_out (current_info header) (current_hop header))
