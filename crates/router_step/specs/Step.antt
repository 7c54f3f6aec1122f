-- One step of a router on the value of a path header: the checks and changes 2 to 13, in this order
-- (draft-dekater-scion-dataplane). Step 1, that the packet has a header, is in `Packet`.
use Rattle.std.specs.Prelude.{ℕ, Bool, true, false, not, ◌==◌, if◌then◌else◌, Result, Ok}
use Rattle.std.specs.Option.{ok_or}
use Rattle.refusal.specs.Refusal.{◌>>=◌, check}
use Rattle.scion_topology.specs.View.{View, entry_of}
use Rattle.path_header.specs.declared.fields.InfoField.{InfoField}
use Rattle.path_header.specs.declared.fields.HopField.{HopField}
use Rattle.path_header.specs.Value.{HeaderValue}
use Rattle.router_step.specs.declared.arrival.Arrival.{Arrival}
use Rattle.router_step.specs.declared.outcome.Outcome.{Outcome}
use Rattle.router_step.specs.declared.outcome.Outcome.TheVariants.{ToLink, ToRouter, Deliver}
use Rattle.router_step.specs.declared.fault.Refusal.{Refusal}
use Rattle.router_step.specs.declared.fault.Refusal.TheVariants as refusal
use Rattle.router_step.specs.Place.{current_info, current_hop, is_over_link, way_out, header_on_arrival, moved_on, header_on_leaving}
use Rattle.router_step.specs.Checks.{indices_fit, way_in_fits, is_hop_live, is_mac_right, source_fits, is_last, destination_fits, ends_segment, kinds_fit}

-- steps 4 and 5 for this info and hop field
unfoldable pub passes : View → ℕ → InfoField → HopField → Result (Unit {0}) Refusal
passes view now info hop = do
  _ ← check (is_hop_live now info hop) refusal.Expired  -- 4
  check (is_mac_right view info hop) refusal.BadMac  -- 5

-- steps 2 to 5: the first refusal, or the header after the arrival
unfoldable pub admitted_header : View → ℕ → Arrival → HeaderValue → Result HeaderValue Refusal
admitted_header view now arrival header = do
  _ ← check (indices_fit arrival header) refusal.IndexMismatch  -- 2
  _ ← check (way_in_fits view arrival (current_info header) (current_hop header))
      refusal.WrongIngress  -- 3
  _ ← passes view now (current_info (header_on_arrival arrival header))
      (current_hop header)  -- 4, 5
  Ok (header_on_arrival arrival header)

-- steps 6 and 7: the first refusal, or whether the packet is at the last hop of its path
unfoldable pub at_path_end : View → Arrival → (src dst : ℕ) → HeaderValue → Result Bool Refusal
at_path_end view arrival src dst header = do
  _ ← check (source_fits view arrival src) refusal.SourceAs  -- 6
  _ ← check (destination_fits view dst (is_last header)) refusal.DestinationAs  -- 7
  Ok (is_last header)

-- step 9: whether there is a switch to the next segment. Only a packet that came over a link may
-- switch, and the next hop has to pass steps 4 and 5.
unfoldable pub switches_here : View → ℕ → Arrival → HeaderValue → Result Bool Refusal
switches_here view now arrival header = if ends_segment header then (do
  _ ← check (is_over_link arrival) refusal.SwitchInside
  _ ← passes view now (current_info (moved_on true header)) (current_hop (moved_on true header))
  Ok true) else Ok false

-- steps 10 to 13: the first refusal, or the outcome
unfoldable pub chosen_outcome : View → Arrival → Bool → InfoField → HopField
    → Result Outcome Refusal
chosen_outcome view arrival has_switched info hop = do
  out ← ok_or (entry_of view (way_out info hop)) refusal.UnknownEgress  -- 10
  _ ← check (kinds_fit view arrival has_switched out.kind) refusal.LinkKinds  -- 11
  if not (out.router == view.router) then Ok (ToRouter out.router) else (do  -- 12
    _ ← check out.up refusal.LinkDown  -- 13
    Ok (ToLink (way_out info hop)))

-- steps 2 to 13: the first refusal, or the outcome and the new header
unfoldable pub step_of : View → (now : ℕ) → Arrival → (src dst : ℕ) → HeaderValue
    → Result (Outcome × HeaderValue) Refusal
step_of view now arrival src dst header = do
  here ← admitted_header view now arrival header  -- 2 to 5
  last ← at_path_end view arrival src dst here  -- 6, 7
  if last then Ok (Deliver, here) else (do  -- 8
    has_switched ← switches_here view now arrival here  -- 9
    let next = moved_on has_switched here in (do
      outcome ← chosen_outcome view arrival has_switched (current_info next)
          (current_hop next)  -- 10 to 13
      Ok (outcome, header_on_leaving outcome next)))
