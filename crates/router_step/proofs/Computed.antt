-- What a step computes to where its checks hold.
use Rattle.std.proofs.Common.{◌≡◌, ℕ, Bool, true, false, not, ◌==◌, if◌then◌else◌, Result, Ok, refl, ap, ◌∙◌}
use Rattle.refusal.specs.Refusal.{◌>>=◌, check}
use Rattle.scion_topology.specs.declared.entry.IfEntry.{IfEntry}
use Rattle.scion_topology.specs.View.{View}
use Rattle.path_header.specs.Value.{HeaderValue}
use Rattle.router_step.specs.declared.arrival.Arrival.{Arrival}
use Rattle.router_step.specs.declared.outcome.Outcome.{Outcome}
use Rattle.router_step.specs.declared.outcome.Outcome.TheVariants.{ToLink, ToRouter, Deliver}
use Rattle.router_step.specs.declared.fault.Refusal.{Refusal}
use Rattle.router_step.specs.declared.fault.Refusal.TheVariants as refusal
use Rattle.router_step.specs.Place.{current_info, current_hop, is_over_link, way_out, header_on_arrival, moved_on, header_on_leaving}
use Rattle.router_step.specs.Checks.{is_hop_live, is_mac_right, source_fits, is_last, destination_fits, ends_segment}
use Rattle.router_step.specs.Step.{passes, admitted_header, at_path_end, switches_here, chosen_outcome, step_of}
use Rattle.router_step.specs.Forward.{IsAdmitted, MayLeave, goes}

abbrev done : Outcome → Result Outcome Refusal
done way = Ok way

abbrev admission : HeaderValue → Result HeaderValue Refusal
admission h = Ok h

admitted_is : (view : View) (now : ℕ) (arrival : Arrival) (source : ℕ) (header here : HeaderValue) → IsAdmitted view now arrival source header here → admitted_header view now arrival header ≡ Ok here
unfolding admitted_header passes
admitted_is view now arrival source header here is =
    let same = is.here_is in
    let live : is_hop_live now (current_info (header_on_arrival arrival header)) (current_hop header) ≡ true = ap (λ (h : HeaderValue). is_hop_live now (current_info h) (current_hop header)) same ∙ is.live in
    let mac : is_mac_right view (current_info (header_on_arrival arrival header)) (current_hop header) ≡ true = ap (λ (h : HeaderValue). is_mac_right view (current_info h) (current_hop header)) same ∙ is.mac in
    rw (is.indices, is.way_in, live, mac) (ap admission same)

ended_is : (view : View) (arrival : Arrival) (source destination : ℕ) (header : HeaderValue) (last : Bool) → source_fits view arrival source ≡ true → is_last header ≡ last → destination_fits view destination last ≡ true
    → at_path_end view arrival source destination header ≡ Ok last
unfolding at_path_end
ended_is view arrival source destination header last from is_last fits = rw (from, is_last, fits) refl

leaves_by : (view : View) (out : IfEntry) (way : ℕ) (other : Bool) → out.up ≡ true
    → (if other then Ok (ToRouter out.router) else (check out.up refusal.LinkDown >>= λ _. Ok (ToLink way))) ≡ done (if other then ToRouter out.router else ToLink way)
leaves_by view out way true up = refl
leaves_by view out way false up = rw up refl

left_is : (view : View) (arrival : Arrival) (has_switched : Bool) (header : HeaderValue) (out : IfEntry) → MayLeave view arrival has_switched header out
    → chosen_outcome view arrival has_switched (current_info header) (current_hop header) ≡ Ok (goes view out header)
unfolding chosen_outcome
left_is view arrival has_switched header out may =
    rw (may.known, may.kinds) (leaves_by view out (way_out (current_info header) (current_hop header)) (not (out.router == view.router)) may.up)

pub no_switch : (view : View) (now : ℕ) (arrival : Arrival) (here : HeaderValue) → ends_segment here ≡ false → switches_here view now arrival here ≡ Ok false
unfolding switches_here
no_switch view now arrival here stays = rw stays refl

pub a_switch : (view : View) (now : ℕ) (arrival : Arrival) (here : HeaderValue) → ends_segment here ≡ true → is_over_link arrival ≡ true
    → is_hop_live now (current_info (moved_on true here)) (current_hop (moved_on true here)) ≡ true → is_mac_right view (current_info (moved_on true here)) (current_hop (moved_on true here)) ≡ true
    → switches_here view now arrival here ≡ Ok true
unfolding switches_here passes
a_switch view now arrival here ends over live mac = rw (ends, over, live, mac) refl

pub delivered : (view : View) (now : ℕ) (arrival : Arrival) (source destination : ℕ) (header here : HeaderValue) → IsAdmitted view now arrival source header here
    → is_last here ≡ true → destination_fits view destination true ≡ true → step_of view now arrival source destination header ≡ Ok (Deliver, here)
unfolding step_of
delivered view now arrival source destination header here is last fits =
    rw (admitted_is view now arrival source header here is, ended_is view arrival source destination here true is.from last fits) refl

pub went_on : (view : View) (now : ℕ) (arrival : Arrival) (source destination : ℕ) (header here : HeaderValue) (has_switched : Bool) (out : IfEntry) → IsAdmitted view now arrival source header here
    → is_last here ≡ false → destination_fits view destination false ≡ true → switches_here view now arrival here ≡ Ok has_switched → MayLeave view arrival has_switched (moved_on has_switched here) out
    → step_of view now arrival source destination header ≡ Ok (goes view out (moved_on has_switched here), header_on_leaving (goes view out (moved_on has_switched here)) (moved_on has_switched here))
unfolding step_of
went_on view now arrival source destination header here has_switched out is last fits switch may =
    rw (admitted_is view now arrival source header here is, ended_is view arrival source destination here false is.from last fits, switch, left_is view arrival has_switched (moved_on has_switched here) out may) refl
