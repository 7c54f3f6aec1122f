-- The first refusal among the checks is that of the router's step.
use Rattle.std.proofs.Common.{◌≡◌, ℕ, ◌∙◌, sym, refl, Bool, true, false, List, [], ◌∷◌, ◌++◌}
use Rattle.std.specs.Prelude.{◌==◌, not, if◌then◌else◌, Option, Some, None, Result, Ok, Err}
use Rattle.std.specs.Option.{ok_or}
use Rattle.refusal.specs.Refusal.{◌>>=◌, check}
use Rattle.scion_topology.specs.declared.entry.IfEntry.{IfEntry}
use Rattle.scion_topology.specs.View.{View, entry_of}
use Rattle.path_header.specs.declared.fields.InfoField.{InfoField}
use Rattle.path_header.specs.declared.fields.HopField.{HopField}
use Rattle.path_header.specs.Value.{HeaderValue}
use Rattle.path_header.specs.Shown.{without_value}
use Rattle.router_step.specs.declared.arrival.Arrival.{Arrival}
use Rattle.router_step.specs.declared.outcome.Outcome.{Outcome}
use Rattle.router_step.specs.declared.outcome.Outcome.TheVariants.{ToLink, ToRouter, Deliver}
use Rattle.router_step.specs.declared.fault.Refusal.{Refusal}
use Rattle.router_step.specs.declared.fault.Refusal.TheVariants as refusal
use Rattle.router_step.specs.Place.{current_info, current_hop, is_over_link, way_out, moved_on, header_on_leaving}
use Rattle.router_step.specs.Checks.{indices_fit, way_in_fits, is_hop_live, is_mac_right, source_fits, is_last, destination_fits, ends_segment, kinds_fit}
use Rattle.router_step.specs.Done.{Situation, on_arrival}
use Rattle.router_step.specs.Step.{passes, admitted_header, at_path_end, switches_here, chosen_outcome, step_of}
use Rattle.router_step.specs.Packet.{destination_of, source_of, header_in, packet_step}
use Rattle.packet_view.specs.Checks.{CheckValue, pass_checks, place_checks, end_checks, switch_checks, leave_checks, way_out_checks, checks_at, situation_of, checks_behind, checks_of, verdict_of}
use Rattle.packet_view.specs.Sides.{header_sides, kinds_sides, owner_sides, link_sides}

-- what is made of a value does not change whether there is one
judged-made : {A B : Type 0} (r : Result A Refusal) (make : A → B)
    → without_value (r >>= (λ x. Ok (make x))) ≡ without_value r
judged-made (Ok x) make = refl
judged-made (Err fault) make = refl

-- 2 to 5
front : {A B : Type 0} (indices way_in live mac : Bool) (here : A) (next : A → Result B Refusal) (rest : Result (Unit {0}) Refusal)
    → rest ≡ without_value (next here)
    → (check indices refusal.IndexMismatch >>= (λ _. check way_in refusal.WrongIngress >>= (λ _. check live refusal.Expired >>= (λ _. check mac refusal.BadMac >>= (λ _. rest)))))
    ≡ without_value
    ((check indices refusal.IndexMismatch >>= (λ _. check way_in refusal.WrongIngress >>= (λ _. (check live refusal.Expired >>= (λ _. check mac refusal.BadMac)) >>= (λ _. Ok here)))) >>= next)
front false way_in live mac here next rest same = refl
front true false live mac here next rest same = refl
front true true false mac here next rest same = refl
front true true true false here next rest same = refl
front true true true true here next rest same = same

-- 6 and 7
end : {B : Type 0} (source destination last : Bool) (next : Bool → Result B Refusal) (rest : Result (Unit {0}) Refusal)
    → rest ≡ without_value (next last)
    → (check source refusal.SourceAs >>= (λ _. check destination refusal.DestinationAs >>= (λ _. rest)))
    ≡ without_value
    ((check source refusal.SourceAs >>= (λ _. check destination refusal.DestinationAs >>= (λ _. Ok last))) >>= next)
end false destination last next rest same = refl
end true false last next rest same = refl
end true true last next rest same = same

-- 8
after : {A : Type 0} (last : Bool) (checks : List CheckValue) (delivered : A) (next : Result A Refusal)
    → verdict_of checks ≡ without_value next
    → verdict_of (if last then [] else checks) ≡ without_value (if last then Ok delivered else next)
unfolding verdict_of
after true checks delivered next same = refl
after false checks delivered next same = same

-- 9
switch : {A : Type 0} (ends over_link live mac : Bool) (one two three : List ℕ) (rest : Bool → List CheckValue) (next : Bool → Result A Refusal)
    → ((has_switched : Bool) → verdict_of (rest has_switched) ≡ without_value (next has_switched))
    → verdict_of ((if ends then record { sides = one; verdict = check over_link refusal.SwitchInside } ∷ record { sides = two; verdict = check live refusal.Expired } ∷ record { sides = three; verdict = check mac refusal.BadMac } ∷ [] else []) ++ rest ends)
    ≡ without_value
    ((if ends then (check over_link refusal.SwitchInside >>= (λ _. (check live refusal.Expired >>= (λ _. check mac refusal.BadMac)) >>= (λ _. Ok true))) else Ok false) >>= next)
unfolding verdict_of
switch false over_link live mac one two three rest next same = same false
switch true false live mac one two three rest next same = refl
switch true true false mac one two three rest next same = refl
switch true true true false one two three rest next same = refl
switch true true true true one two three rest next same = same true

-- 11 to 13
leave_by : {B : Type 0} (kinds own up : Bool) (one two three : List ℕ) (router interface : ℕ) (make : Outcome → B)
    → verdict_of (record { sides = one; verdict = check kinds refusal.LinkKinds } ∷ record { sides = two; verdict = Ok tt } ∷ (if own then record { sides = three; verdict = check up refusal.LinkDown } ∷ [] else []))
    ≡ without_value
    ((check kinds refusal.LinkKinds >>= (λ _. if not own then Ok (ToRouter router) else (check up refusal.LinkDown >>= (λ _. Ok (ToLink interface))))) >>= (λ outcome. Ok (make outcome)))
unfolding verdict_of
leave_by false own up one two three router interface make = refl
leave_by true false up one two three router interface make = refl
leave_by true true false one two three router interface make = refl
leave_by true true true one two three router interface make = refl

-- 10 to 13
leave : {B : Type 0} (view : View) (arrival : Arrival) (has_switched : Bool) (info : InfoField) (hop : HopField) (entry : Option IfEntry) (make : Outcome → B)
    → verdict_of (leave_checks view arrival has_switched info hop entry)
    ≡ without_value
    ((ok_or entry refusal.UnknownEgress >>= (λ out. check (kinds_fit view arrival has_switched out.kind) refusal.LinkKinds >>= (λ _. if not (out.router == view.router) then Ok (ToRouter out.router) else (check out.up refusal.LinkDown >>= (λ _. Ok (ToLink (way_out info hop))))))) >>= (λ outcome. Ok (make outcome)))
unfolding verdict_of leave_checks
leave view arrival has_switched info hop None make = refl
leave view arrival has_switched info hop (Some out) make =
    leave_by (kinds_fit view arrival has_switched out.kind) (out.router == view.router) out.up
    (kinds_sides view arrival has_switched out.kind) (owner_sides view out) (link_sides out.up) out.router
    (way_out info hop) make

-- 2 to 13
pub verdict_of-checks_at : (at : Situation)
    → verdict_of (checks_at at) ≡ without_value (step_of at.view at.now at.arrival at.source at.destination at.header)
unfolding verdict_of checks_at place_checks pass_checks end_checks switch_checks step_of admitted_header passes at_path_end switches_here chosen_outcome
verdict_of-checks_at at =
    let here = on_arrival at in
    let there = λ (has_switched : Bool). moved_on has_switched here in
    front (indices_fit at.arrival at.header)
    (way_in_fits at.view at.arrival (current_info at.header) (current_hop at.header))
    (is_hop_live at.now (current_info here) (current_hop at.header))
    (is_mac_right at.view (current_info here) (current_hop at.header)) here _ _
    (end (source_fits at.view at.arrival at.source) (destination_fits at.view at.destination (is_last at.header)) (is_last at.header) _ _
    (after (is_last at.header) (switch_checks at ++ way_out_checks at) (Deliver, here) _
    (switch (ends_segment at.header) (is_over_link at.arrival) (is_hop_live at.now (current_info (there true)) (current_hop (there true)))
    (is_mac_right at.view (current_info (there true)) (current_hop (there true))) _ _ _
    (λ has_switched. leave_checks at.view at.arrival has_switched (current_info (there has_switched)) (current_hop (there has_switched))
    (entry_of at.view (way_out (current_info (there has_switched)) (current_hop (there has_switched))))) _
    (λ has_switched. leave at.view at.arrival has_switched (current_info (there has_switched)) (current_hop (there has_switched)) _
    (λ outcome. (outcome, header_on_leaving outcome (there has_switched)))))))

behind : (view : View) (now : ℕ) (arrival : Arrival) (packet : List ℕ) (read : Result (HeaderValue × ℕ) Refusal) (make : HeaderValue × ℕ → Outcome × HeaderValue → Outcome × List ℕ)
    → verdict_of (record { sides = header_sides packet; verdict = without_value read } ∷ checks_behind view now arrival packet read)
    ≡ without_value
    (read >>= (λ front. step_of view now arrival (source_of packet) (destination_of packet) front.0 >>= (λ stepped. Ok (make front stepped))))
unfolding verdict_of
behind view now arrival packet (Err fault) make = refl
behind view now arrival packet (Ok front) make =
    verdict_of-checks_at (situation_of view now arrival packet front.0)
    ∙ sym (judged-made (step_of view now arrival (source_of packet) (destination_of packet) front.0) (make front))

-- all of them
pub verdict_of-checks_of : (view : View) (now : ℕ) (arrival : Arrival) (packet : List ℕ)
    → verdict_of (checks_of view now arrival packet) ≡ without_value (packet_step view now arrival packet)
unfolding checks_of packet_step
verdict_of-checks_of view now arrival packet = behind view now arrival packet (header_in packet) _
