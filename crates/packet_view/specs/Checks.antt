-- The checks of a router on a packet, in their order; each has its two sides and its verdict.
use Rattle.std.specs.Prelude.{ℕ, ◌==◌, Bool, true, if◌then◌else◌, List, [], ◌∷◌, ◌++◌, Option, Some, None, Result, Ok, Err}
use Rattle.refusal.specs.Refusal.{◌>>=◌, check}
use Rattle.scion_topology.specs.declared.entry.IfEntry.{IfEntry}
use Rattle.scion_topology.specs.View.{View, entry_of}
use Rattle.path_header.specs.declared.fields.InfoField.{InfoField}
use Rattle.path_header.specs.declared.fields.HopField.{HopField}
use Rattle.path_header.specs.Value.{HeaderValue}
use Rattle.path_header.specs.Shown.{without_value}
use Rattle.router_step.specs.declared.arrival.Arrival.{Arrival}
use Rattle.router_step.specs.declared.fault.Refusal.{Refusal}
use Rattle.router_step.specs.declared.fault.Refusal.TheVariants as refusal
use Rattle.router_step.specs.Place.{current_info, current_hop, is_over_link, way_out, moved_on}
use Rattle.router_step.specs.Checks.{indices_fit, way_in_fits, is_hop_live, is_mac_right, source_fits, is_last, destination_fits, ends_segment, kinds_fit}
use Rattle.router_step.specs.Done.{Situation, on_arrival}
use Rattle.router_step.specs.Packet.{destination_of, source_of, header_in}
use Rattle.packet_view.specs.Sides.{header_sides, indices_sides, way_in_sides, live_sides, mac_sides, source_sides, destination_sides, switch_sides, way_out_sides, kinds_sides, owner_sides, link_sides}

-- a check: the sides that it compares, and whether it succeeds or gives the packet's refusal
pub record CheckValue : Type 0 where
  pub sides : List ℕ
  pub verdict : Result (Unit {0}) Refusal

-- the check with these sides, which succeeds if `holds` and else gives this refusal
abbrev pub check_with : List ℕ → Bool → Refusal → CheckValue
check_with sides holds refusal = record { sides = sides; verdict = check holds refusal }

-- checks 4 and 5: the hop is live, and its authenticator is right
unfoldable pub pass_checks : (four five : ℕ) (view : View) (now : ℕ) (info : InfoField)
    (hop : HopField) → List CheckValue
pass_checks four five view now info hop =
    check_with (live_sides four now info hop) (is_hop_live now info hop) refusal.Expired
    ∷ check_with (mac_sides five view info hop) (is_mac_right view info hop) refusal.BadMac ∷ []

-- checks 2 and 3
unfoldable pub place_checks : Situation → List CheckValue
place_checks at =
    check_with (indices_sides at.arrival at.header) (indices_fit at.arrival at.header)
    refusal.IndexMismatch
    ∷ check_with (way_in_sides at.view at.arrival (current_info at.header) (current_hop at.header))
    (way_in_fits at.view at.arrival (current_info at.header) (current_hop at.header))
    refusal.WrongIngress
    ∷ []

-- checks 6 and 7
unfoldable pub end_checks : Situation → List CheckValue
end_checks at =
    check_with (source_sides at.view at.arrival at.source)
    (source_fits at.view at.arrival at.source)
    refusal.SourceAs
    ∷ check_with (destination_sides at.view at.destination at.header)
    (destination_fits at.view at.destination (is_last at.header)) refusal.DestinationAs ∷ []

-- check 9: at the last hop of a segment, also checks 4 and 5 on the first hop of the next segment
unfoldable pub switch_checks : Situation → List CheckValue
switch_checks at =
    if ends_segment at.header
    then check_with (switch_sides at.arrival at.header) (is_over_link at.arrival)
    refusal.SwitchInside
    ∷ pass_checks 9 9 at.view at.now (current_info (moved_on true (on_arrival at)))
    (current_hop (moved_on true at.header))
    else []

-- checks 11 to 13, over this interface
abbrev pub leave_by_checks : View → Arrival → Bool → IfEntry → List CheckValue
leave_by_checks view arrival switched out =
    check_with (kinds_sides view arrival switched out.kind)
    (kinds_fit view arrival switched out.kind)
    refusal.LinkKinds
    ∷ record { sides = owner_sides view out; verdict = Ok tt }
    ∷ (if out.router == view.router then check_with (link_sides out.up) out.up refusal.LinkDown ∷ []
    else [])

-- checks 10 to 13, from this info and hop field, and with the interface of the way out if there is
-- one
unfoldable pub leave_checks : View → Arrival → Bool → InfoField → HopField → Option IfEntry
    → List CheckValue
leave_checks view arrival switched info hop None =
    record { sides = way_out_sides view info hop; verdict = Err refusal.UnknownEgress } ∷ []
leave_checks view arrival switched info hop (Some out) =
    record { sides = way_out_sides view info hop; verdict = Ok tt }
    ∷ leave_by_checks view arrival switched out

-- checks 10 to 13 after the arrival, and after a switch if there is one
abbrev pub way_out_checks : Situation → List CheckValue
way_out_checks at =
    let switched = ends_segment at.header in
    let info = current_info (moved_on switched (on_arrival at)) in
    let hop = current_hop (moved_on switched at.header) in
    leave_checks at.view at.arrival switched info hop (entry_of at.view (way_out info hop))

-- checks 2 to 13; at the end of the path (8) there are none after check 7
unfoldable pub checks_at : Situation → List CheckValue
checks_at at =
    place_checks at
    ++ (pass_checks 4 5 at.view at.now (current_info (on_arrival at)) (current_hop at.header)
    ++ (end_checks at
    ++ (if is_last at.header then [] else switch_checks at ++ way_out_checks at)))

-- the packet at the router of this view, with this path header
abbrev pub situation_of : View → ℕ → Arrival → List ℕ → HeaderValue → Situation
situation_of view now arrival packet header =
    record {
      view = view;
      now = now;
      arrival = arrival;
      source = source_of packet;
      destination = destination_of packet;
      header = header;
    }

-- checks 2 to 13 of a packet whose header was read, and none without a header
abbrev pub checks_behind : View → ℕ → Arrival → List ℕ → Result (HeaderValue × ℕ) Refusal
    → List CheckValue
checks_behind view now arrival packet (Ok front) =
    checks_at (situation_of view now arrival packet front.0)
checks_behind view now arrival packet (Err refusal) = []

-- all checks: that there is a path header, and the checks 2 to 13
unfoldable pub checks_of : View → ℕ → Arrival → List ℕ → List CheckValue
checks_of view now arrival packet =
    record { sides = header_sides packet; verdict = without_value (header_in packet) }
    ∷ checks_behind view now arrival packet (header_in packet)

-- the first refusal among checks
unfoldable pub verdict_of : List CheckValue → Result (Unit {0}) Refusal
verdict_of [] = Ok tt
verdict_of (one ∷ later) = one.verdict >>= (λ _. verdict_of later)
