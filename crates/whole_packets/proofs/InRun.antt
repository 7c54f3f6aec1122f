-- A whole packet in a history, in the place of one of the network's packets.
use Rattle.std.proofs.Common.{◌≡◌, ℕ, zero, suc, ◌+◌, ◌*◌, ◌<◌, ◌≤◌, Bool, true, false, if◌then◌else◌, List, [], ◌∷◌, take, drop, Some, Result, Ok, Err, refl, sym, ap, ◌∙◌, subst, arith, inl, inr}
use Rattle.std.specs.Prelude.{◌==◌, slice_get}
use Rattle.std.proofs.lemmas.Bool.{cases_eq, eq-eqb, ne_eqb}
use Rattle.std.proofs.lemmas.Option.{slice_get_within, same_Some}
use Rattle.refusal.specs.Refusal.{◌>>=◌}
use Rattle.path_verifier.specs.Header.{total_hops}
use Rattle.forwarding.specs.declared.location.PacketLocation.{PacketLocation}
use Rattle.forwarding.specs.declared.location.PacketLocation.TheVariants.{AtRouter, Delivered, Refused, Lost}
use Rattle.forwarding.specs.Turn.{Packet, turn_of, altered_packet}
use Rattle.forwarding.specs.OnPath.{arrived_with}
use Rattle.network_core.specs.declared.fault.EventFault.{EventFault}
use Rattle.network_core.specs.declared.fault.EventFault.TheVariants as faults
use Rattle.network_core.specs.declared.reply.Reply.{Reply}
use Rattle.network_core.specs.declared.reply.Reply.TheVariants as replies
use Rattle.network_core.specs.Event.{EventValue, Turn, Lose, Alter}
use Rattle.network_core.specs.Value.{NetValue, PacketValue, Shipment}
use Rattle.network_core.specs.Step.{is_in_flight, flying_at, with_packet, turns, loses, alters, Leads, Step}
use Rattle.network_core.specs.History.{EventRecord, IsHistory, net_after, net_at}
use Rattle.network_core.specs.Delivery.{is_done}
use Rattle.network_core.specs.Headline.{IsDone, Undisturbed, turns_since, Headline}
use Rattle.network_core.proofs.Keeping.{kept}
use Rattle.network_core.proofs.Carrying.{set_there, flying, leads_ok, leads_err, then_done, not_done}
use Rattle.network_core.proofs.Delivering.{history_take}
use Rattle.network_core.proofs.Headlines.{history_drop, there_drop}
use Rattle.scion_packet.specs.Parts.{KeepsParts}
use Rattle.whole_packets.specs.Turn.{frame_packet, whole_turn_by_place, whole_turn_of}
use Rattle.whole_packets.specs.Run.{after_event, after_history}
use Rattle.whole_packets.proofs.Framed.{turned, turned_stays}

-- ---- one event

-- the network's packet with the frame of a whole packet
abbrev framed_value : PacketValue → Packet → PacketValue
framed_value one packet = record one { packet = frame_packet packet }

-- the network has that packet by this number
abbrev pub Stands : ℕ → NetValue → PacketValue → Packet → Type 0
Stands p net one packet = slice_get net.packets p ≡ Some (framed_value one packet)

-- the network after a turn of its packet
abbrev turned_net : NetValue → ℕ → PacketValue → NetValue
turned_net net p one = with_packet net p one (turn_of net.network net.moment one.packet).1

by_flight : (old : NetValue) (p : ℕ) (one : PacketValue) (r : Result (Unit {0}) EventFault)
    → slice_get old.packets p ≡ Some one → is_in_flight one.packet.place ≡ r
    → turns old p ≡ (r >>= λ _.
    Ok (replies.Turned (turn_of old.network old.moment one.packet).0, turned_net old p one))
by_flight old p one (Ok done) there at =
    ap (λ r. r
    >>= λ one. Ok
    (replies.Turned (turn_of old.network old.moment one.packet).0, turned_net old p one))
    (flying old p one (Ok done) there at)
by_flight old p one (Err fault) there at =
    ap (λ r. r
    >>= λ one. Ok
    (replies.Turned (turn_of old.network old.moment one.packet).0, turned_net old p one))
    (flying old p one (Err fault) there at)

at_no_router : (old new : NetValue) (p : ℕ) (reply : Reply) (one : PacketValue) (packet : Packet)
    → Stands p old one packet → is_in_flight packet.place ≡ Err faults.NotInFlight
    → (whole_turn_of old.network old.moment packet).1 ≡ packet → Leads (turns old p) old reply new
    → Stands p new one (whole_turn_of old.network old.moment packet).1
at_no_router old new p reply one packet there away stays leads =
    let same = leads_err (turns old p) old new reply faults.NotInFlight
    (by_flight old p (framed_value one packet) (Err faults.NotInFlight) there away) leads in
    ap (λ (net : NetValue). slice_get net.packets p) same ∙ there
    ∙ ap (λ (q : Packet). Some (framed_value one q)) (sym stays)

at_router : (old new : NetValue) (p : ℕ) (reply : Reply) (one : PacketValue) (packet : Packet)
    (front payload : List ℕ) → KeepsParts packet.bytes front payload → Stands p old one packet
    → is_in_flight packet.place ≡ Ok tt → Leads (turns old p) old reply new
    → Stands p new one (whole_turn_of old.network old.moment packet).1
at_router old new p reply one packet front payload keeps there at leads =
    let here = framed_value one packet in
    let made = by_flight old p here (Ok tt) there at in
    let both = leads_ok (turns old p) old new reply (
      replies.Turned
          (turn_of old.network old.moment here.packet).0,
      turned_net old p here,
    ) made leads in
    ap (λ (net : NetValue). slice_get net.packets p) both.1
    ∙ set_there old.packets p here _ there
    ∙ ap (λ (q : Packet). Some (record one { packet = q }))
    (ap (λ t. t.1) (turned old.network old.moment packet front payload keeps))

still_there : (old : NetValue) (packet : Packet) (place : PacketLocation) → packet.place ≡ place
    → whole_turn_by_place old.network old.moment packet place
    ≡ (let r = whole_turn_of old.network old.moment packet in r)
unfolding whole_turn_of
still_there old packet place at = ap (whole_turn_by_place old.network old.moment packet) (sym at)

turn_on : (old new : NetValue) (p : ℕ) (reply : Reply) (one : PacketValue) (packet : Packet)
    (front payload : List ℕ) (place : PacketLocation) → packet.place ≡ place
    → KeepsParts packet.bytes front payload → Stands p old one packet
    → Leads (turns old p) old reply new
    → Stands p new one (whole_turn_of old.network old.moment packet).1
turn_on old new p reply one packet front payload (AtRouter stop) at keeps there leads =
    at_router old new p reply one packet front payload keeps there (ap is_in_flight at) leads
turn_on old new p reply one packet front payload Delivered at keeps there leads =
    at_no_router old new p reply one packet there (ap is_in_flight at)
    (ap (λ t. t.1) (sym (still_there old packet Delivered at))) leads
turn_on old new p reply one packet front payload (Refused ia router refusal) at keeps there leads =
    at_no_router old new p reply one packet there (ap is_in_flight at)
    (ap (λ t. t.1) (sym (still_there old packet (Refused ia router refusal) at))) leads
turn_on old new p reply one packet front payload Lost at keeps there leads =
    at_no_router old new p reply one packet there (ap is_in_flight at)
    (ap (λ t. t.1) (sym (still_there old packet Lost at))) leads

-- nobody alters the packet in an event, and nothing loses it
pub record IsSafe (p : ℕ) (event : EventValue) (reply : Reply) : Type 0 where
  pub unlost : event ≡ Lose p → is_done reply ≡ true → ⊥
  pub unaltered : (at change : ℕ) → event ≡ Alter p at change → is_done reply ≡ true → ⊥

unchanged : (p : ℕ) (old new : NetValue) (one : PacketValue) (packet : Packet) → new ≡ old
    → Stands p old one packet → Stands p new one packet
unchanged p old new one packet same there =
    ap (λ (net : NetValue). slice_get net.packets p) same ∙ there

event_on : (p : ℕ) (old new : NetValue) (event : EventValue) (reply : Reply) (one : PacketValue)
    (packet : Packet) (front payload : List ℕ) → Step old event reply new → IsSafe p event reply
    → KeepsParts packet.bytes front payload → Stands p old one packet
    → Stands p new one (after_event p old event packet)
event_on p old new (Turn q) reply one packet front payload is safe keeps there =
    elim (cases_eq q p) [
      | inl same ↦ rw (eq-eqb q p same)
          (turn_on old new p reply one packet front payload packet.place refl
          keeps there (subst (λ k. Leads (turns old k) old reply new) same is))
      | inr other ↦ rw (ne_eqb q p other) (kept p old new (Turn q) reply
          (slice_get_within old.packets p _ there) other is ∙ there)
    ]
event_on p old new (Lose q) reply one packet front payload is safe keeps there =
    elim (cases_eq q p) [
      | inl same ↦ unchanged p old new one packet (not_done (loses old q) old new reply is
          (then_done (flying_at old q) _ (λ one. refl)) (safe.unlost (ap Lose same))) there
      | inr other ↦ kept p old new (Lose q) reply (slice_get_within old.packets p _ there) other is
          ∙ there
    ]
event_on p old new (Alter q at change) reply one packet front payload is safe keeps there =
    elim (cases_eq q p) [
      | inl same ↦ unchanged p old new one packet
          (not_done (alters old q at change) old new reply is
          (then_done (flying_at old q) _ (λ one.
          then_done _
          (λ _. Ok (replies.Done, with_packet old q one (altered_packet one.packet at change)))
          (λ _. refl)))
          (safe.unaltered at change (ap (λ k. Alter k at change) same))) there
      | inr other ↦ kept p old new (Alter q at change) reply
          (slice_get_within old.packets p _ there) other is ∙ there
    ]
event_on p old new event reply one packet front payload is safe keeps there =
    kept p old new event reply (slice_get_within old.packets p _ there) (λ names. names) is ∙ there

event_keeps_if : (b : Bool) (x y : Packet) (front payload : List ℕ)
    → KeepsParts x.bytes front payload → KeepsParts y.bytes front payload
    → KeepsParts (if b then x else y).bytes front payload
event_keeps_if true x y front payload one other = one
event_keeps_if false x y front payload one other = other

event_keeps : (p : ℕ) (net : NetValue) (event : EventValue) (packet : Packet)
    (front payload : List ℕ) → KeepsParts packet.bytes front payload
    → KeepsParts (after_event p net event packet).bytes front payload
event_keeps p net (Turn q) packet front payload keeps =
    event_keeps_if (q == p) (whole_turn_of net.network net.moment packet).1 packet front payload
    (turned_stays net.network net.moment packet front payload keeps) keeps
event_keeps p net event packet front payload keeps = keeps

-- ---- a history

pub history_keeps : (p : ℕ) (start : NetValue) (history : List EventRecord) (packet : Packet)
    (front payload : List ℕ) → KeepsParts packet.bytes front payload
    → KeepsParts (after_history p start history packet).bytes front payload
history_keeps p start [] packet front payload keeps = keeps
history_keeps p start (one ∷ later) packet front payload keeps =
    history_keeps p one.net later (after_event p start one.event packet) front payload
    (event_keeps p start one.event packet front payload keeps)

done_here : (history : List EventRecord) (k : ℕ) (m : EventRecord) (event : EventValue)
    → slice_get history k ≡ Some m → m.event ≡ event → is_done m.reply ≡ true
    → IsDone history k event
done_here history k m event there same done = record {
  reply = m.reply;
  occurs = record {
    net = m.net;
    there = there ∙ ap (λ (e : EventValue). Some (record m { event = e })) same;
  };
  done = done;
}

done_behind : (m : EventRecord) (later : List EventRecord) (k : ℕ) (event : EventValue)
    → IsDone later k event → IsDone (m ∷ later) (suc k) event
done_behind m later k event is =
    record {
      reply = is.reply;
      occurs =
          record { net = is.occurs.net; there = is.occurs.there };
      done = is.done;
    }

pub history_on : (p : ℕ) (start : NetValue) (history : List EventRecord) (one : PacketValue)
    (packet : Packet) (front payload : List ℕ) → IsHistory start history
    → ((k : ℕ) → ¬ (IsDone history k (Lose p)))
    → ((k at change : ℕ) → ¬ (IsDone history k (Alter p at change)))
    → Stands p start one packet → KeepsParts packet.bytes front payload
    → Stands p (net_after start history) one (after_history p start history packet)
history_on p start [] one packet front payload is unlost unaltered there keeps = there
history_on p start (m ∷ later) one packet front payload is unlost unaltered there keeps =
    let safe : IsSafe p m.event m.reply = record {
      unlost = λ same done. unlost 0 (done_here (m ∷ later) 0 m (Lose p) refl same done);
      unaltered = λ at change same done.
          unaltered 0 at change (done_here (m ∷ later) 0 m (Alter p at change) refl same done);
    } in
    history_on p m.net later one (after_event p start m.event packet) front payload is.1
    (λ k done. unlost (suc k) (done_behind m later k (Lose p) done))
    (λ k at change done. unaltered (suc k) at change
    (done_behind m later k (Alter p at change) done))
    (event_on p start m.net m.event m.reply one packet front payload is.0 safe keeps there)
    (event_keeps p start m.event packet front payload keeps)

-- the packet as it stands in the network, from the equation of its parts
pub stands_by : (p : ℕ) (net : NetValue) (one : PacketValue) (packet : Packet)
    → slice_get net.packets p ≡ Some one → one.packet ≡ frame_packet packet
    → Stands p net one packet
stands_by p net one packet there is =
    there ∙ ap (λ (q : Packet). Some (record one { packet = q })) is

-- ---- behind a Send

done_in : (history : List EventRecord) (n k : ℕ) (event : EventValue)
    → IsDone (drop n history) k event → IsDone history (n + k) event
done_in history n k event is = record {
  reply = is.reply;
  occurs = record { net = is.occurs.net; there = sym (there_drop history n k) ∙ is.occurs.there };
  done = is.done;
}

-- the network behind the events from a number on is that behind all of them
ends : (start : NetValue) (history : List EventRecord) (n : ℕ)
    → net_after (net_at start history n) (drop n history) ≡ net_after start history
ends start history zero = refl
ends start [] (suc n) = refl
ends start (m ∷ later) (suc n) = ends m.net later n

taken_at : (start : NetValue) (history : List EventRecord) (k n : ℕ) → n ≤ k
    → net_at start (take k history) n ≡ net_at start history n
taken_at start history k zero order = refl
taken_at start history zero (suc n) order = absurd (omega arith)
taken_at start [] (suc k) (suc n) order = refl
taken_at start (m ∷ later) (suc k) (suc n) order = taken_at m.net later k n (omega arith)

pub delivered_whole : (start : NetValue) (history : List EventRecord) (number p k : ℕ)
    (sent : Shipment) (one : PacketValue) (packet : Packet) (front payload : List ℕ)
    → IsHistory start history → Headline start history number p sent → number < k
    → Undisturbed start (take k history) number p sent.way.pieces
    → 2 * total_hops sent.way.pieces ≤ turns_since history number p k
    → slice_get (net_at start history (number + 1)).packets p ≡ Some one
    → one.packet ≡ frame_packet packet → KeepsParts packet.bytes front payload
    → frame_packet (after_history p (net_at start history (number + 1))
    (drop (number + 1) (take k history)) packet)
    ≡ arrived_with sent.way.source sent.way.destination sent.payload sent.way.pieces
delivered_whole start history number p k sent one packet front payload is headline after quiet
    enough there frame keeps =
    let taken = take k history in
    let sent_net = net_at start history (number + 1) in
    let later = drop (number + 1) taken in
    let same : net_at start taken (number + 1) ≡ sent_net =
    taken_at start history k (number + 1) (omega arith) in
    let goes : IsHistory sent_net later =
    subst (λ net. IsHistory net later) same
    (history_drop start taken (number + 1) (history_take start history k is)) in
    let end : net_after sent_net later ≡ net_at start history k =
    ap (λ net. net_after net later) (sym same) ∙ ends start taken (number + 1) in
    let last = after_history p sent_net later packet in
    let on : Stands p (net_after sent_net later) one last =
    history_on p sent_net later one packet front payload goes
    (λ j done. quiet.unlost (number + 1 + j) (done_in taken (number + 1) j (Lose p) done))
    (λ j at change done. quiet.unaltered (number + 1 + j) at change
    (done_in taken (number + 1) j (Alter p at change) done))
    (stands_by p sent_net one packet there frame) keeps in
    let f = headline.forwarded k after quiet in
    let found : f.packet ≡ framed_value one last =
    same_Some f.packet (framed_value one last)
    (sym f.there ∙ ap (λ (net : NetValue). slice_get net.packets p) (sym end) ∙ on) in
    ap (λ (x : PacketValue). x.packet) (sym found)
    ∙ f.whole (headline.delivers k after quiet enough)
