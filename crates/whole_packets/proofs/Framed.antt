-- Turns of whole packets and of their frames.
use Rattle.std.proofs.Common.{◌≡◌, ℕ, List, [], ◌∷◌, Result, Ok, Err, refl, sym, ◌∙◌, ap, subst}
use Rattle.std.specs.Result.{result_unwrap_or}
use Rattle.refusal.specs.Refusal.{◌>>=◌, refused_as}
use Rattle.scion_topology.specs.declared.fault.TopologyFault.{TopologyFault}
use Rattle.scion_topology.specs.View.{View}
use Rattle.scion_topology.specs.Network.{Network}
use Rattle.scion_topology.specs.Topology.{view_in, far_end_in, owner_in}
use Rattle.router_step.specs.declared.outcome.Outcome.{Outcome}
use Rattle.router_step.specs.declared.outcome.Outcome.TheVariants.{ToLink, ToRouter, Deliver}
use Rattle.router_step.specs.declared.fault.Refusal.{Refusal}
use Rattle.router_step.specs.Packet.{packet_step}
use Rattle.scion_packet.specs.declared.fault.TurnRefusal.{TurnRefusal}
use Rattle.scion_packet.specs.declared.fault.TurnRefusal.TheVariants as refusals
use Rattle.scion_packet.specs.Layout.{frame_in}
use Rattle.scion_packet.specs.Turn.{whole_packet_step}
use Rattle.scion_packet.specs.Parts.{KeepsParts, turned_frame}
use Rattle.scion_packet.proofs.InParts as parts
use Rattle.forwarding.specs.declared.location.RouterStop.{RouterStop}
use Rattle.forwarding.specs.declared.location.PacketLocation.{PacketLocation}
use Rattle.forwarding.specs.declared.location.PacketLocation.TheVariants.{AtRouter, Delivered, Refused, Lost}
use Rattle.forwarding.specs.declared.reply.TurnReply.{TurnReply}
use Rattle.forwarding.specs.declared.reply.TurnReply.TheVariants as replies
use Rattle.forwarding.specs.Turn.{Packet, at_owner, over_link, after_outcome, after_step, still, by_place, turn_of, after}
use Rattle.whole_packets.specs.Turn.{frame_packet, after_whole_step, whole_turn_by_place, whole_turn_of, whole_packet_after}

abbrev with_frame : TurnReply × Packet → TurnReply × Packet
with_frame turned = (turned.0, frame_packet turned.1)

owned : (p : Packet) (stop : RouterStop) (out ia number : ℕ) (owner : Result ℕ TopologyFault)
    → frame_packet (at_owner p stop out ia number owner)
    ≡ at_owner (frame_packet p) stop out ia number owner
owned p stop out ia number (Ok router) = refl
owned p stop out ia number (Err fault) = refl

linked : (n : Network) (p : Packet) (stop : RouterStop) (out : ℕ)
    (end : Result (ℕ × ℕ) TopologyFault)
    → frame_packet (over_link n p stop out end) ≡ over_link n (frame_packet p) stop out end
linked n p stop out (Ok end) = owned p stop out end.0 end.1 (owner_in n end.0 end.1)
linked n p stop out (Err fault) = refl

gone : (n : Network) (p : Packet) (stop : RouterStop) (outcome : Outcome)
    → frame_packet (after_outcome n p stop outcome) ≡ after_outcome n (frame_packet p) stop outcome
gone n p stop (ToLink out) = linked n p stop out (far_end_in n stop.ia out)
gone n p stop (ToRouter router) = refl
gone n p stop Deliver = refl

same_value : {A F : Type 0} (x y : A) → (let r : Result A F = Ok x in r) ≡ Ok y → x ≡ y
same_value x y e = cc

-- the frame after the step of the whole packet is the step on the frame
stepped : (n : Network) (p : Packet) (stop : RouterStop) (w : Result (Outcome × List ℕ) TurnRefusal)
    (q : Result (Outcome × List ℕ) Refusal)
    → turned_frame w ≡ refused_as refusals.Step q
    → after_step n (frame_packet p) stop q ≡ with_frame (after_whole_step n p stop w)
stepped n p stop (Ok x) (Ok y) e =
    let pair : (x.0, frame_in x.1) ≡ y = same_value (x.0, frame_in x.1) y e in
    let made : (replies.Went x.0, after_outcome n (record p { bytes = frame_in x.1 }) stop x.0)
    ≡ with_frame (after_whole_step n p stop (Ok x)) =
    ap (λ (t : Packet). (replies.Went x.0, t)) (sym (gone n (record p { bytes = x.1 }) stop x.0)) in
    ap (λ (d : Outcome × List ℕ). after_step n (frame_packet p) stop (Ok d)) (sym pair) ∙ made
stepped n p stop (Ok x) (Err f) e = absurd cc
stepped n p stop (Err f) (Ok y) e = absurd cc
stepped n p stop (Err (refusals.Step r)) (Err f) e =
    let same : r ≡ f = cc in
    ap (λ (d : Refusal). after_step n (frame_packet p) stop (Err d)) (sym same)
stepped n p stop (Err (refusals.Packet g)) (Err f) e = absurd cc

abbrev by_view : Network → ℕ → Packet → RouterStop → Result View TopologyFault → TurnReply × Packet
by_view n now p stop view =
    result_unwrap_or
    (view >>= λ view. Ok (after_step n p stop (packet_step view now stop.arrival p.bytes)))
    (still p)

abbrev whole_by_view : Network → ℕ → Packet → RouterStop → Result View TopologyFault
    → TurnReply × Packet
whole_by_view n now p stop view =
    result_unwrap_or
    (view >>= λ view. Ok
    (after_whole_step n p stop (whole_packet_step view now stop.arrival p.bytes))) (still p)

viewed : (n : Network) (now : ℕ) (p : Packet) (front payload : List ℕ) (stop : RouterStop)
    (view : Result View TopologyFault) → KeepsParts p.bytes front payload
    → by_view n now (frame_packet p) stop view ≡ with_frame (whole_by_view n now p stop view)
viewed n now p front payload stop (Ok view) k =
    stepped n p stop (whole_packet_step view now stop.arrival p.bytes)
    (packet_step view now stop.arrival (frame_in p.bytes))
    (parts.as_frame view now stop.arrival p.bytes front k.text payload k.header k.whole)
viewed n now p front payload stop (Err fault) k = refl

placed : (n : Network) (now : ℕ) (p : Packet) (front payload : List ℕ) (place : PacketLocation)
    → KeepsParts p.bytes front payload
    → by_place n now (frame_packet p) place ≡ with_frame (whole_turn_by_place n now p place)
placed n now p front payload (AtRouter stop) k =
    viewed n now p front payload stop (view_in n stop.ia stop.router) k
placed n now p front payload Delivered k = refl
placed n now p front payload (Refused ia router refusal) k = refl
placed n now p front payload Lost k = refl

pub turned : (n : Network) (now : ℕ) (p : Packet) (front payload : List ℕ)
    → KeepsParts p.bytes front payload
    → turn_of n now (frame_packet p) ≡ with_frame (whole_turn_of n now p)
unfolding turn_of whole_turn_of
turned n now p front payload k = placed n now p front payload p.place k

-- ---- it stays whole

abbrev Keeps : List ℕ → List ℕ → Packet → Type 0
Keeps front payload p = KeepsParts p.bytes front payload

owned_stays : (p : Packet) (stop : RouterStop) (out ia number : ℕ) (owner : Result ℕ TopologyFault)
    → (at_owner p stop out ia number owner).bytes ≡ p.bytes
owned_stays p stop out ia number (Ok router) = refl
owned_stays p stop out ia number (Err fault) = refl

linked_stays : (n : Network) (p : Packet) (stop : RouterStop) (out : ℕ)
    (end : Result (ℕ × ℕ) TopologyFault) → (over_link n p stop out end).bytes ≡ p.bytes
linked_stays n p stop out (Ok end) = owned_stays p stop out end.0 end.1 (owner_in n end.0 end.1)
linked_stays n p stop out (Err fault) = refl

gone_stays : (n : Network) (p : Packet) (stop : RouterStop) (outcome : Outcome)
    → (after_outcome n p stop outcome).bytes ≡ p.bytes
gone_stays n p stop (ToLink out) = linked_stays n p stop out (far_end_in n stop.ia out)
gone_stays n p stop (ToRouter router) = refl
gone_stays n p stop Deliver = refl

stepped_stays : (n : Network) (p : Packet) (stop : RouterStop) (front payload : List ℕ)
    (w : Result (Outcome × List ℕ) TurnRefusal) → KeepsParts p.bytes front payload
    → ((outcome : Outcome) (new : List ℕ) → w ≡ Ok (outcome, new) → KeepsParts new front payload)
    → Keeps front payload (after_whole_step n p stop w).1
stepped_stays n p stop front payload (Ok x) k on =
    subst (λ (b : List ℕ). KeepsParts b front payload)
    (sym (gone_stays n (record p { bytes = x.1 }) stop x.0)) (on x.0 x.1 refl)
stepped_stays n p stop front payload (Err (refusals.Step r)) k on = k
stepped_stays n p stop front payload (Err (refusals.Packet f)) k on = k

viewed_stays : (n : Network) (now : ℕ) (p : Packet) (front payload : List ℕ) (stop : RouterStop)
    (view : Result View TopologyFault) → KeepsParts p.bytes front payload
    → Keeps front payload (whole_by_view n now p stop view).1
viewed_stays n now p front payload stop (Ok view) k =
    stepped_stays n p stop front payload (whole_packet_step view now stop.arrival p.bytes) k
    (λ outcome new e.
    parts.stays view now stop.arrival p.bytes front k.text payload k.header outcome new k.whole e)
viewed_stays n now p front payload stop (Err fault) k = k

placed_stays : (n : Network) (now : ℕ) (p : Packet) (front payload : List ℕ)
    (place : PacketLocation) → KeepsParts p.bytes front payload
    → Keeps front payload (whole_turn_by_place n now p place).1
placed_stays n now p front payload (AtRouter stop) k =
    viewed_stays n now p front payload stop (view_in n stop.ia stop.router) k
placed_stays n now p front payload Delivered k = k
placed_stays n now p front payload (Refused ia router refusal) k = k
placed_stays n now p front payload Lost k = k

pub turned_stays : (n : Network) (now : ℕ) (p : Packet) (front payload : List ℕ)
    → KeepsParts p.bytes front payload → Keeps front payload (whole_turn_of n now p).1
unfolding whole_turn_of
turned_stays n now p front payload k = placed_stays n now p front payload p.place k

pub after_stays : (n : Network) (moments : List ℕ) (p : Packet) (front payload : List ℕ)
    → KeepsParts p.bytes front payload
    → KeepsParts (whole_packet_after n p moments).bytes front payload
after_stays n [] p front payload k = k
after_stays n (now ∷ later) p front payload k =
    after_stays n later (whole_turn_of n now p).1 front payload
    (turned_stays n now p front payload k)

pub after_framed : (n : Network) (moments : List ℕ) (p : Packet) (front payload : List ℕ)
    → KeepsParts p.bytes front payload
    → frame_packet (whole_packet_after n p moments) ≡ after n (frame_packet p) moments
after_framed n [] p front payload k = refl
after_framed n (now ∷ later) p front payload k =
    after_framed n later (whole_turn_of n now p).1 front payload
    (turned_stays n now p front payload k)
    ∙ ap (λ (t : TurnReply × Packet). after n t.1 later) (sym (turned n now p front payload k))
