-- A packet that was sent, after any events that let it go on.
use Rattle.std.proofs.Common.{◌≡◌, ℕ, zero, suc, ◌+◌, List, [], ◌∷◌, ◌++◌, length, take, Some, Ok, Err, Result, refl, sym, ap, ◌∙◌, subst, arith, inl, inr, append-nil}
use Rattle.std.specs.Prelude.{slice_get}
use Rattle.refusal.specs.Refusal.{check, refused_as}
use Rattle.refusal.proofs.Steps.{bind_ok, ok_is}
use Rattle.scion_topology.specs.declared.fault.TopologyFault.{TopologyFault}
use Rattle.scion_topology.specs.Topology.{IsNetwork, owner_in}
use Rattle.path_verifier.specs.Walk.{walk_of}
use Rattle.path_verifier.specs.Accepted.{IsAccepted}
use Rattle.path_verifier.proofs.Breaches.{header_kept, path_kept}
use Rattle.forwarding.specs.Frame.{frame_of, HasFrame}
use Rattle.forwarding.specs.Turn.{Packet, put_at}
use Rattle.forwarding.specs.OnPath.{OnPath}
use Rattle.forwarding.specs.Journey.{first_out, to_come, turns_for}
use Rattle.forwarding.proofs.Sending.{starts}
use Rattle.network_core.specs.declared.fault.EventFault.TheVariants as faults
use Rattle.network_core.specs.declared.reply.Reply.{Reply}
use Rattle.network_core.specs.declared.reply.Reply.TheVariants as replies
use Rattle.network_core.specs.Value.{asked_at, Shipment, PacketValue, NetValue}
use Rattle.network_core.specs.Step.{Made, has_room, packet_of, departs, Leads, Sends}
use Rattle.network_core.specs.History.{EventRecord, IsHistory, net_after}
use Rattle.network_core.specs.Delivery.{AllLetGoOn, turns_of, IsForwarded, AreSound, AllLeaveUndisturbed, HasSentFrame}
use Rattle.network_core.proofs.Carrying.{Carried, standing_some, carried_through}
use Rattle.network_core.proofs.Readied.{last_there}
use Rattle.network_core.proofs.Steadying.{let_all}

-- ---- departing

owned : {A : Type 0} (r : Result A TopologyFault) (x : A) → refused_as faults.Topology r ≡ Ok x
    → r ≡ Ok x
owned (Ok y) x e = cc
owned (Err f) x e = absurd cc

made_of : (made : Made) (old new : NetValue) (p : ℕ) → Leads made old (replies.Sent p) new
    → made ≡ Ok (replies.Sent p, new)
made_of (Ok done) old new p is =
    ap (λ (r : Reply). Ok (r, done.1)) (sym is.0) ∙ ap (λ (net : NetValue). Ok (replies.Sent p, net)) (sym is.1)
made_of (Err fault) old new p is = absurd (let e = is.0 in cc)

departed : (p : ℕ) (old new : NetValue) (sent : Shipment) → IsAccepted (asked_at old.moment sent.way)
    → HasFrame sent.way.source sent.way.destination sent.way.pieces
    → departs old sent ≡ Ok (replies.Sent p, new)
    → Carried new p sent (turns_for old.network (walk_of sent.way.pieces)) 0
departed p old new sent accepted frame is =
    let owner =
    refused_as faults.Topology (owner_in old.network sent.way.source (first_out (walk_of sent.way.pieces))) in
    let at = bind_ok owner _ (replies.Sent p, new) is in
    let router = at.0 in
    let own = owned (owner_in old.network sent.way.source (first_out (walk_of sent.way.pieces))) router at.1 in
    let room = bind_ok (check (has_room old.packets) faults.TooMany) _ (replies.Sent p, new) at.2 in
    let made : NetValue = record old { packets = old.packets ++ packet_of sent router ∷ [] } in
    let both = ok_is (replies.Sent (length old.packets), made) (replies.Sent p, new) room.2 in
    let number : length old.packets ≡ p =
    (let e : replies.Sent (length old.packets) ≡ replies.Sent p = ap (λ (d : Reply × NetValue). d.0) both in cc) in
    let new_is : made ≡ new = ap (λ (d : Reply × NetValue). d.1) both in
    let stands = starts old.network sent.way.source sent.way.destination old.moment router sent.payload
    sent.way.pieces (path_kept accepted) frame own in
    subst (λ (net : NetValue). Carried net p sent (turns_for old.network (walk_of sent.way.pieces)) 0) new_is (record {
      packet = packet_of sent router;
      there = ap (slice_get (old.packets ++ packet_of sent router ∷ [])) (sym number) ∙ last_there old.packets
          (packet_of sent router);
      holds = refl;
      state = inl (record {
        left = turns_for old.network (walk_of sent.way.pieces);
        stands = subst (λ header. OnPath old.network sent.way.source sent.way.destination sent.payload
            sent.way.pieces (turns_for old.network (walk_of sent.way.pieces))
            (put_at (frame_of sent.way.source sent.way.destination header sent.payload) sent.way.source router))
            (sym (header_kept accepted)) stands;
        count = omega arith;
      });
    })

-- what an event of this answer sent was accepted, and departed
pub accepted_then : (p : ℕ) (old new : NetValue) (sent : Shipment)
    → Sends (Ok sent) old (replies.Sent p) new
    → IsAccepted (asked_at old.moment sent.way) × (departs old sent ≡ Ok (replies.Sent p, new))
accepted_then p old new sent is = elim is [
  | inl done ↦ (done.0, made_of (departs old sent) old new p done.1)
  | inr none ↦ absurd (let e = none.1.1.0 in cc)
]

pub sent_then : (p : ℕ) (old new : NetValue) (sent : Shipment)
    → Sends (Ok sent) old (replies.Sent p) new
    → HasFrame sent.way.source sent.way.destination sent.way.pieces
    → Carried new p sent (turns_for old.network (walk_of sent.way.pieces)) 0
sent_then p old new sent is frame =
    let from = accepted_then p old new sent is in
    departed p old new sent from.0 frame from.1

-- what departed is the last packet, of this number
pub departed_last : (p : ℕ) (old new : NetValue) (sent : Shipment)
    → departs old sent ≡ Ok (replies.Sent p, new)
    → (one : PacketValue) × ((slice_get new.packets p ≡ Some one) × (one.sent ≡ sent))
departed_last p old new sent is =
    let at =
    bind_ok (refused_as faults.Topology (owner_in old.network sent.way.source (first_out (walk_of sent.way.pieces)))) _ (replies.Sent p, new) is in
    let room = bind_ok (check (has_room old.packets) faults.TooMany) _ (replies.Sent p, new) at.2 in
    let one = packet_of sent at.0 in
    let made : NetValue = record old { packets = old.packets ++ one ∷ [] } in
    let both = ok_is (replies.Sent (length old.packets), made) (replies.Sent p, new) room.2 in
    let number : length old.packets ≡ p =
    (let e : replies.Sent (length old.packets) ≡ replies.Sent p = ap (λ (d : Reply × NetValue). d.0) both in cc) in
    let packets : old.packets ++ one ∷ [] ≡ new.packets = ap (λ (d : Reply × NetValue). d.1.packets) both in
    (one, (ap (λ ps. slice_get ps p) (sym packets) ∙ ap (slice_get (old.packets ++ one ∷ [])) (sym number) ∙ last_there old.packets one, refl))

-- the numbers of what was sent have a place for their bits
pub frame_sent : (p : ℕ) (old new : NetValue) (sent : Shipment)
    → Sends (Ok sent) old (replies.Sent p) new → HasSentFrame (replies.Sent p) new
    → HasFrame sent.way.source sent.way.destination sent.way.pieces
frame_sent p old new sent is frame_of =
    let last = departed_last p old new sent (accepted_then p old new sent is).1 in
    subst (λ (s : Shipment). HasFrame s.way.source s.way.destination s.way.pieces) last.1.1
    (frame_of p last.0 refl last.1.0)

-- ---- after each prefix

pub history_take : (net : NetValue) (later : List EventRecord) (k : ℕ) → IsHistory net later
    → IsHistory net (take k later)
history_take net later zero is = tt
history_take net [] (suc k) is = tt
history_take net (moment ∷ later) (suc k) is = (is.0, history_take moment.net later k is.1)

let_take : (p : ℕ) (sent : Shipment) (net : NetValue) (later : List EventRecord) (k : ℕ)
    → AllLetGoOn p sent net later → AllLetGoOn p sent net (take k later)
let_take p sent net later zero lets = tt
let_take p sent net [] (suc k) lets = tt
let_take p sent net (moment ∷ later) (suc k) lets = (lets.0, let_take p sent moment.net later k lets.1)

-- ---- what that says of the packet

forwarded : (net : NetValue) (p total done : ℕ) (sent : Shipment) → Carried net p sent total done
    → IsForwarded net p total done sent
forwarded net p total done sent c = elim c.state [
  | inl f ↦ (
      let stands = f.stands in
      let some = standing_some net sent f.left c.packet.packet stands in
      let count = f.count in
      let place = ap (λ (q : Packet). q.place) stands.is in
      record {
        packet = c.packet;
        there = c.there;
        holds = c.holds;
        unrefused = λ ia router refusal e. (let both = sym place ∙ e in cc);
        rest = to_come stands.came_in_by stands.spot;
        so_far = ap (λ (q : Packet). q.passed ++ to_come stands.came_in_by stands.spot) stands.is ∙ stands.walk;
        exact = (λ delivered. absurd (let both = sym place ∙ delivered in cc), λ enough. absurd (omega arith));
        waits = λ early. (_, place);
        whole = λ delivered. absurd (let both = sym place ∙ delivered in cc);
      })
  | inr l ↦ (
      let place = ap (λ (q : Packet). q.place) l.there in
      record {
        packet = c.packet;
        there = c.there;
        holds = c.holds;
        unrefused = λ ia router refusal e. (let both = sym place ∙ e in cc);
        rest = [];
        so_far = ap (λ (q : Packet). q.passed ++ []) l.there ∙ append-nil (walk_of sent.way.pieces);
        exact = (λ delivered. l.count, λ enough. place);
        waits = λ early. absurd (let enough = l.count in omega arith);
        whole = λ delivered. l.there;
      })
]

-- after each number of the events that follow it
pub delivery : (p k : ℕ) (old new : NetValue) (sent : Shipment) (later : List EventRecord)
    → Sends (Ok sent) old (replies.Sent p) new
    → HasFrame sent.way.source sent.way.destination sent.way.pieces
    → IsHistory new later → AllLetGoOn p sent new later
    → IsForwarded (net_after new (take k later)) p (turns_for old.network (walk_of sent.way.pieces))
    (turns_of p (take k later)) sent
delivery p k old new sent later is frame history lets =
    let total = turns_for old.network (walk_of sent.way.pieces) in
    let from = sent_then p old new sent is frame in
    let none : 0 + turns_of p (take k later) ≡ turns_of p (take k later) = omega arith in
    subst (λ done. IsForwarded (net_after new (take k later)) p total done sent) none
    (forwarded (net_after new (take k later)) p total (0 + turns_of p (take k later)) sent
    (carried_through p sent total 0 new (take k later) (history_take new later k history)
    (let_take p sent new later k lets) from))

-- the same where its pieces are sound and the events leave it undisturbed
pub undisturbed : (p k : ℕ) (old new : NetValue) (sent : Shipment) (later : List EventRecord)
    → Sends (Ok sent) old (replies.Sent p) new
    → HasFrame sent.way.source sent.way.destination sent.way.pieces
    → IsNetwork new.network → AreSound new.network sent.way.pieces
    → IsHistory new later → AllLeaveUndisturbed p sent new later
    → IsForwarded (net_after new (take k later)) p (turns_for old.network (walk_of sent.way.pieces))
    (turns_of p (take k later)) sent
undisturbed p k old new sent later is frame network sound history quiet =
    let from = accepted_then p old new sent is in
    delivery p k old new sent later is frame history
    (let_all p sent old.moment new later (path_kept from.0) history network sound quiet)
