-- A packet that is not ready to depart: the event is refused, or memory ran out.
use Rattle.std.proofs.Common.{◌≡◌, List, [], ◌∷◌, ◌++◌, length, Some, Result, Ok, Err, IsOk, refl, sym, ap, ◌∙◌, subst, inl, inr}
use Rattle.std.specs.Prelude.{slice_get}
use Rattle.std.proofs.lemmas.Option.{same_Some}
use Rattle.refusal.specs.declared.fault.OrMemory.{OrMemory}
use Rattle.refusal.specs.declared.fault.OrMemory.TheVariants.{Memory, Refused}
use Rattle.forwarding.specs.Frame.{HasFrame}
use Rattle.network_core.specs.declared.fault.EventFault.{EventFault}
use Rattle.network_core.specs.declared.reply.Reply.{Reply}
use Rattle.network_core.specs.declared.reply.Reply.TheVariants as replies
use Rattle.network_core.specs.Value.{Shipment, PacketValue, NetValue}
use Rattle.network_core.specs.Step.{Made, Leads, departs}
use Rattle.network_core.specs.Delivery.{HasSentFrame}
use Rattle.network_core.specs.inner.Doing.{DoesSend, KeepsPacket, ReadiesFrom}

leads_refused : (made : Made) (fault : EventFault) (old new : NetValue) → made ≡ Err fault
    → new ≡ old → Leads made old (replies.Refused fault) new
leads_refused (Ok done) fault old new is same = absurd cc
leads_refused (Err other) fault old new is same = (cc, same)

not_ready_in : {X : Type 0} (view : X → PacketValue) (old new : NetValue)
    (sent : Result Shipment EventFault) (error : OrMemory EventFault) → new ≡ old
    → ReadiesFrom view old sent (Err error) → DoesSend sent old new (Err error)
not_ready_in view old new (Ok sent) Memory same ready = (ready, same)
not_ready_in view old new (Ok sent) (Refused fault) same ready = elim ready [
  | inl path ↦ inr (path.0, (path.1.0, (ap (λ f. replies.Refused f) path.1.1, same)))
  | inr late ↦ inl (late.0, leads_refused (departs old sent) fault old new late.1 same)
]
not_ready_in view old new (Err other) Memory same ready = absurd cc
not_ready_in view old new (Err other) (Refused fault) same ready = (cc, same)

-- the call's answer is that of the event
pub not_ready : {X : Type 0} (view : X → PacketValue) (old new : NetValue)
    (sent : NetValue → Result Shipment EventFault) (error : OrMemory EventFault) → new ≡ old
    → ReadiesFrom view new (sent new) (Err error) → DoesSend (sent old) old new (Err error)
not_ready view old new sent error same ready =
    subst (λ (net : NetValue). DoesSend (sent net) net new (Err error)) same
    (not_ready_in view new new (sent new) error refl ready)

-- ---- a packet that was ready, and was taken in

pub last_there : {A : Type 0} (xs : List A) (x : A) → slice_get (xs ++ x ∷ []) (length xs) ≡ Some x
last_there [] x = refl
last_there (y ∷ xs) x = last_there xs x

leads_made : (made : Made) (old new : NetValue) (reply : Reply) (done : Reply × NetValue)
    → made ≡ Ok done → reply ≡ done.0 → new ≡ done.1 → Leads made old reply new
leads_made (Ok x) old new reply done is replied left =
    let same : done ≡ x = cc in
    (replied ∙ ap (λ (d : Reply × NetValue). d.0) same, left ∙ ap (λ (d : Reply × NetValue). d.1) same)
leads_made (Err fault) old new reply done is replied left = absurd cc

is_ok_of : (made : Made) (done : Reply × NetValue) → made ≡ Ok done → IsOk made
is_ok_of (Ok x) done is = refl
is_ok_of (Err fault) done is = absurd cc

-- of the packet that was taken in last
framed_last : (old new : NetValue) (reply : Reply) (packet : PacketValue)
    → reply ≡ replies.Sent (length old.packets)
    → new ≡ record old { packets = old.packets ++ packet ∷ [] }
    → HasFrame packet.sent.way.source packet.sent.way.destination packet.sent.way.pieces
    → HasSentFrame reply new
framed_last old new reply packet replied left frame p one sent there =
    let number : length old.packets ≡ p = (let both = sym replied ∙ sent in cc) in
    let last = sym (last_there old.packets packet) ∙ ap (slice_get (old.packets ++ packet ∷ [])) number
    ∙ ap (λ (net : NetValue). slice_get net.packets p) (sym left) ∙ there in
    subst (λ (q : PacketValue). HasFrame q.sent.way.source q.sent.way.destination q.sent.way.pieces)
    (same_Some packet one last) frame

ready_kept_in : {X : Type 0} (view : X → PacketValue) (old new : NetValue)
    (sent : Result Shipment EventFault) (packet : X) (answer : Result Reply (OrMemory EventFault))
    → ReadiesFrom view old sent (Ok packet) → KeepsPacket (view packet) old new answer
    → DoesSend sent old new answer
ready_kept_in view old new (Ok sent) packet (Ok reply) ready keeps = (
  inl (
    ready.0,
    leads_made (departs old sent) old new reply
        (replies.Sent (length old.packets), record old { packets = old.packets ++ view packet ∷ [] })
        ready.1.0 keeps.0 keeps.1,
  ),
  framed_last old new reply (view packet) keeps.0 keeps.1 ready.1.1,
)
ready_kept_in view old new (Ok sent) packet (Err Memory) ready keeps = (
  (
    ready.0,
    is_ok_of (departs old sent)
        (replies.Sent (length old.packets), record old { packets = old.packets ++ view packet ∷ [] }) ready.1.0,
  ),
  keeps,
)
ready_kept_in view old new (Ok sent) packet (Err (Refused fault)) ready keeps = absurd keeps
ready_kept_in view old new (Err other) packet answer ready keeps = absurd cc

pub ready_kept : {X : Type 0} (view : X → PacketValue) (old ready new : NetValue)
    (sent : NetValue → Result Shipment EventFault) (packet : X)
    (answer : Result Reply (OrMemory EventFault)) → ready ≡ old
    → ReadiesFrom view ready (sent ready) (Ok packet) → KeepsPacket (view packet) ready new answer
    → DoesSend (sent old) old new answer
ready_kept view old ready new sent packet answer same is keeps =
    subst (λ (net : NetValue). DoesSend (sent net) net new answer) same
    (ready_kept_in view ready new (sent ready) packet answer is keeps)
