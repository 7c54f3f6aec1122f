-- Contracts of the private calls that do one event (words of no public clause).
use Rattle.std.specs.Prelude.{◌≡◌, ◌⊎◌, List, ◌∷◌, ◌++◌, [], length, slice_get, ℕ, Some, Result, Ok, Err, IsOk}
use Rattle.refusal.specs.declared.fault.OrMemory.{OrMemory}
use Rattle.refusal.specs.declared.fault.OrMemory.TheVariants.{Memory, Refused}
use Rattle.refusal.specs.Refusal.{◌>>=◌, refused_as}
use Rattle.path_segment.specs.Chain.{Chain}
use Rattle.beaconing.specs.declared.fault.BeaconFault.{BeaconFault}
use Rattle.policy_expr.specs.Options.{WeighedRules}
use Rattle.forwarding.specs.Frame.{HasFrame}
use Rattle.network_core.specs.declared.fault.EventFault.{EventFault}
use Rattle.network_core.specs.declared.reply.Reply.{Reply}
use Rattle.network_core.specs.declared.fault.EventFault.TheVariants as faults
use Rattle.network_core.specs.declared.fault.EventFault.TheVariants.{Path}
use Rattle.network_core.specs.declared.reply.Reply.TheVariants as replies
use Rattle.network_core.specs.Event.{EventValue}
use Rattle.network_core.specs.Value.{Way, KeptAnswer, asked_at, Shipment, PacketValue, NetValue}
use Rattle.network_core.specs.Step.{Made, with_beacon, flying_at, packet_of, departs, IsAnswerTo, Asks, Sends, Departs, Step, TakesMemory}
use Rattle.network_core.specs.Delivery.{HasSentFrame, IsFramed}
use Rattle.path_verifier.specs.declared.fault.VerifyFault.{VerifyFault}
use Rattle.path_verifier.specs.Accepted.{IsAccepted, IsRefused}

-- the call did what was to be made, or returns its refusal and changed nothing
abbrev pub Does : Made → NetValue → NetValue → Result Reply EventFault → Type 0
Does made old new (Ok reply) = made ≡ Ok (reply, new)
Does made old new (Err fault) = (made ≡ Err fault) × (new ≡ old)

-- the same of a call that takes memory: or memory ran out, and it changed nothing
abbrev pub DoesOrFails : Made → Type 0 → NetValue → NetValue → Result Reply (OrMemory EventFault)
    → Type 0
DoesOrFails made takes old new (Ok reply) = made ≡ Ok (reply, new)
DoesOrFails made takes old new (Err (Refused fault)) = (made ≡ Err fault) × (new ≡ old)
DoesOrFails made takes old new (Err Memory) = takes × (new ≡ old)

-- the error of a lower call, as that of the event
abbrev pub error_as : {F : Type 0} → (F → EventFault) → OrMemory F → OrMemory EventFault
error_as of_fault Memory = Memory
error_as of_fault (Refused fault) = Refused (of_fault fault)

-- the network with the beacon that was made, or the refusal: first that of beaconing, then TooMany
abbrev pub with_made : NetValue → Result Chain BeaconFault → Made
with_made net made = refused_as faults.Beacon made >>= with_beacon net

-- the event was done, and what it sent has a frame; or the call returns the refusal or that memory
-- ran out, and changed nothing
abbrev pub DoesEvent : NetValue → EventValue → NetValue → Result Reply (OrMemory EventFault)
    → Type 0
DoesEvent old event new (Ok reply) = Step old event reply new × IsFramed event reply new
DoesEvent old event new (Err (Refused fault)) = Step old event (replies.Refused fault) new
DoesEvent old event new (Err Memory) = TakesMemory old event × (new ≡ old)

-- the shipment was sent and has a frame; or the call returns the refusal or that memory ran out
abbrev pub DoesSend : Result Shipment EventFault → NetValue → NetValue
    → Result Reply (OrMemory EventFault) → Type 0
DoesSend sent old new (Ok reply) = Sends sent old reply new × HasSentFrame reply new
DoesSend sent old new (Err (Refused fault)) = Sends sent old (replies.Refused fault) new
DoesSend sent old new (Err Memory) = Departs old sent × (new ≡ old)

-- the request was answered; or the call returns the refusal or that memory ran out
abbrev pub DoesAsk : Result (List WeighedRules) EventFault → ℕ → ℕ → ℕ → NetValue → NetValue
    → Result Reply (OrMemory EventFault) → Type 0
DoesAsk options src dst limit old new (Ok reply) = Asks options src dst limit old reply new
DoesAsk options src dst limit old new (Err (Refused fault)) =
    Asks options src dst limit old (replies.Refused fault) new
DoesAsk options src dst limit old new (Err Memory) = IsOk options × (new ≡ old)

-- the call returns an answer to the request that is ready to be kept, or memory ran out
abbrev pub AnswersTo : {X : Type 0} → (X → KeptAnswer) → NetValue → ℕ → ℕ → List WeighedRules → ℕ
    → Result X (OrMemory EventFault) → Type 0
AnswersTo view net src dst options limit (Ok x) = IsAnswerTo net src dst options limit (view x)
AnswersTo view net src dst options limit (Err Memory) = Unit {0}
AnswersTo view net src dst options limit (Err (Refused fault)) = ⊥

-- the call added the answer at the end of the list, or memory ran out
abbrev pub KeepsAnswer : KeptAnswer → NetValue → NetValue → Result Reply (OrMemory EventFault)
    → Type 0
KeepsAnswer one old new (Ok reply) =
    (reply ≡ replies.Answered (length old.answers))
    × (new ≡ record old { answers = old.answers ++ one ∷ [] })
KeepsAnswer one old new (Err Memory) = new ≡ old
KeepsAnswer one old new (Err (Refused fault)) = ⊥

-- the call returns the router at which a packet by this way departs, or the refusal of each
-- shipment by it
abbrev pub BeginsAt : NetValue → Way → Result ℕ EventFault → Type 0
BeginsAt net way (Ok router) =
    IsAccepted (asked_at net.moment way) × ((payload : List ℕ)
    → departs net (record { way = way; payload = payload })
    ≡ Ok (
      replies.Sent (length net.packets),
      record net {
        packets = net.packets ++ packet_of (record { way = way; payload = payload }) router ∷ [];
      },
    ))
BeginsAt net way (Err fault) =
    ((first : VerifyFault) × (IsRefused (asked_at net.moment way) first × (fault ≡ Path first)))
    ⊎ (IsAccepted (asked_at net.moment way) × ((payload : List ℕ)
    → departs net (record { way = way; payload = payload }) ≡ Err fault))

-- the call returns the packet of the shipment, ready to be sent, or its refusal, or memory ran out
abbrev pub Readies : {X : Type 0} → (X → PacketValue) → NetValue → Shipment
    → Result X (OrMemory EventFault) → Type 0
Readies view net sent (Ok packet) =
    IsAccepted (asked_at net.moment sent.way)
    × ((departs net sent
    ≡ Ok (
      replies.Sent (length net.packets),
      record net { packets = net.packets ++ view packet ∷ [] },
    ))
    × HasFrame (view packet).sent.way.source (view packet).sent.way.destination
    (view packet).sent.way.pieces)
Readies view net sent (Err Memory) =
    IsAccepted (asked_at net.moment sent.way) × IsOk (departs net sent)
Readies view net sent (Err (Refused fault)) =
    ((first : VerifyFault) × (IsRefused (asked_at net.moment sent.way) first
    × (fault ≡ Path first)))
    ⊎ (IsAccepted (asked_at net.moment sent.way) × (departs net sent ≡ Err fault))

-- `Readies` for a shipment that may itself be refused
abbrev pub ReadiesFrom : {X : Type 0} → (X → PacketValue) → NetValue
    → Result Shipment EventFault → Result X (OrMemory EventFault) → Type 0
ReadiesFrom view net (Ok sent) answer = Readies view net sent answer
ReadiesFrom view net (Err fault) answer = answer ≡ Err (Refused fault)

-- the call added the packet at the end of the list, or memory ran out
abbrev pub KeepsPacket : PacketValue → NetValue → NetValue → Result Reply (OrMemory EventFault)
    → Type 0
KeepsPacket packet old new (Ok reply) =
    (reply ≡ replies.Sent (length old.packets))
    × (new ≡ record old { packets = old.packets ++ packet ∷ [] })
KeepsPacket packet old new (Err Memory) = new ≡ old
KeepsPacket packet old new (Err (Refused fault)) = ⊥

-- the call returns the place of a packet that is in flight, or why there is none
abbrev pub Flies : NetValue → ℕ → Result ℕ EventFault → Type 0
Flies net number (Ok place) = (place ≡ number) × ((one : PacketValue)
    × ((slice_get net.packets number ≡ Some one) × (flying_at net number ≡ Ok one)))
Flies net number (Err fault) = flying_at net number ≡ Err fault
