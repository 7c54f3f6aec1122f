-- Conditions on the events after a packet was sent, and what they guarantee for the packet
-- (draft-dekater-scion-dataplane).
use Rattle.std.specs.Prelude.{◌≡◌, ◌≢◌, ◌↔◌, ℕ, ◌<◌, ◌≤◌, ◌==◌, Bool, true, false, List, [], ◌∷◌, ◌++◌, Some, IsOk, slice_get, All, count_by}
use Rattle.policy_expr.specs.declared.hop.WalkHop.{WalkHop}
use Rattle.scion_topology.specs.Network.{Network}
use Rattle.scion_topology.specs.Topology.{owner_in}
use Rattle.path_verifier.specs.Piece.{PieceValue}
use Rattle.path_verifier.specs.Walk.{walk_of}
use Rattle.path_verifier.specs.Accepted.{AreLive}
use Rattle.router_step.specs.declared.fault.Refusal.{Refusal}
use Rattle.forwarding.specs.declared.location.RouterStop.{RouterStop}
use Rattle.forwarding.specs.declared.location.PacketLocation.{PacketLocation}
use Rattle.forwarding.specs.declared.location.PacketLocation.TheVariants as places
use Rattle.forwarding.specs.Journey.{first_out}
use Rattle.forwarding.specs.Frame.{HasFrame}
use Rattle.forwarding.specs.Forwardable.{MayForward}
use Rattle.forwarding.specs.OnPath.{arrived_with}
use Rattle.forwarding.specs.Sound.{IsIssuedAndAccepted, AvoidsAs, AvoidsLink}
use Rattle.network_core.specs.declared.reply.Reply.{Reply}
use Rattle.network_core.specs.declared.reply.Reply.TheVariants as replies
use Rattle.network_core.specs.Event.{EventValue, RouteValue, Send, Turn, Lose, Alter, CutLink, RotateKey}
use Rattle.network_core.specs.Value.{Shipment, PacketValue, NetValue}
use Rattle.network_core.specs.History.{EventRecord}

-- whether the event was done
abbrev pub is_done : Reply → Bool
is_done (replies.Refused fault) = false
is_done reply = true

-- if the event was done, it neither loses nor alters the packet; and if it is a turn of the packet,
-- the network forwards packets on its path then
pub record LetsGoOn (p : ℕ) (sent : Shipment) (old : NetValue) (event : EventValue) (reply : Reply)
    : Type 0 where
  pub unlost : event ≡ Lose p → is_done reply ≡ true → ⊥
  pub unaltered : (at change : ℕ) → event ≡ Alter p at change → is_done reply ≡ true → ⊥
  pub let_through : event ≡ Turn p → is_done reply ≡ true
      → MayForward old.network old.moment sent.way.source sent.way.destination sent.way.pieces

abbrev pub AllLetGoOn : ℕ → Shipment → NetValue → List EventRecord → Type 0
AllLetGoOn p sent net [] = Unit {0}
AllLetGoOn p sent net (one ∷ later) =
    LetsGoOn p sent net one.event one.reply × AllLetGoOn p sent one.net later

-- the number of turns of the packet among these events
abbrev pub is_turn_of : ℕ → EventValue → Bool
is_turn_of p (Turn other) = other == p
is_turn_of p event = false

abbrev pub turns_of : ℕ → List EventRecord → ℕ
turns_of p history = count_by (λ one. is_turn_of p one.event) history

-- the state of a packet whose walk takes `total` turns and that has had `done` of them. No router
-- has refused it, and the hops that it has passed are the beginning of its walk. It is delivered if
-- and only if it has had all its turns, and is at a router before. When it is delivered it has
-- passed its whole walk, with the header at the end of all pieces and the payload as it was sent.
pub record IsForwarded (net : NetValue) (p total done : ℕ) (sent : Shipment) : Type 0 where
  pub packet : PacketValue
  pub there : slice_get net.packets p ≡ Some packet
  pub holds : packet.sent ≡ sent
  pub unrefused : (ia router : ℕ) (refusal : Refusal)
      → packet.packet.place ≢ places.Refused ia router refusal
  pub rest : List WalkHop
  pub so_far : packet.packet.passed ++ rest ≡ walk_of sent.way.pieces
  pub exact : packet.packet.place ≡ places.Delivered ↔ (total ≤ done)
  pub waits : done < total → (stop : RouterStop) × (packet.packet.place ≡ places.AtRouter stop)
  pub whole : packet.packet.place ≡ places.Delivered → packet.packet
      ≡ arrived_with sent.way.source sent.way.destination sent.payload sent.way.pieces

-- each piece is of a segment that the network issued under some keys; its keys are accepted now,
-- and its links are up
abbrev pub AreSound : Network → List PieceValue → Type 0
AreSound n pieces = All (λ piece. (keys : List (List ℕ)) × IsIssuedAndAccepted n keys piece) pieces

-- if the event was done, it neither loses nor alters the packet, cuts no link of its path, and
-- changes no key of the path's ASes; and if it is a turn of the packet, its path is live then
pub record LeavesUndisturbed (p : ℕ) (sent : Shipment) (old : NetValue) (event : EventValue)
    (reply : Reply) : Type 0 where
  pub unlost : event ≡ Lose p → is_done reply ≡ true → ⊥
  pub unaltered : (at change : ℕ) → event ≡ Alter p at change → is_done reply ≡ true → ⊥
  pub in_time : event ≡ Turn p → is_done reply ≡ true → AreLive old.moment sent.way.pieces
  pub links : (ia number : ℕ) → event ≡ CutLink ia number → is_done reply ≡ true
      → All (λ piece. AvoidsLink piece.segment piece.from piece.to ia number) sent.way.pieces
  pub keys : (ia : ℕ) (key : List ℕ) → event ≡ RotateKey ia key → is_done reply ≡ true
      → All (λ piece. AvoidsAs piece.segment piece.from piece.to ia) sent.way.pieces

abbrev pub AllLeaveUndisturbed : ℕ → Shipment → NetValue → List EventRecord → Type 0
AllLeaveUndisturbed p sent net [] = Unit {0}
AllLeaveUndisturbed p sent net (one ∷ later) =
    LeavesUndisturbed p sent net one.event one.reply
    × AllLeaveUndisturbed p sent one.net later

-- the network has the AS from which this was sent, and the interface by which the path leaves that
-- AS
abbrev pub MayDepart : Network → Shipment → Type 0
MayDepart n sent = IsOk (owner_in n sent.way.source (first_out (walk_of sent.way.pieces)))

-- `MayDepart` for each packet of a network
abbrev pub AllMayDepart : NetValue → Type 0
AllMayDepart net = (i : ℕ) (one : PacketValue) → slice_get net.packets i ≡ Some one
    → MayDepart net.network one.sent

-- if the reply says that a packet was sent, both its addresses and the numbers of its header fit
-- into their bits
abbrev pub HasSentFrame : Reply → NetValue → Type 0
HasSentFrame reply net = (p : ℕ) (one : PacketValue) → reply ≡ replies.Sent p
    → slice_get net.packets p ≡ Some one
    → HasFrame one.sent.way.source one.sent.way.destination one.sent.way.pieces

-- `HasSentFrame` for the event if it is a Send, and for each event of a history
abbrev pub IsFramed : EventValue → Reply → NetValue → Type 0
IsFramed event reply net = (route : RouteValue) (payload : List ℕ) → event ≡ Send route payload
    → HasSentFrame reply net

abbrev pub AllFramed : List EventRecord → Type 0
AllFramed history = All (λ one. IsFramed one.event one.reply one.net) history

-- the place of a packet that a router has refused, and of one that is at a router
abbrev pub IsRefusedAt : PacketLocation → Type 0
IsRefusedAt (places.Refused ia router refusal) = Unit {0}
IsRefusedAt place = ⊥

abbrev pub IsAtRouter : PacketLocation → Type 0
IsAtRouter (places.AtRouter stop) = Unit {0}
IsAtRouter place = ⊥
