-- A packet is where the result of its router's step put it.
use Rattle.std.proofs.Common.{◌≡◌, List, ℕ, Option, None, Result, Ok, Err, IfOk, IfErr}
use Rattle.scion_topology.specs.Network.{Network}
use Rattle.policy_expr.specs.declared.hop.WalkHop.{WalkHop}
use Rattle.router_step.specs.declared.outcome.Outcome.{Outcome}
use Rattle.router_step.specs.declared.fault.Refusal.{Refusal}
use Rattle.router_step.specs.Packet.{IsPacketStepped}
use Rattle.forwarding.specs.declared.location.RouterStop.{RouterStop}
use Rattle.forwarding.specs.declared.location.PacketLocation.{PacketLocation}
use Rattle.forwarding.specs.declared.location.PacketLocation.TheVariants as places
use Rattle.forwarding.specs.declared.reply.TurnReply.{TurnReply}
use Rattle.forwarding.specs.declared.reply.TurnReply.TheVariants as replies
use Rattle.forwarding.specs.Turn.{packet_with, with_hop_of_turn, after_outcome, after_step}

pub packet_stepped : (n : Network) (before bytes : List ℕ) (at place : PacketLocation) (stop : RouterStop)
    (step : Result (Outcome × List ℕ) Refusal) (result : Result Outcome Refusal) (reply : TurnReply) (hop : Option WalkHop)
    → IsPacketStepped step before bytes result
    → IfOk result (λ outcome. (reply ≡ replies.Went outcome) × ((any : List ℕ) (passed : List WalkHop) → packet_with any place (with_hop_of_turn passed hop) ≡ after_outcome n (packet_with any at passed) stop outcome))
    → IfErr result (λ refusal. (reply ≡ replies.Refused refusal) × (place ≡ places.Refused stop.ia stop.router refusal) × (hop ≡ None))
    → (passed : List WalkHop) → packet_with bytes place (with_hop_of_turn passed hop) ≡ (after_step n (packet_with before at passed) stop step).1
packet_stepped n before bytes at place stop step (Ok outcome) reply hop is went refused passed = rw is (went.1 bytes passed)
packet_stepped n before bytes at place stop step (Err refusal) reply hop is went refused passed =
    rw is.0 (λ i. packet_with (is.1 i) (refused.1 i) (with_hop_of_turn passed (refused.2 i)))
