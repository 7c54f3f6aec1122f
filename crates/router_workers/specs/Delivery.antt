-- The guarantees for a flight on whose path the network forwards packets
-- (draft-dekater-scion-dataplane).
use Rattle.std.specs.Prelude.{◌≡◌, ◌↔◌, ℕ, ◌*◌, ◌<◌, ◌≤◌, List, ◌++◌}
use Rattle.policy_expr.specs.declared.hop.WalkHop.{WalkHop}
use Rattle.scion_topology.specs.Network.{Network}
use Rattle.path_verifier.specs.Walk.{walk_of}
use Rattle.path_verifier.specs.Header.{total_hops}
use Rattle.forwarding.specs.declared.location.PacketLocation.TheVariants as places
use Rattle.forwarding.specs.Turn.{Packet}
use Rattle.forwarding.specs.OnPath.{arrived_with}
use Rattle.network_core.specs.Delivery.{IsRefusedAt, IsAtRouter, AreSound}
use Rattle.router_workers.specs.Flight.{SentPacket}
use Rattle.router_workers.specs.declared.end.End.{End}
use Rattle.router_workers.specs.declared.end.End.TheVariants as ends

-- the state of a packet whose walk takes `total` turns and that has had `done` of them. No router
-- has refused it, and the hops that it has passed are the beginning of its walk. It is delivered if
-- and only if it has had all its turns, and is at a router before. Two turns for each of its hop
-- fields are enough. When it is delivered it has passed its whole walk, with the header at the end
-- of all pieces and the payload as it was sent.
pub record IsFlightForwarded (sent : SentPacket) (total done : ℕ) (packet : Packet) : Type 0 where
  pub unrefused : ¬ (IsRefusedAt packet.place)
  pub rest : List WalkHop
  pub so_far : packet.passed ++ rest ≡ walk_of sent.pieces
  pub exact : packet.place ≡ places.Delivered ↔ (total ≤ done)
  pub waits : done < total → IsAtRouter packet.place
  pub delivers : 2 * total_hops sent.pieces ≤ done → packet.place ≡ places.Delivered
  pub whole : packet.place ≡ places.Delivered
      → packet ≡ arrived_with sent.source sent.destination sent.payload sent.pieces

-- each piece of its path is of a segment that the network issued under some keys; its keys are
-- accepted, and its links are up
abbrev pub IsSoundIn : Network → SentPacket → Type 0
IsSoundIn n sent = AreSound n sent.pieces

-- the end of a flight whose walk takes `total` turns, before its first turn: delivered after
-- exactly that many turns, or dropped earlier; never refused
abbrev pub IsSoundEnd : ℕ → End → Type 0
IsSoundEnd total (ends.Delivered turns) = turns ≡ total
IsSoundEnd total (ends.Refused refusal turns) = ⊥
IsSoundEnd total (ends.Dropped turns) = turns < total
