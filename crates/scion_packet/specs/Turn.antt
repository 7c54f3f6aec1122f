-- A router's turn on a whole packet: that on its frame.
use Rattle.std.specs.Prelude.{◌≡◌, ℕ, List, ◌++◌, take, drop, Result, Ok, Err}
use Rattle.refusal.specs.Refusal.{◌>>=◌, refused_as}
use Rattle.scion_topology.specs.View.{View}
use Rattle.router_step.specs.declared.arrival.Arrival.{Arrival}
use Rattle.router_step.specs.declared.outcome.Outcome.{Outcome}
use Rattle.router_step.specs.Packet.{packet_step}
use Rattle.scion_packet.specs.declared.fault.TurnRefusal.{TurnRefusal}
use Rattle.scion_packet.specs.declared.fault.TurnRefusal.TheVariants.{Packet, Step}
use Rattle.scion_packet.specs.Layout.{path_place, frame_in}
use Rattle.scion_packet.specs.Reading.{path_header_in}

-- the first refusal, or the outcome and the new packet: what stands in front of the path header as
-- before, and behind it what stands behind the addresses of the turned frame
unfoldable pub whole_packet_step : View → (now : ℕ) → Arrival → List ℕ
    → Result (Outcome × List ℕ) TurnRefusal
whole_packet_step view now arrival packet = do
  _ ← refused_as Packet (path_header_in packet)  -- 1 to 7
  turned ← refused_as Step (packet_step view now arrival (frame_in packet))  -- 8
  Ok (turned.0, take (path_place packet) packet ++ drop 16 turned.1)

-- the turn succeeds with the outcome and the new packet, or is refused and leaves the packet as it
-- was
abbrev pub IsTurned : (turn : Result (Outcome × List ℕ) TurnRefusal) (old new : List ℕ)
    (result : Result Outcome TurnRefusal) → Type 0
IsTurned turn old new (Ok outcome) = turn ≡ Ok (outcome, new)
IsTurned turn old new (Err refusal) = (turn ≡ Err refusal) × (new ≡ old)
