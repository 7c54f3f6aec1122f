-- A whole packet in parts, and a turn on them.
use Rattle.std.specs.Prelude.{◌≡◌, ℕ, ◌+◌, ◌<◌, List, [], ◌∷◌, ◌++◌, length, slice_index, Result, Ok, Err}
use Rattle.refusal.specs.Refusal.{◌>>=◌}
use Rattle.scion_topology.specs.View.{View}
use Rattle.path_header.specs.Value.{HeaderValue, header_len}
use Rattle.path_header.specs.Spelling.{SpellsHeader, spelling}
use Rattle.router_step.specs.declared.arrival.Arrival.{Arrival}
use Rattle.router_step.specs.declared.outcome.Outcome.{Outcome}
use Rattle.router_step.specs.declared.fault.Refusal.{Refusal}
use Rattle.router_step.specs.Packet.{source_of, destination_of, packet_step}
use Rattle.router_step.specs.Step.{step_of}
use Rattle.scion_packet.specs.declared.fault.TurnRefusal.{TurnRefusal}
use Rattle.scion_packet.specs.Layout.{path_place, announced_len, announced_payload, addresses_of, frame_in}
use Rattle.scion_packet.specs.Turn.{whole_packet_step}

-- a whole packet in parts: what stands in front of its path header, the bytes of the path header,
-- and the payload
pub record HasParts (packet front text payload : List ℕ) (header : HeaderValue) : Type 0 where
  pub whole : packet ≡ front ++ (text ++ payload)
  pub spells : SpellsHeader text header
  pub version : slice_index front 0 < 16
  pub path_type : slice_index front 8 ≡ 1
  pub addresses : length front ≡ path_place front
  pub headers_announced : announced_len front ≡ length front + header_len header
  pub payload_announced : announced_payload front ≡ length payload

-- a whole packet with this in front of its path header, and this payload
pub record KeepsParts (packet front payload : List ℕ) : Type 0 where
  pub text : List ℕ
  pub header : HeaderValue
  pub whole : HasParts packet front text payload header

-- the outcome and the frame of the turned packet, or the same refusal
abbrev pub turned_frame : Result (Outcome × List ℕ) TurnRefusal
    → Result (Outcome × List ℕ) TurnRefusal
turned_frame (Ok turned) = Ok (turned.0, frame_in turned.1)
turned_frame (Err refusal) = Err refusal

-- `whole_packet_step` for a packet in parts
abbrev pub parts_step : View → ℕ → Arrival → (front : List ℕ) (header : HeaderValue)
    (payload : List ℕ) → Result (Outcome × List ℕ) Refusal
parts_step view now arrival front header payload = do
  stepped ← step_of view now arrival (source_of (addresses_of front))
      (destination_of (addresses_of front)) header
  Ok (stepped.0, front ++ (spelling stepped.1 ++ payload))

-- a turn of a router: its view, the second, and how the packet came
pub record RouterTurn : Type 0 where
  pub view : View
  pub now : ℕ
  pub arrival : Arrival

-- the packet after a turn: as it was if it is refused
abbrev pub bytes_after : {F : Type 0} → Result (Outcome × List ℕ) F → List ℕ → List ℕ
bytes_after (Ok turned) packet = turned.1
bytes_after (Err refusal) packet = packet

-- the whole packet after these turns
abbrev pub packet_after_turns : List RouterTurn → List ℕ → List ℕ
packet_after_turns [] packet = packet
packet_after_turns (t ∷ later) packet =
    packet_after_turns later (bytes_after (whole_packet_step t.view t.now t.arrival packet) packet)

-- a frame after these turns
abbrev pub frame_after_turns : List RouterTurn → List ℕ → List ℕ
frame_after_turns [] frame = frame
frame_after_turns (t ∷ later) frame =
    frame_after_turns later (bytes_after (packet_step t.view t.now t.arrival frame) frame)
