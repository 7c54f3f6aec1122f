-- A packet as bytes: 8 bytes of destination, 8 of source, the path header, the payload; and one
-- step of a router over it (draft-dekater-scion-dataplane).
use Rattle.std.specs.Prelude.{◌≡◌, ℕ, ◌+◌, List, ◌++◌, length, take, drop, nat_lt, if◌then◌else◌, Result, Ok, Err}
use Rattle.std.specs.Int.{w64, from_be_bytes}
use Rattle.refusal.specs.Refusal.{◌>>=◌, refused_as}
use Rattle.scion_topology.specs.View.{View}
use Rattle.path_header.specs.declared.fault.HeaderFault.TheVariants.{Short}
use Rattle.path_header.specs.Value.{HeaderValue}
use Rattle.path_header.specs.Spelling.{SpellsHeader, spelling}
use Rattle.path_header.specs.Reading.{read_at}
use Rattle.router_step.specs.declared.arrival.Arrival.{Arrival}
use Rattle.router_step.specs.declared.outcome.Outcome.{Outcome}
use Rattle.router_step.specs.declared.fault.Refusal.{Refusal}
use Rattle.router_step.specs.declared.fault.Refusal.TheVariants.{BadHeader}
use Rattle.router_step.specs.Step.{step_of}

-- the address of the packet's destination AS
abbrev pub destination_of : List ℕ → ℕ
destination_of packet = from_be_bytes w64 (take 8 packet)

-- the address of the packet's source AS
abbrev pub source_of : List ℕ → ℕ
source_of packet = from_be_bytes w64 (take 8 (drop 8 packet))

-- the path header behind the addresses, and its length in bytes
abbrev pub header_in : List ℕ → Result (HeaderValue × ℕ) Refusal
header_in packet = if nat_lt (length packet) 16 then Err (BadHeader Short)
    else refused_as BadHeader (read_at (drop 16 packet))

-- all steps on a packet's bytes: the first refusal, or the outcome and the new packet; only the
-- bytes of the header change
unfoldable pub packet_step : View → ℕ → Arrival → List ℕ → Result (Outcome × List ℕ) Refusal
packet_step view now arrival packet = do
  front ← header_in packet  -- 1
  stepped ← step_of view now arrival (source_of packet) (destination_of packet) front.0  -- 2 to 13
  Ok (stepped.0, take 16 packet ++ (spelling stepped.1 ++ drop (16 + front.1) packet))

-- `packet_step` for a packet given in parts: its addresses, its path header and the rest
abbrev pub frame_step : (view : View) (now : ℕ) (arrival : Arrival) (packet addresses : List ℕ)
    (header : HeaderValue) (rest : List ℕ) → Result (Outcome × List ℕ) Refusal
frame_step view now arrival packet addresses header rest = do
  stepped ← step_of view now arrival (source_of packet) (destination_of packet) header
  Ok (stepped.0, addresses ++ (spelling stepped.1 ++ rest))

-- the step succeeds with the outcome and the new packet, or is refused and leaves the packet as it
-- was
abbrev pub IsPacketStepped : (step : Result (Outcome × List ℕ) Refusal) (old new : List ℕ)
    (result : Result Outcome Refusal) → Type 0
IsPacketStepped step old new (Ok outcome) = step ≡ Ok (outcome, new)
IsPacketStepped step old new (Err e) = (step ≡ Err e) × (new ≡ old)

-- a packet in parts: both addresses, the bytes of its path header, and the rest
pub record IsFrame (packet addresses text rest : List ℕ) (header : HeaderValue) : Type 0 where
  pub whole : packet ≡ addresses ++ (text ++ rest)
  pub two : length addresses ≡ 16
  pub spells : SpellsHeader text header
