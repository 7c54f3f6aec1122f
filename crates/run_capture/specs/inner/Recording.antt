-- A run whose datagrams are recorded line by line (words of private functions' contracts).
use Rattle.std.specs.Prelude.{◌≡◌, ℕ, List, [], ◌++◌, length, flat_map, Option, Some, None, option_and_then, slice_get, Result, Ok, Err}
use Rattle.network_core.specs.Value.{NetValue}
use Rattle.event_lines.specs.declared.fault.RunFault.{RunFault}
use Rattle.event_lines.specs.declared.fault.RunFault.TheVariants as faults
use Rattle.event_lines.specs.declared.accepted.AcceptedLines.TheVariants.{All}
use Rattle.event_lines.specs.Answers.{Stage, Open, Closed}
use Rattle.event_lines.specs.Replies.{RepliesTo}
use Rattle.scion_packet.specs.Value.{PacketInfoValue}
use Rattle.run_capture.specs.declared.recorder.Before.{Before}
use Rattle.wire_packets.specs.Datagram.{Datagram}
use Rattle.wire_packets.specs.File.{datagram_record}
use Rattle.run_capture.specs.Lines.{departed, line_datagrams, moved, place_of}

-- what counts of a network before a line that gives this packet a turn
abbrev pub before_in : NetValue → (turned : Option ℕ) → Before
before_in net turned = record {
  packets = length net.packets;
  turned = turned;
  place = option_and_then (place_of net) turned;
}

abbrev pub seen_in : Stage → (turned : Option ℕ) → Option Before
seen_in (Open net) turned = Some (before_in net turned)
seen_in stage turned = None

-- the datagrams of a line, of which this was seen before it
abbrev pub datagrams_behind : PacketInfoValue → Option Before → Stage → List Datagram
datagrams_behind info None new = []
datagrams_behind info (Some seen) (Open new) =
    departed info new (slice_get new.packets seen.packets)
    ++ moved info new seen.place (option_and_then (slice_get new.packets) seen.turned)
datagrams_behind info (Some seen) new = []

-- a run has begun
abbrev pub HasBegun : Stage → Type 0
HasBegun stage = (net : NetValue) × (stage ≡ Open net)

-- a line was answered, and the records of its datagrams were added; or it is a topology that is
-- refused; or memory ran out
abbrev pub Records : (result : Result (Unit {0}) RunFault) (info : PacketInfoValue) (old : Stage)
    (line : List ℕ) (new : Stage) (before after : List ℕ) → Type 0
Records (Ok done) info old line new before after = (text : List ℕ)
    × (RepliesTo All old line text new
    × (after ≡ before ++ flat_map datagram_record (line_datagrams info old line new)))
Records (Err faults.Topology) info old line new before after =
    (text : List ℕ) × RepliesTo All old line text Closed
Records (Err faults.Memory) info old line new before after = Unit {0}
Records (Err fault) info old line new before after = ⊥
