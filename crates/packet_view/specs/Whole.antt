-- The output of `scionet_view packet --whole`: the fields of a whole packet, the checks, and the
-- line of the turn.
use Rattle.std.specs.Prelude.{ℕ, ◌+◌, ◌-◌, ◌/◌, ◌%◌, ◌^◌, codes, nat_lt, if◌then◌else◌, List, ◌++◌, length, slice_index, Option, Some, Result, Ok, Err}
use Rattle.std.specs.Fmt.{decimal}
use Rattle.separators.specs.Blanks.{trimmed_text}
use Rattle.refusal.specs.Optional.{◌>>=◌}
use Rattle.refusal.specs.Fault.{code_text}
use Rattle.path_header.specs.Value.{HeaderValue}
use Rattle.path_header.specs.Reading.{word_at}
use Rattle.scion_topology.specs.View.{View}
use Rattle.router_step.specs.declared.arrival.Arrival.{Arrival}
use Rattle.router_step.specs.declared.outcome.Outcome.{Outcome}
use Rattle.router_step.specs.declared.fault.Refusal.TheVariants as refusals
use Rattle.router_step.specs.Packet.{header_in}
use Rattle.scion_packet.specs.declared.fault.PacketFault.{PacketFault}
use Rattle.scion_packet.specs.declared.fault.PacketFault.TheVariants as faults
use Rattle.scion_packet.specs.declared.fault.TurnRefusal.{TurnRefusal}
use Rattle.scion_packet.specs.declared.fault.TurnRefusal.TheVariants.{Packet, Step}
use Rattle.scion_packet.specs.Fault.{code_and_name}
use Rattle.scion_packet.specs.Value.{PacketInfoValue, WholePacketValue}
use Rattle.scion_packet.specs.Layout.{destination_host_len, source_host_len, announced_len, announced_payload, frame_in}
use Rattle.scion_packet.specs.Reading.{path_header_in, whole_packet_at}
use Rattle.scion_packet.specs.Turn.{whole_packet_step}
use Rattle.step_line.specs.Fields.{hex_bytes_of}
use Rattle.step_line.specs.Turn.{Turn}
use Rattle.step_line.specs.Line.{outcome_line, refusal_line}
use Rattle.packet_view.specs.Fields.{addresses_text, behind_text, field_text}
use Rattle.packet_view.specs.Host.{host_kind_text, host_text}
use Rattle.packet_view.specs.Checks.{checks_of}
use Rattle.packet_view.specs.Lines.{checks_text}

-- ---- the common header

-- what the first four bytes say: version, traffic class and flow
abbrev pub first_text : List ℕ → List ℕ
first_text packet =
    codes "version " ++ (decimal (word_at packet / 2 ^ 28) ++ (codes ", traffic class "
    ++ (decimal (word_at packet / 2 ^ 20 % 2 ^ 8) ++ (codes ", flow "
    ++ decimal (word_at packet % 2 ^ 20)))))

-- the types and the lengths of both hosts' addresses
abbrev pub host_types_text : List ℕ → List ℕ
host_types_text packet =
    codes "destination host of "
    ++ (host_kind_text (slice_index packet 9 / 64) (destination_host_len packet)
    ++ (codes "; source host of "
    ++ host_kind_text (slice_index packet 9 / 4 % 4) (source_host_len packet)))

-- a number of bytes that the packet announces
abbrev pub announced_text : (name : List ℕ) (count : ℕ) → List ℕ
announced_text name count = name ++ (decimal count ++ codes " bytes")

-- the lines of both lengths
unfoldable pub lengths_text : List ℕ → List ℕ
lengths_text packet =
    field_text packet 5 1 (announced_text (codes "headers of ") (announced_len packet))
    ++ field_text packet 6 2 (announced_text (codes "payload of ") (announced_payload packet))

-- the lines of the first eight bytes: version, traffic class and flow; next header; lengths
unfoldable pub common_front_text : List ℕ → List ℕ
common_front_text packet =
    field_text packet 0 4 (first_text packet)
    ++ (field_text packet 4 1 (codes "next header " ++ decimal (slice_index packet 4))
    ++ lengths_text packet)

-- the lines of the next four: type of the path; types of the hosts' addresses; reserved
unfoldable pub common_back_text : List ℕ → List ℕ
common_back_text packet =
    field_text packet 8 1 (codes "path of type " ++ decimal (slice_index packet 8))
    ++ (field_text packet 9 1 (host_types_text packet)
    ++ field_text packet 10 2 (codes "reserved"))

-- ---- the packet

-- the lines of both hosts' addresses
unfoldable pub hosts_text : List ℕ → PacketInfoValue → List ℕ
hosts_text packet info =
    field_text packet 28 (destination_host_len packet)
    (codes "destination host " ++ host_text info.destination_host)
    ++ field_text packet (28 + destination_host_len packet) (source_host_len packet)
    (codes "source host " ++ host_text info.source_host)

-- the lines behind the common header of a whole packet: of the addresses, of the path header and of
-- the payload
abbrev pub whole_lines_behind : List ℕ → PacketInfoValue → List ℕ
whole_lines_behind packet info =
    addresses_text (frame_in packet) ++ (hosts_text packet info
    ++ behind_text (frame_in packet) (header_in (frame_in packet)))

-- the same, or that the bytes are no whole packet
abbrev pub behind_common_text : List ℕ → Result WholePacketValue PacketFault → List ℕ
behind_common_text packet (Ok v) = whole_lines_behind packet v.info
behind_common_text packet (Err fault) =
    field_text packet 12 (length packet - 12) (codes "no whole packet")

-- the lines of all fields of a whole packet
unfoldable pub whole_fields_text : List ℕ → List ℕ
whole_fields_text packet =
    if nat_lt (length packet) 12
    then field_text packet 0 (length packet) (codes "no common header")
    else common_front_text packet ++ (common_back_text packet
    ++ behind_common_text packet (whole_packet_at packet))

-- ---- the checks and the turn

-- a refusal of a whole packet: `refused CODE Name`; where no path header is there, also that of the
-- header's refusal
abbrev pub packet_fault_line : PacketFault → List ℕ
packet_fault_line (faults.BadHeader fault) = refusal_line (refusals.BadHeader fault)
packet_fault_line fault = codes "refused " ++ code_text (code_and_name fault)

abbrev pub turn_refusal_line : TurnRefusal → List ℕ
turn_refusal_line (Packet fault) = packet_fault_line fault
turn_refusal_line (Step refusal) = refusal_line refusal

-- the sides of the check of all headers
unfoldable pub headers_side : List ℕ → List ℕ
headers_side packet =
    codes "0 headers: a whole packet of " ++ (decimal (length packet) ++ codes " bytes: ")

-- the checks of a router on the frame of a whole packet
abbrev pub frame_checks_text : Turn → List ℕ → List ℕ
frame_checks_text turn packet =
    checks_text (checks_of turn.view turn.moment turn.arrival (frame_in packet))

-- the verdict of that check, and behind it the checks of a router
abbrev pub verdict_text : Turn → List ℕ → Result HeaderValue PacketFault → List ℕ
verdict_text turn packet (Ok header) = codes "ok\n" ++ frame_checks_text turn packet
verdict_text turn packet (Err fault) = packet_fault_line fault ++ codes "\n"

-- the line of the turn, without its end
abbrev pub turned_line : Result (Outcome × List ℕ) TurnRefusal → List ℕ
turned_line (Ok turned) = outcome_line turned.0 turned.1
turned_line (Err refusal) = turn_refusal_line refusal

-- all lines about the whole packet whose bytes this text gives in hexadecimal; the last is that of
-- the turn, and has no line end
abbrev pub whole_lines : Turn → List ℕ → List ℕ
whole_lines turn packet =
    whole_fields_text packet
    ++ ((headers_side packet ++ verdict_text turn packet (path_header_in packet))
    ++ turned_line (whole_packet_step turn.view turn.moment turn.arrival packet))

-- the lines about a whole packet that comes by this arrival to a router with this view
unfoldable pub whole_turn_lines : (view : View) (now : ℕ) (arrival : Arrival) (packet : List ℕ)
    → List ℕ
whole_turn_lines view now arrival packet =
    whole_lines (record { view = view; moment = now; arrival = arrival }) packet ++ codes "\n"

unfoldable pub whole_lines_of : Turn → List ℕ → Option (List ℕ)
whole_lines_of turn text = do
  packet ← hex_bytes_of (trimmed_text text)
  Some (whole_lines turn packet)
