-- The answers about whole packets, and the records in which a host gives and gets what one says.
use Rattle.std.specs.Prelude.{◌≡◌, ℕ, ◌-◌, ◌^◌, ◌==◌, Bool, ◌&&◌, ◌||◌, List, ◌++◌, length, take, drop, replicate, nat_lt, Result, Ok, Err}
use Rattle.refusal.specs.Refusal.{◌>>=◌, check, refused_as}
use Rattle.scion_topology.specs.View.{View}
use Rattle.path_header.specs.Fault as header
use Rattle.path_header.specs.Reading.{header_at}
use Rattle.router_step.specs.declared.outcome.Outcome.{Outcome}
use Rattle.scion_packet.specs.declared.fault.PacketFault.{PacketFault}
use Rattle.scion_packet.specs.declared.fault.PacketFault.TheVariants.{BadField, BadHeader}
use Rattle.scion_packet.specs.declared.fault.TurnRefusal.{TurnRefusal}
use Rattle.scion_packet.specs.declared.fault.TurnRefusal.TheVariants.{Packet, Step}
use Rattle.scion_packet.specs.Fault as packets
use Rattle.scion_packet.specs.Value.{HostAddressValue, PacketInfoValue, WholePacketValue, front_len, headers_len}
use Rattle.scion_packet.specs.Spelling.{SpellsPacket}
use Rattle.scion_packet.specs.Writing.{written_len}
use Rattle.scion_packet.specs.Reply.{reply_to}
use Rattle.scion_packet.specs.Turn.{whole_packet_step}
use Rattle.scion_ffi.specs.declared.answer.ScionAnswer.{ScionAnswer}
use Rattle.scion_ffi.specs.declared.records.ScionRouter.{ScionRouter}
use Rattle.scion_ffi.specs.declared.packet_records.ScionHost.{ScionHost}
use Rattle.scion_ffi.specs.declared.packet_records.ScionPacketInfo.{ScionPacketInfo}
use Rattle.scion_ffi.specs.Answer.{answer, refusal_answer}
use Rattle.scion_ffi.specs.Parts.{arrival_told}
use Rattle.scion_ffi.specs.Step.{or_bad_call, view_told}

-- the answer about bytes that are no whole packet, or about one that was not written; with the
-- header's refusal if there is no path header
abbrev pub packet_answer : PacketFault → ScionAnswer
packet_answer (BadHeader fault) =
    answer (packets.code_and_name (BadHeader fault)).0 (header.code_and_name fault).0
packet_answer fault = answer (packets.code_and_name fault).0 0

-- the answer about a whole packet that a router refuses
abbrev pub turn_answer : TurnRefusal → ScionAnswer
turn_answer (Packet fault) = packet_answer fault
turn_answer (Step refusal) = refusal_answer refusal

-- the turn of a router with this view, on a whole packet that came in this way
abbrev pub whole_step_at : (view : View) (now arrival interface : ℕ) (packet : List ℕ)
    → Result (Outcome × List ℕ) ScionAnswer
whole_step_at view now arrival interface packet = do
  way ← or_bad_call (arrival_told arrival interface)
  refused_as turn_answer (whole_packet_step view now way packet)

-- the turn of a router of these parts
abbrev pub whole_step_told : (router : ScionRouter) (now arrival interface : ℕ) (packet : List ℕ)
    → Result (Outcome × List ℕ) ScionAnswer
whole_step_told router now arrival interface packet = do
  view ← view_told router
  whole_step_at view now arrival interface packet

-- ---- reading

-- the record of a host's address, with zeros behind it
abbrev pub host_record : HostAddressValue → ScionHost
host_record host = record {
  kind = host.kind;
  len = length host.bytes;
  bytes = host.bytes ++ replicate (16 - length host.bytes) 0;
}

-- the record of what a packet says, and where its path header begins
abbrev pub info_record : WholePacketValue → ScionPacketInfo
info_record v = record {
  destination = v.destination;
  source = v.source;
  flow_id = v.info.flow_id;
  reserved = v.info.reserved;
  path_start = front_len v;
  traffic_class = v.info.traffic_class;
  next_header = v.info.next_header;
  destination_host = host_record v.info.destination_host;
  source_host = host_record v.info.source_host;
}

-- the answer is the length of all headers, and the record has what the packet says; or the answer
-- is the refusal, and the record is as it was
abbrev pub IsPacketRead : (packet : Result WholePacketValue PacketFault) (old new : ScionPacketInfo)
    (result : ScionAnswer) → Type 0
IsPacketRead (Ok v) old new result = (result ≡ answer 0 (headers_len v)) × (new ≡ info_record v)
IsPacketRead (Err fault) old new result = (result ≡ packet_answer fault) × (new ≡ old)

-- ---- writing

-- whether a host's address may have this type and this number of bytes
abbrev pub is_host_told : ScionHost → Bool
is_host_told host = nat_lt host.kind 4
    && (host.len == 4 || host.len == 8 || host.len == 12 || host.len == 16)

-- a host's address of its record: BadField
abbrev pub host_told : ScionHost → Result HostAddressValue PacketFault
host_told host = do
  _ ← check (is_host_told host) BadField
  Ok (record { kind = host.kind; bytes = take host.len host.bytes })

-- what a packet says besides, from its record: BadField
abbrev pub info_told : ScionPacketInfo → Result PacketInfoValue PacketFault
info_told info = do
  destination_host ← host_told info.destination_host
  source_host ← host_told info.source_host
  _ ← check (nat_lt info.flow_id (2 ^ 20)) BadField
  Ok (record {
    traffic_class = info.traffic_class;
    flow_id = info.flow_id;
    next_header = info.next_header;
    reserved = info.reserved;
    destination_host = destination_host;
    source_host = source_host;
  })

-- the packet of a record, of bytes that begin with a path header, and of a payload: BadField, then
-- BadHeader
abbrev pub packet_told : ScionPacketInfo → (path payload : List ℕ)
    → Result WholePacketValue PacketFault
packet_told info path payload = do
  told ← info_told info
  path_header ← refused_as BadHeader (header_at path)
  Ok (record {
    info = told;
    destination = info.destination;
    source = info.source;
    header = path_header;
    payload = payload;
  })

-- the answer is the length of all headers, and the packet is at the front of the room; or the
-- answer is the refusal, and the room is as it was
abbrev pub IsInRoom : (v : WholePacketValue) (len : Result ℕ PacketFault) (old new : List ℕ)
    (result : ScionAnswer) → Type 0
IsInRoom v (Ok len) old new result = (result ≡ answer 0 (headers_len v))
    × (SpellsPacket (take len new) v × (drop len new ≡ drop len old))
IsInRoom v (Err fault) old new result = (result ≡ packet_answer fault) × (new ≡ old)

abbrev pub IsPacketWritten : (packet : Result WholePacketValue PacketFault) (old new : List ℕ)
    (result : ScionAnswer) → Type 0
IsPacketWritten (Ok v) old new result = IsInRoom v (written_len v (length old)) old new result
IsPacketWritten (Err fault) old new result = (result ≡ packet_answer fault) × (new ≡ old)

-- ---- the reply

-- the reply has replaced the packet; or there is none, and no byte has changed
abbrev pub IsReplyAnswered : (packet : Result WholePacketValue PacketFault) (old new : List ℕ)
    (result : ScionAnswer) → Type 0
IsReplyAnswered (Ok v) old new result = (result ≡ answer 0 0) × SpellsPacket new (reply_to v)
IsReplyAnswered (Err fault) old new result = (result ≡ packet_answer fault) × (new ≡ old)
