-- The datagrams of a run: each packet that is sent goes from a host to the first router on its way,
-- and by each turn in which it is not refused from a router to the next one, or, delivered, to a
-- host.
use Rattle.std.specs.Prelude.{◌≡◌, ◌⊎◌, ℕ, codes, if◌then◌else◌, false, List, [], ◌∷◌, ◌++◌, length, Option, Some, None, option_map, option_and_then, slice_get, Result, Ok, Err, Vec}
use Rattle.std.specs.Str.{bytes_eq}
use Rattle.refusal.specs.Optional.{◌>>=◌}
use Rattle.json_fields.specs.Fields.{document_in, text_at}
use Rattle.scion_topology.specs.declared.fault.TopologyFault.{TopologyFault}
use Rattle.scion_topology.specs.Topology.{network_in}
use Rattle.forwarding.specs.declared.location.RouterStop.{RouterStop}
use Rattle.forwarding.specs.declared.location.PacketLocation.{PacketLocation}
use Rattle.forwarding.specs.declared.location.PacketLocation.TheVariants.{AtRouter, Delivered}
use Rattle.forwarding.specs.Turn.{Packet}
use Rattle.network_core.specs.Value.{NetValue, PacketValue}
use Rattle.event_lines.specs.declared.accepted.AcceptedLines.TheVariants.{All}
use Rattle.event_lines.specs.declared.fault.RunFault.{RunFault}
use Rattle.event_lines.specs.declared.fault.RunFault.TheVariants as faults
use Rattle.event_lines.specs.Line.{long_at}
use Rattle.event_lines.specs.Answers.{Stage, Unbegun, Open}
use Rattle.event_lines.specs.Replies.{RepliesTo}
use Rattle.event_lines.specs.Run.{AreLines, all_lines, has_line_end, line_end}
use Rattle.scion_packet.specs.Value.{PacketInfoValue}
use Rattle.wire_packets.specs.Wrapped.{wrapped}
use Rattle.wire_packets.specs.Datagram.{Datagram, hop_between, router_station, hosts_station, sent_as}
use Rattle.wire_packets.specs.File.{file_of}

-- ---- packets that are sent

-- the datagram from a host to the router at which a packet is
abbrev pub departed_to : PacketInfoValue → NetValue → Packet → PacketLocation → List Datagram
departed_to info net packet (AtRouter to) =
    sent_as (hop_between net.moment (hosts_station net.network to.ia)
    (router_station net.network to.ia to.router)) (wrapped info packet.bytes)
departed_to info net packet place = []

-- the datagram of the packet with this number, if there is one
abbrev pub departed : PacketInfoValue → NetValue → Option PacketValue → List Datagram
departed info net None = []
departed info net (Some one) = departed_to info net one.packet one.packet.place

-- ---- turns

-- the packet to which a line gives a turn: the number in the member `packet` of an object whose
-- member `do` is "turn"
unfoldable pub turned_by : List ℕ → Option ℕ
turned_by line = do
  d ← document_in line
  word ← text_at (codes "do") d
  if bytes_eq word (codes "turn") then long_at (codes "packet") d else None

-- where a packet is
abbrev pub place_of : NetValue → ℕ → Option PacketLocation
place_of net number = option_map (λ one. one.packet.place) (slice_get net.packets number)

-- the datagram from a router to where its packet is now: a router, or a host of the router's AS
abbrev pub moved_to : PacketInfoValue → NetValue → (from : RouterStop) → Packet → PacketLocation
    → List Datagram
moved_to info net from packet (AtRouter to) =
    sent_as (hop_between net.moment (router_station net.network from.ia from.router)
    (router_station net.network to.ia to.router)) (wrapped info packet.bytes)
moved_to info net from packet Delivered =
    sent_as (hop_between net.moment (router_station net.network from.ia from.router)
    (hosts_station net.network from.ia)) (wrapped info packet.bytes)
moved_to info net from packet place = []

-- the datagram of a packet that was there before, and is now as it is
abbrev pub moved : PacketInfoValue → NetValue → Option PacketLocation → Option PacketValue
    → List Datagram
moved info net (Some (AtRouter from)) (Some one) =
    moved_to info net from one.packet one.packet.place
moved info net before now = []

-- ---- lines

-- the datagrams of a line, between the network before it and that after it: of the packet that it
-- sends, and of the packet to which it gives a turn
abbrev pub line_datagrams : PacketInfoValue → (old : Stage) (line : List ℕ) (new : Stage)
    → List Datagram
line_datagrams info (Open old) line (Open new) =
    departed info new (slice_get new.packets (length old.packets))
    ++ moved info new (option_and_then (place_of old) (turned_by line))
    (option_and_then (slice_get new.packets) (turned_by line))
line_datagrams info old line new = []

-- these lines are answered one after another, and have these datagrams
abbrev pub HaveDatagrams : PacketInfoValue → (old : Stage) (lines : List (List ℕ)) (new : Stage)
    (datagrams : List Datagram) → Type 0
HaveDatagrams info old [] new datagrams = (new ≡ old) × (datagrams ≡ [])
HaveDatagrams info old (line ∷ lines) new datagrams =
    (text : List ℕ) × (next : Stage) × (later : List Datagram)
    × (RepliesTo All old line text next
    × ((datagrams ≡ line_datagrams info old line next ++ later)
    × HaveDatagrams info next lines new later))

-- the file is the capture of a run of these lines: of their datagrams, in their order
pub record IsCapture (info : PacketInfoValue) (input file : List ℕ) : Type 0 where
  pub lines : List (List ℕ)
  pub rest : List ℕ
  pub net : NetValue
  pub datagrams : List Datagram
  pub are : AreLines input lines rest
  pub have : HaveDatagrams info Unbegun (all_lines lines rest) (Open net) datagrams
  pub says : file ≡ file_of datagrams

-- the first line of an input, without its end, if it has one
abbrev pub IsFirstLine : (input line : List ℕ) → Type 0
IsFirstLine input line = (has_line_end line ≡ false)
    × ((input ≡ line) ⊎ ((behind : List ℕ) × (input ≡ line ++ line_end ∷ behind)))

-- the first line of an input is refused as a topology
abbrev pub HasNoTopology : (input : List ℕ) → Type 0
HasNoTopology input = (line : List ℕ) × (fault : TopologyFault)
    × (IsFirstLine input line × (network_in line ≡ Err fault))

-- the result of a capture: its file; or the first line is no topology; or memory ran out
abbrev pub Captures : {A : Type 0} → (result : Result (Vec ℕ A) RunFault) (info : PacketInfoValue)
    (input : List ℕ) → Type 0
Captures (Ok file) info input = IsCapture info input file.items
Captures (Err faults.Topology) info input = HasNoTopology input
Captures (Err faults.Memory) info input = Unit {0}
Captures (Err fault) info input = ⊥
