-- One event: its reply, and the network after it (draft-dekater-scion-controlplane, beaconing and
-- registration of path segments; draft-dekater-scion-dataplane). The refusals are named in their
-- order.
use Rattle.std.specs.Prelude.{◌≡◌, ◌⊎◌, ℕ, Bool, true, false, nat_lt, nat_le, List, [], ◌∷◌, ◌++◌, length, slice_get, slice_set, Option, Some, None, Result, Ok, Err, IsOk}
use Rattle.std.specs.Option.{ok_or, option_map_or}
use Rattle.refusal.specs.Refusal.{◌>>=◌, check, refused_as, or_else}
use Rattle.scion_topology.specs.declared.fault.TopologyFault.{TopologyFault}
use Rattle.scion_topology.specs.Network.{Network}
use Rattle.scion_topology.specs.Topology.{owner_in, set_up, with_rotated_key}
use Rattle.path_segment.specs.Chain.{Chain}
use Rattle.beaconing.specs.Calls.{originated_beacon, extended_beacon, terminated_beacon}
use Rattle.path_server.specs.Store.{answer_to, with_registered, live_segments, expired_count}
use Rattle.path_server.specs.Lookup.{segments_for}
use Rattle.policy_expr.specs.Policy.{Rules}
use Rattle.policy_expr.specs.declared.option_fault.OptionFault.{OptionFault}
use Rattle.policy_expr.specs.Options.{WeighedRules}
use Rattle.path_header.specs.Value.{HeaderValue}
use Rattle.path_header.specs.Reversal.{reversed_header}
use Rattle.path_verifier.specs.declared.fault.VerifyFault.{VerifyFault}
use Rattle.path_verifier.specs.Walk.{walk_of}
use Rattle.path_verifier.specs.Turned.{turned_pieces}
use Rattle.path_verifier.specs.Accepted.{IsAccepted, IsRefused}
use Rattle.combinator.specs.Answer.{AnswersWith, is_limit}
use Rattle.combinator.specs.Fault.{ends_at}
use Rattle.router_step.specs.Packet.{destination_of, source_of, header_in}
use Rattle.forwarding.specs.declared.location.PacketLocation.{PacketLocation}
use Rattle.forwarding.specs.declared.location.PacketLocation.TheVariants as places
use Rattle.forwarding.specs.Frame.{frame_of}
use Rattle.forwarding.specs.Turn.{Packet, put_at, turn_of, lost_packet, altered_packet}
use Rattle.forwarding.specs.Turned.{no_rules}
use Rattle.forwarding.specs.Journey.{first_out}
use Rattle.network_core.specs.declared.fault.EventFault.{EventFault}
use Rattle.network_core.specs.declared.fault.EventFault.TheVariants as faults
use Rattle.network_core.specs.declared.reply.Reply.{Reply}
use Rattle.network_core.specs.declared.reply.Reply.TheVariants.{Done, Begun, Registered, Swept, Answered, Sent, Turned, Refused}
use Rattle.network_core.specs.Event.{RouteValue, ByAnswer, ByWay, BackOf, EventValue, Tick, Originate, Extend, Terminate, Sweep, Ask, Send, Turn, Lose, Alter, CutLink, MendLink, RotateKey}
use Rattle.network_core.specs.Value.{Way, way_with, KeptAnswer, way_on, asked_at, Shipment, PacketValue, NetValue}

-- whether there is room for one more beacon, answer or packet: there are fewer than a million
abbrev pub has_room : {A : Type 0} → List A → Bool
has_room objects = nat_lt (length objects) 1_000_000

-- the result of an event: its reply and the network after it, or its refusal
abbrev pub Made : Type 0
Made = Result (Reply × NetValue) EventFault

-- the network's time goes on to `to`: TimeBack if that is earlier
abbrev pub ticks : NetValue → ℕ → Made
ticks net to = do
  _ ← check (nat_le net.moment to) faults.TimeBack
  Ok (Done, record net { moment = to })

-- the network with one more beacon: TooMany if it has a million already
abbrev pub with_beacon : NetValue → Chain → Made
with_beacon net beacon = do
  _ ← check (has_room net.beacons) faults.TooMany
  Ok (Begun (length net.beacons), record net { beacons = net.beacons ++ beacon ∷ [] })

-- the beacon of this number: NoBeacon
abbrev pub beacon_at : NetValue → ℕ → Result Chain EventFault
beacon_at net beacon = ok_or (slice_get net.beacons beacon) faults.NoBeacon

-- Originate: one more beacon, which an AS begins with the current second as its timestamp
abbrev pub originates : (net : NetValue) (ia egress beta0 : ℕ) → Made
originates net ia egress beta0 =
    refused_as faults.Beacon (originated_beacon net.network ia egress net.moment beta0)
    >>= with_beacon net

-- Extend: one more beacon, the old one after an AS has passed it on
abbrev pub extends : (net : NetValue) (beacon ia egress : ℕ) → Made
extends net beacon ia egress = (do
  old ← beacon_at net beacon
  refused_as faults.Beacon (extended_beacon net.network old ia egress)) >>= with_beacon net

-- the segment that a beacon becomes if it ends in an AS
abbrev pub new_segment : (net : NetValue) (beacon ia : ℕ) → Result Chain EventFault
new_segment net beacon ia = do
  old ← beacon_at net beacon
  refused_as faults.Beacon (terminated_beacon net.network old ia)

-- the network after a segment was registered at the current second
abbrev pub with_segment : NetValue → Chain → Made
with_segment net segment = do
  is_new ← refused_as faults.Store (answer_to net.segments segment net.moment)
  Ok (Registered is_new, record net { segments = with_registered net.segments segment net.moment })

-- Terminate: one more segment
abbrev pub terminates : (net : NetValue) (beacon ia : ℕ) → Made
terminates net beacon ia = new_segment net beacon ia >>= with_segment net

-- the network without the stored segments that are not live at the current second
abbrev pub sweeps : NetValue → Made
sweeps net =
    let segments = live_segments net.segments net.moment in
    Ok (Swept (expired_count net.segments net.moment), record net { segments = segments })

-- the network with a changed topology, or the refusal of the change
abbrev pub with_network : NetValue → Result Network TopologyFault → Made
with_network net changed = do
  network ← refused_as faults.Topology changed
  Ok (Done, record net { network = network })

-- ---- asking for paths

-- the options of a request for at most `limit` paths: BadLimit, then the refusal of the options'
-- texts, then SameAs, then TooMany
abbrev pub options_asked : NetValue → (src dst : ℕ) → Result (List WeighedRules) OptionFault
    → (limit : ℕ) → Result (List WeighedRules) EventFault
options_asked net src dst read limit = do
  _ ← check (is_limit limit) faults.BadLimit
  options ← refused_as faults.Policy read
  _ ← refused_as faults.Combination (ends_at src dst)
  _ ← check (has_room net.answers) faults.TooMany
  Ok options

-- the policy of the used option, or the policy that allows every path if none was used
abbrev pub rules_used : List WeighedRules → Option ℕ → Rules
rules_used options None = no_rules
rules_used options (Some used) =
    option_map_or (λ (option : WeighedRules). option.rules) (slice_get options used) no_rules

-- the kept answer is what the network's segments answer at the current second, with the policy of
-- the used option
pub record IsAnswerTo (net : NetValue) (src dst : ℕ) (options : List WeighedRules) (limit : ℕ)
    (one : KeptAnswer) : Type 0 where
  pub source : one.source ≡ src
  pub destination : one.destination ≡ dst
  pub answers : AnswersWith (segments_for net.segments src dst net.moment) src dst options limit
      one.answer.used one.answer.paths
  pub rules : one.rules ≡ rules_used options one.answer.used

-- the request is answered, and the network has one more answer, of which the reply says the number;
-- or it is refused without a change
abbrev pub Asks : (options : Result (List WeighedRules) EventFault) (src dst limit : ℕ)
    (old : NetValue) (reply : Reply) (new : NetValue) → Type 0
Asks (Ok options) src dst limit old reply new = (one : KeptAnswer)
    × (IsAnswerTo old src dst options limit one × ((reply ≡ Answered (length old.answers))
    × (new ≡ record old { answers = old.answers ++ one ∷ [] })))
Asks (Err fault) src dst limit old reply new = (reply ≡ Refused fault) × (new ≡ old)

-- ---- packets on their way

-- the packet of this number: NoPacket
abbrev pub packet_at : NetValue → ℕ → Result PacketValue EventFault
packet_at net number = ok_or (slice_get net.packets number) faults.NoPacket

-- the packet is at a router: else NotInFlight
abbrev pub is_in_flight : PacketLocation → Result (Unit {0}) EventFault
is_in_flight (places.AtRouter stop) = Ok tt
is_in_flight place = Err faults.NotInFlight

abbrev pub flying_at : NetValue → ℕ → Result PacketValue EventFault
flying_at net number = do
  one ← packet_at net number
  _ ← is_in_flight one.packet.place
  Ok one

-- the network with the packet of this number replaced
abbrev pub with_packet : NetValue → ℕ → PacketValue → Packet → NetValue
with_packet net number one packet =
    record net { packets = slice_set net.packets number (record one { packet = packet }) }

-- the network after a turn of a packet at the current second
abbrev pub turns : NetValue → ℕ → Made
turns net number = do
  one ← flying_at net number
  let turn = turn_of net.network net.moment one.packet in
      Ok (Turned turn.0, with_packet net number one turn.1)

-- the network after a packet was lost
abbrev pub loses : NetValue → ℕ → Made
loses net number = do
  one ← flying_at net number
  Ok (Done, with_packet net number one (lost_packet one.packet))

-- the network after a byte of a packet was changed by exclusive or: BadOffset
abbrev pub alters : (net : NetValue) (number at change : ℕ) → Made
alters net number at change = do
  one ← flying_at net number
  _ ← check (nat_lt at (length one.packet.bytes)) faults.BadOffset
  Ok (Done, with_packet net number one (altered_packet one.packet at change))

-- ---- sending

-- the reversed header of a delivered packet: else NotDelivered
abbrev pub header_back : Packet → PacketLocation → Result HeaderValue EventFault
header_back packet places.Delivered = do
  read ← or_else faults.NotDelivered (header_in packet.bytes)
  Ok (reversed_header read.0)
header_back packet place = Err faults.NotDelivered

-- the way of a route: NoAnswer if there is no such answer or it has no such path; NoPacket,
-- NotDelivered. The way back of a delivered packet has its source and destination, as its bytes
-- give them, exchanged; its header reversed; its pieces in reverse order and direction; no policy
abbrev pub way_by : NetValue → RouteValue → Result Way EventFault
way_by net (ByAnswer ask path) = do
  answered ← ok_or (slice_get net.answers ask) faults.NoAnswer
  one ← ok_or (slice_get answered.answer.paths path) faults.NoAnswer
  Ok (way_on answered one)
way_by net (ByWay way) = Ok way
way_by net (BackOf number) = do
  one ← packet_at net number
  header ← header_back one.packet one.packet.place
  Ok (way_with (destination_of one.packet.bytes) (source_of one.packet.bytes)
      (turned_pieces one.sent.way.pieces) header no_rules)

-- the shipment by a route with a payload: the way's refusals, PayloadTooLong above 1,024 bytes
abbrev pub shipment_by : NetValue → RouteValue → List ℕ → Result Shipment EventFault
shipment_by net route payload = do
  way ← way_by net route
  _ ← check (nat_le (length payload) 1024) faults.PayloadTooLong
  Ok (record { way = way; payload = payload })

-- the packet of a shipment, at this router of its source
abbrev pub packet_of : Shipment → ℕ → PacketValue
packet_of sent router =
    let bytes = frame_of sent.way.source sent.way.destination sent.way.header sent.payload in
    record { sent = sent; packet = put_at bytes sent.way.source router }

-- the network with the packet of this shipment, at the router that owns the first way out of its
-- walk: the refusal of the topology, then TooMany if there are a million packets already
abbrev pub departs : NetValue → Shipment → Made
departs net sent = do
  router ← refused_as faults.Topology
      (owner_in net.network sent.way.source (first_out (walk_of sent.way.pieces)))
  _ ← check (has_room net.packets) faults.TooMany
  Ok (Sent (length net.packets), record net { packets = net.packets ++ packet_of sent router ∷ [] })

-- ---- each event

-- an event that is done gives its reply and its network; an event that is refused changes nothing
abbrev pub Leads : (made : Made) (old : NetValue) (reply : Reply) (new : NetValue) → Type 0
Leads (Ok made) old reply new = (reply ≡ made.0) × (new ≡ made.1)
Leads (Err fault) old reply new = (reply ≡ Refused fault) × (new ≡ old)

-- if the verifier accepts the path at the current second, the event is answered as `departs` says;
-- else it is refused by the verifier's fault
abbrev pub Sends : Result Shipment EventFault → (old : NetValue) → Reply → (new : NetValue) → Type 0
Sends (Ok sent) old reply new =
    (IsAccepted (asked_at old.moment sent.way) × Leads (departs old sent) old reply new)
    ⊎ ((fault : VerifyFault) × (IsRefused (asked_at old.moment sent.way) fault
    × ((reply ≡ Refused (faults.Path fault)) × (new ≡ old))))
Sends (Err fault) old reply new = (reply ≡ Refused fault) × (new ≡ old)

-- one event, from the network before it to its reply and the network after it
abbrev pub Step : (old : NetValue) (event : EventValue) (reply : Reply) (new : NetValue) → Type 0
Step old (Tick to) reply new = Leads (ticks old to) old reply new
Step old (Originate ia egress beta) reply new = Leads (originates old ia egress beta) old reply new
Step old (Extend beacon ia egress) reply new = Leads (extends old beacon ia egress) old reply new
Step old (Terminate beacon ia) reply new = Leads (terminates old beacon ia) old reply new
Step old Sweep reply new = Leads (sweeps old) old reply new
Step old (Ask src dst read limit) reply new =
    Asks (options_asked old src dst read limit) src dst limit old reply new
Step old (Send route payload) reply new = Sends (shipment_by old route payload) old reply new
Step old (Turn packet) reply new = Leads (turns old packet) old reply new
Step old (Lose packet) reply new = Leads (loses old packet) old reply new
Step old (Alter packet at change) reply new = Leads (alters old packet at change) old reply new
Step old (CutLink ia interface) reply new =
    Leads (with_network old (set_up false ia interface old.network)) old reply new
Step old (MendLink ia interface) reply new =
    Leads (with_network old (set_up true ia interface old.network)) old reply new
Step old (RotateKey ia key) reply new =
    Leads (with_network old (with_rotated_key ia key old.network)) old reply new

-- the verifier accepts the path, and the packet departs
abbrev pub Departs : NetValue → Result Shipment EventFault → Type 0
Departs net (Ok sent) = IsAccepted (asked_at net.moment sent.way) × IsOk (departs net sent)
Departs net (Err fault) = ⊥

-- when memory may run out: the event makes a beacon, an answer or a packet and is not refused, or
-- it makes a segment, which the store may still refuse
abbrev pub TakesMemory : NetValue → EventValue → Type 0
TakesMemory net (Tick to) = ⊥
TakesMemory net (Originate ia egress beta0) = IsOk (originates net ia egress beta0)
TakesMemory net (Extend beacon ia egress) = IsOk (extends net beacon ia egress)
TakesMemory net (Terminate beacon ia) = IsOk (new_segment net beacon ia)
TakesMemory net Sweep = ⊥
TakesMemory net (Ask src dst read limit) = IsOk (options_asked net src dst read limit)
TakesMemory net (Send route payload) = Departs net (shipment_by net route payload)
TakesMemory net (Turn packet) = ⊥
TakesMemory net (Lose packet) = ⊥
TakesMemory net (Alter packet at change) = ⊥
TakesMemory net (CutLink ia interface) = ⊥
TakesMemory net (MendLink ia interface) = ⊥
TakesMemory net (RotateKey ia key) = ⊥
