-- What is read of a whole packet, from its parts.
use Rattle.std.proofs.Common.{◌≡◌, ℕ, ◌+◌, List, Result, Ok, Err, take, drop, refl, ap}
use Rattle.std.specs.Int.{w64, from_be_bytes}
use Rattle.path_header.specs.Value.{HeaderValue, header_len}
use Rattle.scion_packet.specs.declared.fault.PacketFault.{PacketFault}
use Rattle.scion_packet.specs.Value.{PacketInfoValue, WholePacketValue}
use Rattle.scion_packet.specs.Layout.{path_place}
use Rattle.scion_packet.specs.Reading.{path_header_in, packet_info_in, whole_packet_with, whole_packet_at}

-- packets whose parts are equal
pub packet_like : (i i' : PacketInfoValue) (d d' s s' : ℕ) (h h' : HeaderValue) (p p' : List ℕ)
    → i ≡ i' → d ≡ d' → s ≡ s' → h ≡ h' → p ≡ p'
    → (let x : WholePacketValue =
    record { info = i; destination = d; source = s; header = h; payload = p } in
    let y : WholePacketValue =
    record { info = i'; destination = d'; source = s'; header = h'; payload = p' } in x ≡ y)
packet_like i i' d d' s s' h h' p p' ei ed es eh ep = cc

-- a packet that was read
abbrev pub read_as : WholePacketValue → Result WholePacketValue PacketFault
read_as v = Ok v

-- a packet has these parts of its bytes
pub record IsRead (packet : List ℕ) (v : WholePacketValue) : Type 0 where
  pub info : v.info ≡ packet_info_in packet
  pub destination : v.destination ≡ from_be_bytes w64 (take 8 (drop 12 packet))
  pub source : v.source ≡ from_be_bytes w64 (take 8 (drop 20 packet))
  pub payload : v.payload ≡ drop (path_place packet + header_len v.header) packet

pub value_is : (packet : List ℕ) (v : WholePacketValue) → IsRead packet v
    → v ≡ whole_packet_with packet v.header
value_is packet v is =
    packet_like v.info _ v.destination _ v.source _ v.header _ v.payload _ is.info is.destination
    is.source refl is.payload

pub read_is : (packet : List ℕ) (v : WholePacketValue) → path_header_in packet ≡ Ok v.header
    → IsRead packet v → read_as v ≡ whole_packet_at packet
read_is packet v read is = rw read (ap read_as (value_is packet v is))

pub not_read : (packet : List ℕ) (fault : PacketFault) → path_header_in packet ≡ Err fault
    → (let r : Result WholePacketValue PacketFault = Err fault in r ≡ whole_packet_at packet)
not_read packet fault e = rw e refl
