-- The fields of a packet, each on a line: its bytes in hexadecimal, and their meaning.
use Rattle.std.specs.Prelude.{ℕ, zero, suc, ◌+◌, ◌*◌, ◌/◌, ◌-◌, codes, nat_lt, if◌then◌else◌, List, [], ◌++◌, length, take, drop, Result, Ok, Err}
use Rattle.std.specs.Fmt.{decimal}
use Rattle.hex.specs.Hex.{encode_lower}
use Rattle.isd_as.specs.Address.{canonical}
use Rattle.hop_mac.specs.Lifetime.{expiry_of}
use Rattle.path_header.specs.declared.lens.SegLens.{SegLens}
use Rattle.path_header.specs.declared.fields.InfoField.{InfoField}
use Rattle.path_header.specs.declared.fields.HopField.{HopField}
use Rattle.path_header.specs.Value.{HeaderValue, segment_at}
use Rattle.router_step.specs.declared.fault.Refusal.{Refusal}
use Rattle.router_step.specs.Place.{info_field_at, current_hop}
use Rattle.router_step.specs.Packet.{destination_of, source_of, header_in}

-- the line of `len` bytes from this place of the packet on, with their meaning
unfoldable pub field_text : (packet : List ℕ) (start len : ℕ) (says : List ℕ) → List ℕ
field_text packet start len says =
    encode_lower (take len (drop start packet)) ++ (codes " " ++ (says ++ codes "\n"))

-- the line of a number in an info or a hop field: `KIND INDEX NAME VALUE`
unfoldable pub number_text : (packet : List ℕ) (start len : ℕ) (kind : List ℕ) (index : ℕ)
    (name : List ℕ) (value : ℕ) → List ℕ
number_text packet start len kind index name value =
    field_text packet start len (kind ++ (codes " " ++ (decimal index ++ (codes " " ++ (name
    ++ (codes " " ++ decimal value))))))

-- ---- addresses and meta field

-- the line of an address, and the lines of both addresses
unfoldable pub address_text : (packet : List ℕ) (start : ℕ) (name : List ℕ) (address : ℕ) → List ℕ
address_text packet start name address =
    field_text packet start 8 (name ++ (codes " " ++ canonical address))

unfoldable pub addresses_text : List ℕ → List ℕ
addresses_text packet =
    address_text packet 0 (codes "destination") (destination_of packet)
    ++ address_text packet 8 (codes "source") (source_of packet)

-- the place of the packet on its path
unfoldable pub indices_text : HeaderValue → List ℕ
indices_text header =
    codes "at info field " ++ (decimal header.curr_inf ++ (codes ", hop field "
    ++ decimal header.curr_hf))

-- the number of hop fields of each segment
unfoldable pub lens_text : SegLens → List ℕ
lens_text lens =
    codes "segments of " ++ (decimal lens.first ++ (codes ", " ++ (decimal lens.second
    ++ (codes " and " ++ (decimal lens.third ++ codes " hop fields")))))

unfoldable pub meta_text : List ℕ → HeaderValue → List ℕ
meta_text packet header =
    field_text packet 16 1 (indices_text header) ++ field_text packet 17 3 (lens_text header.lens)

-- ---- info and hop fields

-- 1 if the segment is travelled in construction direction, else 0
abbrev pub flag_of : InfoField → ℕ
flag_of info = if info.construction then 1 else 0

-- the lines of the info field of this index, at this place of the packet
unfoldable pub info_field_text : (packet : List ℕ) (start index : ℕ) (info : InfoField) → List ℕ
info_field_text packet start index info =
    number_text packet start 2 (codes "info") index (codes "construction direction") (flag_of info)
    ++ (number_text packet (start + 2) 2 (codes "info") index (codes "accumulator") info.seg_id
    ++ number_text packet (start + 4) 4 (codes "info") index (codes "made at second")
    info.timestamp)

-- the last second at which a hop of a segment with this timestamp is live
abbrev pub last_live : ℕ → HopField → ℕ
last_live timestamp hop = expiry_of timestamp hop.exp_time / 2

-- the line of the authenticator in the hop field of this index
unfoldable pub mac_text : (packet : List ℕ) (start index : ℕ) → List ℕ
mac_text packet start index =
    field_text packet start 6 (codes "hop " ++ (decimal index ++ codes " authenticator"))

-- the lines of the hop field of this index, at this place of the packet, on a segment with this
-- timestamp
unfoldable pub hop_field_text : (packet : List ℕ) (start index timestamp : ℕ) (hop : HopField)
    → List ℕ
hop_field_text packet start index timestamp hop =
    number_text packet start 1 (codes "hop") index (codes "flags") 0
    ++ (number_text packet (start + 1) 1 (codes "hop") index (codes "live up to second")
    (last_live timestamp hop)
    ++ (number_text packet (start + 2) 2 (codes "hop") index (codes "construction ingress")
    hop.cons_ingress
    ++ (number_text packet (start + 4) 2 (codes "hop") index (codes "construction egress")
    hop.cons_egress
    ++ mac_text packet (start + 6) index)))

-- the lines of all indices below this one
unfoldable pub each_below : (ℕ → List ℕ) → ℕ → List ℕ
each_below one zero = []
each_below one (suc n) = each_below one n ++ one n

-- the lines of the info field of this index of a header
abbrev pub info_field_text_at : List ℕ → HeaderValue → ℕ → List ℕ
info_field_text_at packet header index =
    info_field_text packet (20 + 8 * index) index (info_field_at header index)

unfoldable pub info_fields_text : List ℕ → HeaderValue → ℕ → List ℕ
info_fields_text packet header count = each_below (info_field_text_at packet header) count

-- the hop field of this index
abbrev pub hop_field : HeaderValue → ℕ → HopField
hop_field header index = current_hop (record header { curr_hf = index })

-- the lines of the hop field of this index of a header
abbrev pub hop_field_text_at : List ℕ → HeaderValue → ℕ → List ℕ
hop_field_text_at packet header index =
    hop_field_text packet (20 + 8 * length header.infos + 12 * index) index
    (info_field_at header (segment_at header.lens index)).timestamp (hop_field header index)

unfoldable pub hop_fields_text : List ℕ → HeaderValue → ℕ → List ℕ
hop_fields_text packet header count = each_below (hop_field_text_at packet header) count

-- ---- the packet

-- the line of the payload, if there is one
unfoldable pub payload_text : List ℕ → ℕ → List ℕ
payload_text packet start =
    if nat_lt start (length packet)
    then field_text packet start (length packet - start) (codes "payload") else []

-- the lines of a path header
abbrev pub header_text : List ℕ → HeaderValue → List ℕ
header_text packet header =
    meta_text packet header ++ (info_fields_text packet header (length header.infos)
    ++ hop_fields_text packet header (length header.hops))

-- the lines after the addresses: of a path header and a payload
unfoldable pub behind_text : List ℕ → Result (HeaderValue × ℕ) Refusal → List ℕ
behind_text packet (Ok front) = header_text packet front.0 ++ payload_text packet (16 + front.1)
behind_text packet (Err refusal) =
    field_text packet 16 (length packet - 16) (codes "no path header")

-- the lines of all fields of a packet
unfoldable pub fields_text : List ℕ → List ℕ
fields_text packet =
    if nat_lt (length packet) 16 then field_text packet 0 (length packet) (codes "no addresses")
    else addresses_text packet ++ behind_text packet (header_in packet)
