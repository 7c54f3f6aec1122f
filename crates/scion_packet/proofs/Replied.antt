-- The reply to a packet takes the packet's room.
use Rattle.std.proofs.Common.{◌≡◌, ℕ, zero, suc, ◌+◌, ◌-◌, ◌<◌, List, ◌++◌, Result, Ok, length, drop, refl, sym, ◌∙◌, ap, subst, arith, append_assoc, length-append}
use Rattle.std.proofs.Math.Seq.{drop-append_seam}
use Rattle.std.proofs.lemmas.Bool.{lt-ltb}
use Rattle.path_header.specs.declared.lens.SegLens.{SegLens}
use Rattle.path_header.specs.Value.{HeaderValue, IsHeader, header_len, len_for}
use Rattle.path_header.specs.Spelling.{spelling}
use Rattle.path_header.specs.Reversal.{reversed_lens, reversed_header}
use Rattle.path_header.proofs.WholeHeader.{length-spelling}
use Rattle.scion_packet.specs.declared.fault.PacketFault.{PacketFault}
use Rattle.scion_packet.specs.Value.{PacketInfoValue, WholePacketValue, headers_len}
use Rattle.scion_packet.specs.Spelling.{front_of, SpellsPacket}
use Rattle.scion_packet.specs.Reading.{whole_packet_at}
use Rattle.scion_packet.specs.Reply.{reply_info, reply_to, IsReplied}
use Rattle.scion_packet.proofs.Spelled.{front_is}
use Rattle.scion_packet.proofs.ReadWhole.{packet_like}

-- ---- the way back is as long as the way

abbrev three : ℕ → ℕ → ℕ → SegLens
three a b c = record { first = a; second = b; third = c }

reversed_three : (a b c : ℕ) → 0 < a → (b ≡ 0 → c ≡ 0)
    → len_for (reversed_lens (three a b c)) ≡ len_for (three a b c)
reversed_three a zero zero some no_gap = rw (lt-ltb 0 a some) refl
reversed_three a zero (suc c) some no_gap =
    let none : suc c ≡ 0 = no_gap refl in absurd (omega arith)
reversed_three a (suc b) zero some no_gap =
    rw (lt-ltb 0 a some, lt-ltb 0 (suc b) (omega arith)) (omega arith)
reversed_three a (suc b) (suc c) some no_gap =
    rw (lt-ltb 0 a some, lt-ltb 0 (suc b) (omega arith), lt-ltb 0 (suc c) (omega arith))
    (omega arith)

reversed_len : (header : HeaderValue) → IsHeader header
    → header_len (reversed_header header) ≡ header_len header
reversed_len header is =
    let lens = header.lens in
    reversed_three lens.first lens.second lens.third is.lens.some is.lens.no_gap

reply_len : (v : WholePacketValue) → IsHeader v.header → headers_len (reply_to v) ≡ headers_len v
reply_len v is = omega (arith, reversed_len v.header is)

-- ---- where the payload begins

headers_are : (v : WholePacketValue) (packet : List ℕ) → SpellsPacket packet v
    → length (front_of v ++ spelling v.header) ≡ headers_len v
headers_are v packet s =
    omega (
      arith,
      length-append (front_of v) (spelling v.header),
      front_is v,
      length-spelling v.header s.fits.is_header s.fits.header_fits,
    )

packet_len_is : (v : WholePacketValue) (packet : List ℕ) → SpellsPacket packet v
    → length packet ≡ headers_len v + length v.payload
packet_len_is v packet s =
    ap length s.spelled
    ∙ omega (
      arith,
      headers_are v packet s,
      length-append (front_of v) (spelling v.header),
      length-append (front_of v) (spelling v.header ++ v.payload),
      length-append (spelling v.header) v.payload,
    )

payload_is : (v : WholePacketValue) (packet : List ℕ) → SpellsPacket packet v
    → drop (length packet - length v.payload) packet ≡ v.payload
payload_is v packet s =
    let headers = front_of v ++ spelling v.header in
    let end : length packet - length v.payload ≡ length headers =
    omega (arith, packet_len_is v packet s, headers_are v packet s) in
    ap (λ n. drop n packet) end
    ∙ ap (drop (length headers))
    (s.spelled ∙ sym (append_assoc (front_of v) (spelling v.header) v.payload))
    ∙ drop-append_seam headers v.payload

-- ---- the reply in place of the packet

-- a packet has the parts of the reply to another
pub record IsReply (v w : WholePacketValue) : Type 0 where
  pub info : w.info ≡ reply_info v.info
  pub header : w.header ≡ reversed_header v.header

pub room_is : (packet headers : List ℕ) (v w : WholePacketValue) → SpellsPacket packet v
    → IsReply v w → length headers ≡ length packet - length v.payload
    → length headers ≡ headers_len w
room_is packet headers v w s is len =
    let room : headers_len w ≡ headers_len (reply_to v) =
    ap (λ (i : PacketInfoValue).
    28 + length i.destination_host.bytes + length i.source_host.bytes + header_len w.header) is.info
    ∙ ap (λ (h : HeaderValue). headers_len (record (reply_to v) { header = h })) is.header in
    omega (arith, len, room, packet_len_is v packet s, reply_len v s.fits.is_header)

pub replied : (packet new : List ℕ) (v w : WholePacketValue) → SpellsPacket packet v → IsReply v w
    → w.destination ≡ v.source → w.source ≡ v.destination
    → w.payload ≡ drop (length packet - length v.payload) packet → SpellsPacket new w
    → SpellsPacket new (reply_to v)
replied packet new v w s is destination source payload spelled =
    subst (SpellsPacket new)
    (packet_like w.info _ w.destination _ w.source _ w.header _ w.payload _ is.info destination
    source is.header (payload ∙ payload_is v packet s)) spelled

pub replied_exactly : (packet new : List ℕ) (v : WholePacketValue)
    → whole_packet_at packet ≡ Ok v → SpellsPacket new (reply_to v)
    → IsReplied (whole_packet_at packet) packet new (Ok tt)
replied_exactly packet new v read spelled =
    subst (λ (r : Result WholePacketValue PacketFault). IsReplied r packet new (Ok tt)) (sym read)
    (refl, spelled)
