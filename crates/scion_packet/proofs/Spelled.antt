-- What spells a whole packet is read as it.
use Rattle.std.proofs.Common.{◌≡◌, ℕ, ◌+◌, ◌-◌, ◌*◌, ◌/◌, ◌%◌, ◌^◌, ◌<◌, ◌≤◌, List, ◌++◌, Ok, length, take, drop, refl, sym, ◌∙◌, ap, arith, append_assoc, length-append}
use Rattle.std.specs.Prelude.{slice_index}
use Rattle.std.specs.Int.{w32, to_be_bytes}
use Rattle.std.proofs.Math.Seq.{take-append_seam, drop-append_seam}
use Rattle.std.proofs.lemmas.List.{drop-drop}
use Rattle.std.proofs.lemmas.Nat.{from_be_bytes-to_be_bytes_2, from_be_bytes-to_be_bytes_4, from_be_bytes-to_be_bytes_8}
use Rattle.path_header.specs.Value.{header_len}
use Rattle.path_header.specs.Reading.{word_at}
use Rattle.path_header.specs.Spelling.{spelling}
use Rattle.path_header.proofs.WholeHeader.{spelling_spells, length-spelling}
use Rattle.scion_packet.specs.Value.{HostAddressValue, PacketInfoValue, WholePacketValue}
use Rattle.scion_packet.specs.Spelling.{front_of, packet_spelling, FitsPacket, SpellsPacket}
use Rattle.scion_packet.specs.Layout.{path_place}
use Rattle.scion_packet.specs.Reading.{path_header_in, packet_info_in, whole_packet_at}
use Rattle.scion_packet.specs.Parts.{HasParts}
use Rattle.scion_packet.proofs.InParts.{read_whole}
use Rattle.scion_packet.proofs.ReadWhole.{packet_like, read_as}

-- ---- numbers

-- the number of a length in two bits
abbrev code : ℕ → ℕ
code len = len / 4 - 1

coded : (len : ℕ) → 4 ≤ len → len ≤ 16 → len % 4 ≡ 0 → (4 + 4 * code len ≡ len) × (code len < 4)
coded len least most words = (omega arith, omega arith)

destination_code : (kd cd ks cs : ℕ) → cd < 4 → ks < 4 → cs < 4
    → (16 * (4 * kd + cd) + (4 * ks + cs)) / 16 % 4 ≡ cd
destination_code kd cd ks cs ld lk ls = omega arith

source_code : (kd cd ks cs : ℕ) → cs < 4 → (16 * (4 * kd + cd) + (4 * ks + cs)) % 4 ≡ cs
source_code kd cd ks cs ls = omega arith

destination_kind : (kd cd ks cs : ℕ) → cd < 4 → ks < 4 → cs < 4
    → (16 * (4 * kd + cd) + (4 * ks + cs)) / 64 ≡ kd
destination_kind kd cd ks cs ld lk ls = omega arith

source_kind : (kd cd ks cs : ℕ) → ks < 4 → cs < 4
    → (16 * (4 * kd + cd) + (4 * ks + cs)) / 4 % 4 ≡ ks
source_kind kd cd ks cs lk ls = omega arith

first_byte : (n : ℕ) → n < 2 ^ 28 → slice_index (to_be_bytes w32 n) 0 < 16
first_byte n small = omega (arith, from_be_bytes-to_be_bytes_4 n (omega (arith, small)))

-- ---- its parts

pub front_is : (v : WholePacketValue)
    → length (front_of v)
    ≡ 28 + length v.info.destination_host.bytes + length v.info.source_host.bytes
front_is v = omega (arith, length-append v.info.destination_host.bytes v.info.source_host.bytes)

in_fours : (ld ls i h : ℕ) → ld % 4 ≡ 0 → ls % 4 ≡ 0
    → 4 * ((28 + ld + ls + (4 + 8 * i + 12 * h)) / 4) ≡ 28 + ld + ls + (4 + 8 * i + 12 * h)
in_fours ld ls i h ed es = omega arith

pub whole_of : (v : WholePacketValue) (bytes : List ℕ) → SpellsPacket bytes v
    → HasParts bytes (front_of v) (spelling v.header) v.payload v.header
whole_of v bytes s =
    let f = s.fits in
    let d = v.info.destination_host in
    let e = v.info.source_host in
    let dh = f.info.destination_host in
    let sh = f.info.source_host in
    let cd = coded (length d.bytes) dh.least dh.most dh.words in
    let cs = coded (length e.bytes) sh.least sh.most sh.words in
    let len = front_is v in
    let at_d =
    destination_code d.kind (code (length d.bytes)) e.kind
    (code (length e.bytes)) cd.1 sh.kind cs.1 in
    let at_s = source_code d.kind (code (length d.bytes)) e.kind (code (length e.bytes)) cs.1 in
    record {
      whole = s.spelled;
      spells = spelling_spells v.header f.is_header f.header_fits;
      version =
          first_byte (v.info.traffic_class * 2 ^ 20 + v.info.flow_id)
          (omega (arith, f.info.traffic_class, f.info.flow_id));
      path_type = refl;
      addresses = omega (arith, len, at_d, at_s, cd.0, cs.0);
      headers_announced =
          in_fours (length d.bytes) (length e.bytes) _ _ dh.words sh.words
          ∙ ap (λ n. n + header_len v.header) (sym len);
      payload_announced = from_be_bytes-to_be_bytes_2 (length v.payload) f.payload;
    }

-- ---- it is read

split_word : (c f : ℕ) → c < 2 ^ 8 → f < 2 ^ 20
    → ((c * 2 ^ 20 + f) / 2 ^ 20 ≡ c) × ((c * 2 ^ 20 + f) % 2 ^ 20 ≡ f)
split_word c f lc lf = (omega arith, omega arith)

host_like : (k k' : ℕ) (b b' : List ℕ) → k ≡ k' → b ≡ b'
    → (let x : HostAddressValue = record { kind = k; bytes = b } in let y : HostAddressValue =
    record { kind = k'; bytes = b' } in x ≡ y)
host_like k k' b b' ek eb = cc

info_like : (t t' f f' n n' r r' : ℕ) (d d' s s' : HostAddressValue) → t ≡ t' → f ≡ f' → n ≡ n'
    → r ≡ r' → d ≡ d' → s ≡ s'
    → (let x : PacketInfoValue =
    record {
      traffic_class = t;
      flow_id = f;
      next_header = n;
      reserved = r;
      destination_host = d;
      source_host = s;
    } in
    let y : PacketInfoValue =
    record {
      traffic_class = t';
      flow_id = f';
      next_header = n';
      reserved = r';
      destination_host = d';
      source_host = s';
    } in x ≡ y)
info_like t t' f f' n n' r r' d d' s s' et ef en er ed es = cc

front_part : (xs ys : List ℕ) (n : ℕ) → n ≡ length xs → take n (xs ++ ys) ≡ xs
front_part xs ys n is = rw is (take-append_seam xs ys)

back_part : (xs ys : List ℕ) (n : ℕ) → n ≡ length xs → drop n (xs ++ ys) ≡ ys
back_part xs ys n is = rw is (drop-append_seam xs ys)

info_again : (v : WholePacketValue) → FitsPacket v → packet_info_in (packet_spelling v) ≡ v.info
info_again v f =
    let packet = packet_spelling v in
    let d = v.info.destination_host in
    let e = v.info.source_host in
    let dh = f.info.destination_host in
    let sh = f.info.source_host in
    let cd = coded (length d.bytes) dh.least dh.most dh.words in
    let cs = coded (length e.bytes) sh.least sh.most sh.words in
    let kd = d.kind in
    let ks = e.kind in
    let at_d =
    destination_code kd (code (length d.bytes)) ks (code (length e.bytes)) cd.1 sh.kind cs.1 in
    let at_s = source_code kd (code (length d.bytes)) ks (code (length e.bytes)) cs.1 in
    let n = v.info.traffic_class * 2 ^ 20 + v.info.flow_id in
    let word : word_at packet ≡ n =
    from_be_bytes-to_be_bytes_4 n (omega (arith, f.info.traffic_class, f.info.flow_id)) in
    let parts =
    split_word v.info.traffic_class v.info.flow_id f.info.traffic_class f.info.flow_id in
    let rest = spelling v.header ++ v.payload in
    let behind : drop 28 packet ≡ d.bytes ++ (e.bytes ++ rest) =
    append_assoc d.bytes e.bytes rest in
    let d_len : 4 + 4 * (slice_index packet 9 / 16 % 4) ≡ length d.bytes =
    ap (λ k. 4 + 4 * k) at_d ∙ cd.0 in
    let s_len : 4 + 4 * (slice_index packet 9 % 4) ≡ length e.bytes =
    ap (λ k. 4 + 4 * k) at_s ∙ cs.0 in
    let further : drop (28 + (4 + 4 * (slice_index packet 9 / 16 % 4))) packet ≡ e.bytes ++ rest =
    sym (drop-drop (4 + 4 * (slice_index packet 9 / 16 % 4)) 28 packet)
    ∙ ap (drop (4 + 4 * (slice_index packet 9 / 16 % 4))) behind
    ∙ back_part d.bytes (e.bytes ++ rest) _ d_len in
    info_like _ _ _ _ _ _ _ _ _ _ _ _
    (ap (λ k. k / 2 ^ 20) word ∙ parts.0)
    (ap (λ k. k % 2 ^ 20) word ∙ parts.1)
    refl
    (from_be_bytes-to_be_bytes_2 v.info.reserved f.info.reserved)
    (host_like _ _ _ _
    (destination_kind kd (code (length d.bytes)) ks (code (length e.bytes)) cd.1 sh.kind cs.1)
    (ap (take (4 + 4 * (slice_index packet 9 / 16 % 4))) behind
    ∙ front_part d.bytes (e.bytes ++ rest) _ d_len))
    (host_like _ _ _ _
    (source_kind kd (code (length d.bytes)) ks (code (length e.bytes)) sh.kind cs.1)
    (ap (take (4 + 4 * (slice_index packet 9 % 4))) further ∙ front_part e.bytes rest _ s_len))

payload_again : (v : WholePacketValue)
    → HasParts (packet_spelling v) (front_of v) (spelling v.header) v.payload v.header
    → FitsPacket v → path_place (packet_spelling v) ≡ path_place (front_of v)
    → drop (path_place (packet_spelling v) + header_len v.header) (packet_spelling v) ≡ v.payload
payload_again v w f same =
    let rest = spelling v.header ++ v.payload in
    sym (drop-drop (header_len v.header) (path_place (packet_spelling v)) (packet_spelling v))
    ∙ ap (drop (header_len v.header))
    (back_part (front_of v) rest (path_place (packet_spelling v)) (same ∙ sym w.addresses))
    ∙ back_part (spelling v.header) v.payload (header_len v.header)
    (sym (length-spelling v.header f.is_header f.header_fits))

read_spelling : (v : WholePacketValue) → FitsPacket v
    → whole_packet_at (packet_spelling v) ≡ read_as v
read_spelling v f =
    let w : HasParts (packet_spelling v) (front_of v) (spelling v.header) v.payload v.header =
    whole_of v (packet_spelling v) (record { fits = f; spelled = refl }) in
    let read : path_header_in (packet_spelling v) ≡ Ok v.header =
    read_whole (packet_spelling v) (front_of v) (spelling v.header) v.payload v.header w in
    rw read (ap read_as
    (packet_like _ v.info _ v.destination _ v.source v.header v.header _ v.payload (info_again v f)
    (from_be_bytes-to_be_bytes_8 v.destination f.destination)
    (from_be_bytes-to_be_bytes_8 v.source f.source) refl (payload_again v w f refl)))

pub spelled_is_read : (v : WholePacketValue) (bytes : List ℕ) → SpellsPacket bytes v
    → whole_packet_at bytes ≡ read_as v
spelled_is_read v bytes s = ap whole_packet_at s.spelled ∙ read_spelling v s.fits
