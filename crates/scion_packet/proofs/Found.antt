-- What is read of a whole packet spells it.
use Rattle.std.proofs.Common.{◌≡◌, ℕ, zero, suc, ◌+◌, ◌-◌, ◌*◌, ◌/◌, ◌%◌, ◌^◌, ◌<◌, ◌≤◌, List, [], ◌∷◌, ◌++◌, length, get_or, take, drop, refl, sym, ◌∙◌, ap, subst, arith, append_assoc, length-drop}
use Rattle.std.specs.Prelude.{slice_index}
use Rattle.std.specs.Int.{w16, w32, w64, from_be_bytes, to_be_bytes}
use Rattle.std.proofs.lemmas.List.{drop-drop, take-append-drop, length-take-le}
use Rattle.std.proofs.lemmas.Nat.{be_bytes_8}
use Rattle.path_header.specs.Value.{HeaderValue, header_len}
use Rattle.path_header.specs.Reading.{word_at}
use Rattle.path_header.specs.Spelling.{SpellsHeader, spelling}
use Rattle.path_header.proofs.Answered.{AreBytes, AreBytes-drop}
use Rattle.path_header.proofs.OneField.{two, four}
use Rattle.scion_packet.specs.Value.{HostAddressValue, IsHostAddress, WholePacketValue, headers_len}
use Rattle.scion_packet.specs.Spelling.{host_bits, FitsInfo, FitsPacket, SpellsPacket}
use Rattle.scion_packet.specs.Layout.{destination_host_len, source_host_len, path_place, announced_len, announced_payload}
use Rattle.scion_packet.specs.Reading.{whole_packet_with}

-- what the checks of a packet found
pub record IsChecked (packet : List ℕ) (header : HeaderValue) : Type 0 where
  pub bytes : AreBytes packet
  pub version : slice_index packet 0 < 16
  pub path_type : slice_index packet 8 ≡ 1
  pub within : path_place packet + header_len header ≤ length packet
  pub headers : announced_len packet ≡ path_place packet + header_len header
  pub rest : path_place packet + header_len header + announced_payload packet ≡ length packet
  pub spells : SpellsHeader (take (header_len header) (drop (path_place packet) packet)) header

twelve : (p : List ℕ) → 12 ≤ length p
    → p ≡ get_or p 0 0 ∷ get_or p 1 0 ∷ get_or p 2 0 ∷ get_or p 3 0 ∷ get_or p 4 0 ∷ get_or p 5 0
    ∷ get_or p 6 0 ∷ get_or p 7 0 ∷ get_or p 8 0 ∷ get_or p 9 0 ∷ get_or p 10 0 ∷ get_or p 11 0
    ∷ drop 12 p
twelve (a ∷ b ∷ c ∷ d ∷ e ∷ f ∷ g ∷ h ∷ i ∷ j ∷ k ∷ l ∷ rest) le = refl
twelve _ le = absurd (omega arith)

small_8 : (bs : List ℕ) → length bs ≡ 8 → AreBytes bs → from_be_bytes w64 bs < 2 ^ 64
small_8 (a ∷ b ∷ c ∷ d ∷ e ∷ f ∷ g ∷ h ∷ []) len fits =
    omega (arith, fits 0, fits 1, fits 2, fits 3, fits 4, fits 5, fits 6, fits 7)
small_8 _ len fits = absurd (omega arith)

AreBytes-take : (n : ℕ) (bs : List ℕ) → AreBytes bs → AreBytes (take n bs)
AreBytes-take zero bs fits i = omega arith
AreBytes-take (suc n) [] fits i = omega arith
AreBytes-take (suc n) (b ∷ bs) fits zero = fits 0
AreBytes-take (suc n) (b ∷ bs) fits (suc i) = AreBytes-take n bs (λ k. fits (suc k)) i

word_small : (p : List ℕ) → AreBytes p → get_or p 0 0 < 16 → word_at p < 2 ^ 28
word_small p fits version = omega (arith, version, fits 1, fits 2, fits 3)

payload_small : (p : List ℕ) → AreBytes p → announced_payload p < 2 ^ 16
payload_small p fits = omega (arith, fits 6, fits 7)

types_again : (b : ℕ) → b < 256
    → b ≡ 16 * (4 * (b / 64) + ((4 + 4 * (b / 16 % 4)) / 4 - 1)) +
    (4 * (b / 4 % 4) + ((4 + 4 * (b % 4)) / 4 - 1))
types_again b small = omega arith

host_is : (kind n : ℕ) (bs : List ℕ) → kind < 4 → n < 4 → length bs ≡ 4 + 4 * n
    → (let h : HostAddressValue = record { kind = kind; bytes = bs } in IsHostAddress h)
host_is kind n bs lk ln len =
    record {
      kind = lk;
      least = omega (arith, len);
      most = omega (arith, len, ln);
      words =
          omega (arith, len);
    }

module _ (p : List ℕ) (header : HeaderValue) (c : IsChecked p header) where
  abbrev v : WholePacketValue
  v = whole_packet_with p header

  d_bytes : length v.info.destination_host.bytes ≡ destination_host_len p
  d_bytes =
      length-take-le (destination_host_len p) (drop 28 p)
      (omega (arith, c.within, length-drop 28 p))

  s_bytes : length v.info.source_host.bytes ≡ source_host_len p
  s_bytes =
      length-take-le (source_host_len p) (drop (28 + destination_host_len p) p)
      (omega (arith, c.within, length-drop (28 + destination_host_len p) p))

  eight_at : (n : ℕ) → n ≤ 20 → length (take 8 (drop n p)) ≡ 8
  eight_at n le = length-take-le 8 (drop n p) (omega (arith, c.within, le, length-drop n p))

  number_at : (n : ℕ) → n ≤ 20
      → to_be_bytes w64 (from_be_bytes w64 (take 8 (drop n p))) ≡ take 8 (drop n p)
  number_at n le =
      be_bytes_8 (take 8 (drop n p)) _ (eight_at n le)
      (AreBytes-take 8 (drop n p) (AreBytes-drop n p c.bytes)) refl

  payload_len : length v.payload ≡ announced_payload p
  payload_len = omega (arith, c.rest, length-drop (path_place p + header_len header) p)

  fits_info : FitsInfo v.info
  fits_info = record {
    traffic_class = omega (arith, word_small p c.bytes c.version);
    flow_id = omega arith;
    next_header = c.bytes 4;
    reserved = omega (arith, c.bytes 10, c.bytes 11);
    destination_host =
        host_is _ (slice_index p 9 / 16 % 4) _ (omega (arith, c.bytes 9)) (omega arith) d_bytes;
    source_host = host_is _ (slice_index p 9 % 4) _ (omega arith) (omega arith) s_bytes;
  }

  fits_packet : FitsPacket v
  fits_packet = record {
    info = fits_info;
    destination =
        small_8 (take 8 (drop 12 p)) (eight_at 12 (omega arith))
        (AreBytes-take 8 (drop 12 p) (AreBytes-drop 12 p c.bytes));
    source = small_8 (take 8 (drop 20 p)) (eight_at 20 (omega arith))
        (AreBytes-take 8 (drop 20 p) (AreBytes-drop 20 p c.bytes));
    payload = subst (λ n. n < 2 ^ 16) (sym payload_len) (payload_small p c.bytes);
    is_header = c.spells.is_header;
    header_fits = c.spells.fits;
  }

  -- what stands behind a place, cut after n bytes
  cut : (n m : ℕ) → drop m p ≡ take n (drop m p) ++ drop (m + n) p
  cut n m =
      sym (take-append-drop n (drop m p))
      ∙ ap (λ (t : List ℕ). take n (drop m p) ++ t) (drop-drop n m p)

  behind_addresses : drop 28 p ≡ v.info.destination_host.bytes
      ++ (v.info.source_host.bytes ++ (spelling header ++ v.payload))
  behind_addresses =
      cut (destination_host_len p) 28
      ∙ ap (λ (t : List ℕ). v.info.destination_host.bytes ++ t)
      (cut (source_host_len p) (28 + destination_host_len p)
      ∙ ap (λ (t : List ℕ). v.info.source_host.bytes ++ t) (cut (header_len header) (path_place p)
      ∙ ap (λ (t : List ℕ). t ++ v.payload) c.spells.spelled))

  behind_common : drop 12 p ≡ to_be_bytes w64 v.destination
      ++ (to_be_bytes w64 v.source ++ drop 28 p)
  behind_common =
      cut 8 12 ∙ ap (λ (t : List ℕ). t ++ drop 20 p) (sym (number_at 12 (omega arith)))
      ∙ ap (λ (t : List ℕ). to_be_bytes w64 v.destination ++ t)
      (cut 8 20 ∙ ap (λ (t : List ℕ). t ++ drop 28 p) (sym (number_at 20 (omega arith))))

  word_again : to_be_bytes w32 (v.info.traffic_class * 2 ^ 20 + v.info.flow_id)
      ≡ get_or p 0 0 ∷ get_or p 1 0 ∷ get_or p 2 0 ∷ get_or p 3 0 ∷ []
  word_again =
      let whole : word_at p / 2 ^ 20 * 2 ^ 20 + word_at p % 2 ^ 20 ≡ word_at p = omega arith in
      ap (to_be_bytes w32) whole ∙ four p 0 1 2 3 c.bytes

  units_again : headers_len v / 4 ≡ get_or p 5 0
  units_again = omega (arith, c.headers, d_bytes, s_bytes)

  types_are : 16 * host_bits v.info.destination_host + host_bits v.info.source_host ≡ get_or p 9 0
  types_are =
      ap (λ n. 16 *
      (4 * (slice_index p 9 / 64) + (n / 4 - 1)) + host_bits v.info.source_host) d_bytes
      ∙ ap (λ n. 16 * (4 * (slice_index p 9 / 64) + (destination_host_len p / 4 - 1)) +
      (4 * (slice_index p 9 / 4 % 4) + (n / 4 - 1))) s_bytes
      ∙ sym (types_again (slice_index p 9) (c.bytes 9))

  payload_again : to_be_bytes w16 (length v.payload) ≡ get_or p 6 0 ∷ get_or p 7 0 ∷ []
  payload_again = ap (to_be_bytes w16) payload_len ∙ two p 6 7 c.bytes

  reserved_again : to_be_bytes w16 v.info.reserved ≡ get_or p 10 0 ∷ get_or p 11 0 ∷ []
  reserved_again = two p 10 11 c.bytes

flat : (A B C D S d s tail : List ℕ) (x y z t : ℕ)
    → (A ++ (x ∷ y ∷ (B ++ (z ∷ t ∷ (C ++ (D ++ (S ++ (d ++ s)))))))) ++ tail ≡ A
    ++ (x ∷ y ∷ (B ++ (z ∷ t ∷ (C ++ (D ++ (S ++ (d ++ (s ++ tail))))))))
flat A B C D S d s tail x y z t = simp append_assoc refl

-- the cells of the common header, from its parts
cells : (A B C r : List ℕ) (a b c d x y e f z t g h : ℕ) (y' z' t' : ℕ) → A ≡ a ∷ b ∷ c ∷ d ∷ []
    → B ≡ e ∷ f ∷ [] → C ≡ g ∷ h ∷ [] → y' ≡ y → z ≡ z' → t' ≡ t
    → a ∷ b ∷ c ∷ d ∷ x ∷ y ∷ e ∷ f ∷ z ∷ t ∷ g ∷ h ∷ r ≡ A
    ++ (x ∷ y' ∷ (B ++ (z' ∷ t' ∷ (C ++ r))))
cells A B C r a b c d x y e f z t g h y' z' t' ea eb ec ey ez et =
    rw (ea, eb, ec, ey, ← ez, et) refl

pub found : (p : List ℕ) (header : HeaderValue) → IsChecked p header
    → SpellsPacket p (whole_packet_with p header)
found p header c =
    let v : WholePacketValue = whole_packet_with p header in
    let rest : List ℕ = spelling header ++ v.payload in
    let behind : drop 12 p ≡ to_be_bytes w64 v.destination
    ++ (to_be_bytes w64 v.source
    ++ (v.info.destination_host.bytes ++ (v.info.source_host.bytes ++ rest))) =
    behind_common p header c
    ∙ ap (λ (t : List ℕ). to_be_bytes w64 v.destination ++ (to_be_bytes w64 v.source ++ t))
    (behind_addresses p header c) in
    record {
      fits = fits_packet p header c;
      spelled = twelve p (omega (arith, c.within))
          ∙ cells (to_be_bytes w32 (v.info.traffic_class * 2 ^ 20 + v.info.flow_id))
          (to_be_bytes w16 (length v.payload)) (to_be_bytes w16 v.info.reserved) (drop 12 p)
          _ _ _ _ _ _ _ _ _ _ _ _ (headers_len v / 4) 1
          (16 * host_bits v.info.destination_host + host_bits v.info.source_host)
          (word_again p header c) (payload_again p header c) (reserved_again p header c)
          (units_again p header c) c.path_type (types_are p header c)
          ∙ ap (λ (t : List ℕ). to_be_bytes w32 (v.info.traffic_class * 2 ^ 20 + v.info.flow_id)
          ++ (v.info.next_header ∷ headers_len v / 4 ∷
          (to_be_bytes w16 (length v.payload)
          ++ (1 ∷ (16 * host_bits v.info.destination_host + host_bits v.info.source_host) ∷
          (to_be_bytes w16 v.info.reserved ++ t))))) behind
          ∙ sym (flat (to_be_bytes w32 (v.info.traffic_class * 2 ^ 20 + v.info.flow_id))
          (to_be_bytes w16 (length v.payload)) (to_be_bytes w16 v.info.reserved)
          (to_be_bytes w64 v.destination)
          (to_be_bytes w64 v.source) v.info.destination_host.bytes v.info.source_host.bytes rest
          v.info.next_header (headers_len v / 4) 1
          (16 * host_bits v.info.destination_host + host_bits v.info.source_host));
    }
