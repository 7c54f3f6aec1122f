-- Reading a path header from left to right, up to the first refusal: the layout of
-- draft-dekater-scion-dataplane, the SCION path type.
use Rattle.std.specs.Prelude.{ℕ, zero, suc, ◌+◌, ◌*◌, ◌/◌, ◌%◌, ◌^◌, List, [], ◌∷◌, length, drop, slice_index, nat_lt, ◌==◌, ◌&&◌, ◌||◌, bit_and, if◌then◌else◌, Result, Ok, Err}
use Rattle.std.specs.Int.{w16, w32, from_be_bytes}
use Rattle.refusal.specs.Refusal.{◌>>=◌}
use Rattle.path_header.specs.declared.fault.HeaderFault.{HeaderFault}
use Rattle.path_header.specs.declared.fault.HeaderFault.TheVariants.{Short, Reserved, PeerFlag, AlertFlag, BadIndex}
use Rattle.path_header.specs.declared.meta.Meta.{Meta}
use Rattle.path_header.specs.declared.fields.InfoField.{InfoField}
use Rattle.path_header.specs.declared.fields.HopField.{HopField}
use Rattle.path_header.specs.Value.{HeaderValue, info_count, hop_count, len_for}
use Rattle.path_header.specs.Building.{checked_lens, first_header}

-- the number in the first four bytes, big-endian
abbrev pub word_at : List ℕ → ℕ
word_at bytes = from_be_bytes w32
    (slice_index bytes 0 ∷ slice_index bytes 1 ∷ slice_index bytes 2 ∷ slice_index bytes 3 ∷ [])

-- the six reserved bits of the meta field
abbrev pub reserved_bits : ℕ → ℕ
reserved_bits n = n / 2 ^ 18 % 64

-- the meta field as its number of 32 bits encodes it
abbrev pub meta_from : ℕ → Meta
meta_from n = record {
  curr_inf = n / 2 ^ 30;
  curr_hf = n / 2 ^ 24 % 64;
  lens = record { first = n / 2 ^ 12 % 64; second = n / 2 ^ 6 % 64; third = n % 64 };
}

-- the meta field if its lengths are those of a path and the bytes are long enough for all fields
abbrev pub checked_meta : List ℕ → Meta → Result Meta HeaderFault
checked_meta bytes m = do
  lens ← checked_lens m.lens
  if nat_lt (length bytes) (len_for lens) then Err Short else Ok m

-- the meta field at the front: Short, then Reserved, then the refusals of `checked_meta`
unfoldable pub meta_at : List ℕ → Result Meta HeaderFault
meta_at bytes = if nat_lt (length bytes) 4 then Err Short
    else if nat_lt 0 (reserved_bits (word_at bytes)) then Err Reserved
    else checked_meta bytes (meta_from (word_at bytes))

-- the values in the info field at the front, without checks
abbrev pub info_from : List ℕ → InfoField
info_from bytes = record {
  construction = slice_index bytes 0 == 1;
  seg_id = from_be_bytes w16 (slice_index bytes 2 ∷ slice_index bytes 3 ∷ []);
  timestamp = from_be_bytes w32
      (slice_index bytes 4 ∷ slice_index bytes 5 ∷ slice_index bytes 6 ∷ slice_index bytes 7 ∷ []);
}

-- the info field at the front: PeerFlag if the flag P is set, Reserved if any bit but the flag C is
-- set in its first two bytes
unfoldable pub info_at : List ℕ → Result InfoField HeaderFault
info_at bytes = if nat_lt 0 (bit_and (slice_index bytes 0) 2) then Err PeerFlag
    else if nat_lt 1 (slice_index bytes 0) || nat_lt 0 (slice_index bytes 1) then Err Reserved
    else Ok (info_from bytes)

-- the values in the hop field at the front, without checks
abbrev pub hop_from : List ℕ → HopField
hop_from bytes = record {
  exp_time = slice_index bytes 1;
  cons_ingress = from_be_bytes w16 (slice_index bytes 2 ∷ slice_index bytes 3 ∷ []);
  cons_egress = from_be_bytes w16 (slice_index bytes 4 ∷ slice_index bytes 5 ∷ []);
  mac = slice_index bytes 6 ∷ slice_index bytes 7 ∷ slice_index bytes 8 ∷ slice_index bytes 9
      ∷ slice_index bytes 10 ∷ slice_index bytes 11 ∷ [];
}

-- the hop field at the front: AlertFlag if a router alert is set, Reserved if another bit is
unfoldable pub hop_at : List ℕ → Result HopField HeaderFault
hop_at bytes = if nat_lt 0 (bit_and (slice_index bytes 0) 3) then Err AlertFlag
    else if nat_lt 0 (slice_index bytes 0) then Err Reserved else Ok (hop_from bytes)

-- this many fields of this width, one after another
unfoldable pub fields_at : {A : Type 0} → (one : (List ℕ → Result A HeaderFault)) (width count : ℕ)
    (bytes : List ℕ) → Result (List A) HeaderFault
fields_at one width zero bytes = Ok []
fields_at one width (suc n) bytes = do
  x ← one bytes
  xs ← fields_at one width n (drop width bytes)
  Ok (x ∷ xs)

-- the header at the front: the meta field, the info fields, the hop fields, and last the check of
-- both indices
unfoldable pub header_at : List ℕ → Result HeaderValue HeaderFault
header_at bytes = do
  m ← meta_at bytes
  infos ← fields_at info_at 8 (info_count m.lens) (drop 4 bytes)
  hops ← fields_at hop_at 12 (hop_count m.lens) (drop (4 + 8 * info_count m.lens) bytes)
  if nat_lt m.curr_inf (info_count m.lens) && nat_lt m.curr_hf (hop_count m.lens) then
      Ok (record (first_header m.lens infos hops) { curr_inf = m.curr_inf; curr_hf = m.curr_hf })
      else Err BadIndex

-- the header at the front, and its length in bytes
abbrev pub read_at : List ℕ → Result (HeaderValue × ℕ) HeaderFault
read_at bytes = do
  v ← header_at bytes
  Ok (v, len_for v.lens)
