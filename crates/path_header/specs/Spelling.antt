-- The one encoding of each path header: draft-dekater-scion-dataplane, the SCION path type.
use Rattle.std.specs.Prelude.{◌≡◌, ℕ, ◌+◌, ◌*◌, ◌^◌, ◌<◌, List, ◌∷◌, ◌++◌, length, slice_index, if◌then◌else◌}
use Rattle.std.specs.Int.{w16, w32, to_be_bytes}
use Rattle.std.specs.List.{flat_map, AllByRecursion}
use Rattle.path_header.specs.declared.meta.Meta.{Meta}
use Rattle.path_header.specs.declared.fields.InfoField.{InfoField}
use Rattle.path_header.specs.declared.fields.HopField.{HopField}
use Rattle.path_header.specs.Value.{HeaderValue, IsHeader}

-- the meta field of a header: both indices and the lengths
abbrev pub meta_of : HeaderValue → Meta
meta_of v = record { curr_inf = v.curr_inf; curr_hf = v.curr_hf; lens = v.lens }

-- the meta field as a number of 32 bits: indices of 2 and 6 bits, 6 zero bits, three lengths of 6
-- bits
abbrev pub meta_word : Meta → ℕ
meta_word m = m.curr_inf * 2 ^ 30 + m.curr_hf * 2 ^ 24 + m.lens.first * 2 ^ 12
    + m.lens.second * 2 ^ 6 + m.lens.third

-- an info field: the flag C, a zero byte, the accumulator, the timestamp
abbrev pub info_spelling : InfoField → List ℕ
info_spelling x = (if x.construction then 1 else 0) ∷ 0
    ∷ (to_be_bytes w16 x.seg_id ++ to_be_bytes w32 x.timestamp)

-- a hop field: a zero byte, the expiry, the two interfaces, the authenticator
abbrev pub hop_spelling : HopField → List ℕ
hop_spelling x = 0 ∷ x.exp_time
    ∷ (to_be_bytes w16 x.cons_ingress ++ (to_be_bytes w16 x.cons_egress ++ x.mac))

-- a header: the meta field, the info fields, the hop fields
abbrev pub spelling : HeaderValue → List ℕ
spelling v = to_be_bytes w32 (meta_word (meta_of v))
    ++ (flat_map info_spelling v.infos ++ flat_map hop_spelling v.hops)

-- the numbers of an info field fit into their bits
pub record InfoFits (x : InfoField) : Type 0 where
  pub seg_id : x.seg_id < 2 ^ 16
  pub timestamp : x.timestamp < 2 ^ 32

-- the numbers of a hop field fit into their bits, and the authenticator has six bytes
pub record HopFits (x : HopField) : Type 0 where
  pub exp_time : x.exp_time < 256
  pub cons_ingress : x.cons_ingress < 2 ^ 16
  pub cons_egress : x.cons_egress < 2 ^ 16
  pub mac_len : length x.mac ≡ 6
  pub mac : (i : ℕ) → slice_index x.mac i < 256

-- the numbers of all fields fit into their bits
pub record FitsBits (v : HeaderValue) : Type 0 where
  pub infos : AllByRecursion InfoFits v.infos
  pub hops : AllByRecursion HopFits v.hops

-- the grammar: the bytes are the encoding of this header, and nothing follows
pub record SpellsHeader (bytes : List ℕ) (v : HeaderValue) : Type 0 where
  pub is_header : IsHeader v
  pub fits : FitsBits v
  pub spelled : bytes ≡ spelling v
