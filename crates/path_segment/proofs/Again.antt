-- What is written of a segment is read as it again.
use Rattle.std.proofs.Common.{◌≡◌, ℕ, ◌≤◌, ◌&&◌, nat_le, true, false, List, [], ◌∷◌, map, codes, Some, Ok, refl, arith}
use Rattle.std.proofs.lemmas.Bool.{and_from, le-leb}
use Rattle.hex.specs.Hex.{encode_lower, decode_sized}
use Rattle.isd_as.specs.Address.{canonical}
use Rattle.isd_as.specs.Reading.{address_at}
use Rattle.serde_json.specs.Data.{Data, depth, items_depth}
use Rattle.serde_json.specs.View.{items_of}
use Rattle.serde_json.specs.Written.{has_float, items_have_float}
use Rattle.path_segment.specs.declared.entry.Entry.{Entry}
use Rattle.path_segment.specs.declared.kind.SegKind.{SegKind}
use Rattle.path_segment.specs.declared.kind.SegKind.TheVariants.{Core, Intra}
use Rattle.path_segment.specs.Chain.{Chain}
use Rattle.json_fields.specs.Fields.{text_at, whole_at, list_at, items_at}
use Rattle.path_segment.specs.Reading.{any_address_in, mac_at, segment_kind_at, entry_in, chain_at, chain_or_fault}
use Rattle.path_segment.specs.Rules.{IsSegment}
use Rattle.path_segment.specs.Text.{kind_name, entry_data, segment_data}

-- a number up to this one is a number from 0 to it
from_zero : (n high : ℕ) → n ≤ high → (nat_le 0 n && nat_le n high) ≡ true
from_zero n high small = and_from (nat_le 0 n) (nat_le n high) (le-leb 0 n (omega arith)) (le-leb n high small)

-- what was written for an entry is read as it, where its parts are and its numbers fit
pub entry_again : (e : Entry) → address_at (canonical e.ia) ≡ Ok e.ia → decode_sized (encode_lower e.mac) 6 ≡ Ok e.mac
    → e.cons_ingress ≤ 65535 → e.cons_egress ≤ 65535 → e.exp_time ≤ 255 → entry_in (entry_data e) ≡ Some e
unfolding entry_in entry_data any_address_in text_at mac_at whole_at
entry_again e ia mac ingress egress exp =
    rw (ia, from_zero e.cons_ingress 65535 ingress, from_zero e.cons_egress 65535 egress, from_zero e.exp_time 255 exp, mac) refl

kind_again : (k : SegKind) (d : Data) → text_at (codes "kind") d ≡ Some (kind_name k)
    → segment_kind_at (codes "kind") d ≡ Some k
unfolding segment_kind_at
kind_again Core d text = rw text refl
kind_again Intra d text = rw text refl

-- what was written for a segment is read as it
pub chain_again : (s : Chain) → items_at entry_in (items_of (map entry_data s.entries)) ≡ Some s.entries
    → s.timestamp ≤ 4294967295 → s.beta0 ≤ 65535 → chain_at (segment_data s) ≡ Some s
unfolding chain_at segment_data text_at whole_at list_at
chain_again s entries timestamp beta0 =
    let kind : segment_kind_at (codes "kind") (segment_data s) ≡ Some s.kind =
    kind_again s.kind (segment_data s) refl in
    rw (kind, from_zero s.timestamp 4294967295 timestamp, from_zero s.beta0 65535 beta0, entries) refl

entries_no_float : (es : List Entry) → items_have_float (items_of (map entry_data es)) ≡ false
unfolding entry_data
entries_no_float [] = refl
entries_no_float (e ∷ es) = entries_no_float es

-- a segment has whole numbers alone
pub has_float-segment_data : (s : Chain) → has_float (segment_data s) ≡ false
unfolding segment_data
has_float-segment_data s = rw (entries_no_float s.entries) refl

-- entries nest one deep
entries_depth : (es : List Entry) → items_depth (items_of (map entry_data es)) ≤ 1
unfolding entry_data
entries_depth [] = omega arith
entries_depth (e ∷ es) = omega (arith, entries_depth es)

pub depth-segment_data : (s : Chain) → depth (segment_data s) ≤ 127
unfolding segment_data
depth-segment_data s = omega (arith, entries_depth s.entries)

-- what was written for a segment is read as it, under the rules too
pub judged_again : (s : Chain) → chain_at (segment_data s) ≡ Some s → IsSegment s
    → chain_or_fault (chain_at (segment_data s)) ≡ Ok s
judged_again s again rules = rw (again, rules) refl
