-- Reading a segment from JSON: an object with the named members and any others, in any order. A
-- whole number is written without fraction and exponent.
use Rattle.std.specs.Prelude.{ℕ, if◌then◌else◌, codes, List, Option, Some, None, IsSome, Result, Err}
use Rattle.std.specs.Result.{result_ok}
use Rattle.std.specs.Str.{bytes_eq}
use Rattle.hex.specs.Hex.{decode_sized}
use Rattle.refusal.specs.Optional.{◌>>=◌}
use Rattle.isd_as.specs.Reading.{address_at}
use Rattle.serde_json.specs.Data.{Data}
use Rattle.json_fields.specs.Fields.{document_in, text_at, whole_at, list_at, items_at}
use Rattle.path_segment.specs.declared.entry.Entry.{Entry}
use Rattle.path_segment.specs.declared.fault.SegmentFault.{SegmentFault}
use Rattle.path_segment.specs.declared.fault.SegmentFault.TheVariants as faults
use Rattle.path_segment.specs.declared.kind.SegKind.{SegKind}
use Rattle.path_segment.specs.declared.kind.SegKind.TheVariants.{Core, Intra}
use Rattle.path_segment.specs.Chain.{Chain}
use Rattle.path_segment.specs.Rules.{segment_of}

-- the address in a member; a wildcard is allowed
unfoldable pub any_address_in : List ℕ → Data → Option ℕ
any_address_in name d = do
  text ← text_at name d
  result_ok (address_at text)

-- the authenticator in a member: 12 hexadecimal digits of either case
unfoldable pub mac_at : List ℕ → Data → Option (List ℕ)
mac_at name d = do
  text ← text_at name d
  result_ok (decode_sized text 6)

-- the kind in a member: "core" or "intra"
unfoldable pub segment_kind_at : List ℕ → Data → Option SegKind
segment_kind_at name d = do
  text ← text_at name d
  if bytes_eq text (codes "core") then Some Core
      else if bytes_eq text (codes "intra") then Some Intra else None

-- the entry of an object, or nothing if a member is missing or out of range
unfoldable pub entry_in : Data → Option Entry
entry_in d = do
  ia ← any_address_in (codes "ia") d
  cons_ingress ← whole_at 0 65535 (codes "ingress") d
  cons_egress ← whole_at 0 65535 (codes "egress") d
  exp_time ← whole_at 0 255 (codes "exp") d
  mac ← mac_at (codes "mac") d
  Some (record {
    ia = ia;
    cons_ingress = cons_ingress;
    cons_egress = cons_egress;
    exp_time = exp_time;
    mac = mac;
  })

-- the object has a kind, a timestamp and a first accumulator in their form, and a list of entries
abbrev pub HasMembers : Data → Type 0
HasMembers d = IsSome (segment_kind_at (codes "kind") d)
    × IsSome (whole_at 0 4294967295 (codes "timestamp") d)
    × IsSome (whole_at 0 65535 (codes "beta0") d)
    × IsSome (list_at (codes "entries") d)

-- the chain of an object in this form; the rules of segments are not checked yet
unfoldable pub chain_at : Data → Option Chain
chain_at d = do
  kind ← segment_kind_at (codes "kind") d
  timestamp ← whole_at 0 4294967295 (codes "timestamp") d
  beta0 ← whole_at 0 65535 (codes "beta0") d
  items ← list_at (codes "entries") d
  entries ← items_at entry_in items
  Some (record { kind = kind; timestamp = timestamp; beta0 = beta0; entries = entries })

-- the segment: NotJson if the form is wrong, else the first rule that the chain breaks
abbrev pub chain_or_fault : Option Chain → Result Chain SegmentFault
chain_or_fault None = Err faults.NotJson
chain_or_fault (Some chain) = segment_of chain

-- the segment of a text
abbrev pub segment_in : List ℕ → Result Chain SegmentFault
segment_in bytes = chain_or_fault (document_in bytes >>= chain_at)
