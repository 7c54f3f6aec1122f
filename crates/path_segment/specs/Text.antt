-- The JSON text of a segment: compact, with the names in ascending order.
use Rattle.std.specs.Prelude.{ℕ, List, codes, map}
use Rattle.hex.specs.Hex.{encode_lower}
use Rattle.isd_as.specs.Address.{canonical}
use Rattle.serde_json.specs.Data.{Data, number, unsigned, string, array, object, member, no_members}
use Rattle.serde_json.specs.View.{items_of}
use Rattle.serde_json.specs.Written.{compact_text}
use Rattle.path_segment.specs.declared.entry.Entry.{Entry}
use Rattle.path_segment.specs.declared.kind.SegKind.{SegKind}
use Rattle.path_segment.specs.declared.kind.SegKind.TheVariants.{Core, Intra}
use Rattle.path_segment.specs.Chain.{Chain}

-- the name of a kind
abbrev pub kind_name : SegKind → List ℕ
kind_name Core = codes "core"
kind_name Intra = codes "intra"

-- the JSON object of an entry: the address in its canonical text, the authenticator in lower-case
-- hexadecimal
unfoldable pub entry_data : Entry → Data
entry_data entry = object (
    member (codes "egress") (number (unsigned entry.cons_egress)) (
    member (codes "exp") (number (unsigned entry.exp_time)) (
    member (codes "ia") (string (canonical entry.ia)) (
    member (codes "ingress") (number (unsigned entry.cons_ingress)) (
    member (codes "mac") (string (encode_lower entry.mac)) no_members)))))

-- the JSON object of a segment
unfoldable pub segment_data : Chain → Data
segment_data chain = object (
    member (codes "beta0") (number (unsigned chain.beta0)) (
    member (codes "entries") (array (items_of (map entry_data chain.entries))) (
    member (codes "kind") (string (kind_name chain.kind)) (
    member (codes "timestamp") (number (unsigned chain.timestamp)) no_members))))

-- the text of a segment, without white space
abbrev pub segment_text : Chain → List ℕ
segment_text chain = compact_text (segment_data chain)
