-- Reading the ASes and links of a topology from JSON: objects with the named members and any
-- others.
use Rattle.std.specs.Prelude.{ℕ, ◌&&◌, nat_le, true, if◌then◌else◌, codes, List, [], ◌∷◌, length, Option, Some, None}
use Rattle.std.specs.Result.{result_ok}
use Rattle.std.specs.Str.{bytes_eq}
use Rattle.serde_json.specs.Data.{Data}
use Rattle.serde_json.specs.Find.{get}
use Rattle.hex.specs.Hex.{decode_of}
use Rattle.isd_as.specs.Reading.{address_at}
use Rattle.refusal.specs.Optional.{◌>>=◌}
use Rattle.json_fields.specs.Fields.{text_at, truth_at, whole_at}
use Rattle.scion_topology.specs.declared.network.AsEntry.{AsEntry}
use Rattle.scion_topology.specs.declared.network.End.{End}
use Rattle.scion_topology.specs.declared.network.Link.{Link}
use Rattle.scion_topology.specs.declared.network.LinkClass.{LinkClass}
use Rattle.scion_topology.specs.declared.network.LinkClass.TheVariants.{Core, Child}
use Rattle.scion_topology.specs.Keys.{key_from}
use Rattle.scion_topology.specs.Network.{is_wildcard}

-- the address in a member, without a wildcard
unfoldable pub address_in : List ℕ → Data → Option ℕ
address_in name d = do
  text ← text_at name d
  ia ← result_ok (address_at text)
  if is_wildcard ia then None else Some ia

-- the key in a member: 2 to 128 hexadecimal digits, an even number of them
unfoldable pub key_at : List ℕ → Data → Option (List ℕ)
key_at name d = do
  text ← text_at name d
  bytes ← if nat_le 2 (length text) && nat_le (length text) 128
      then result_ok (decode_of text)
      else None
  result_ok (key_from bytes)

-- the AS of an object, with its one key in use
unfoldable pub as_entry_at : Data → Option AsEntry
as_entry_at d = do
  ia ← address_in (codes "ia") d
  core ← truth_at (codes "core") d
  exp_time ← whole_at 0 255 (codes "exp") d
  key ← key_at (codes "key") d
  routers ← whole_at 1 64 (codes "routers") d
  Some (record { ia = ia; core = core; exp_time = exp_time; keys = key ∷ []; routers = routers })

-- the class in a member: "core" or "child"
unfoldable pub class_at : List ℕ → Data → Option LinkClass
class_at name d = do
  text ← text_at name d
  if bytes_eq text (codes "core") then Some Core
      else if bytes_eq text (codes "child") then Some Child else None

-- the end of a link in a member
unfoldable pub end_at : List ℕ → Data → Option End
end_at name d = do
  v ← get name d
  ia ← address_in (codes "ia") v
  number ← whole_at 1 65535 (codes "if") v
  router ← whole_at 0 63 (codes "router") v
  Some (record { ia = ia; number = number; router = router })

-- the link of an object; a link that is read is up
unfoldable pub link_at : Data → Option Link
link_at d = do
  class ← class_at (codes "kind") d
  a ← end_at (codes "a") d
  b ← end_at (codes "b") d
  Some (record { class = class; a = a; b = b; up = true })
