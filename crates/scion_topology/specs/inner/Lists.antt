-- Whether a JSON object has the lists of a topology.
use Rattle.std.specs.Prelude.{codes, IsSome}
use Rattle.serde_json.specs.Data.{Data}
use Rattle.json_fields.specs.Fields.{list_at}

-- the object has a list of ASes and a list of links; what is in them is not looked at
abbrev pub HasLists : Data → Type 0
HasLists d = IsSome (list_at (codes "ases") d) × IsSome (list_at (codes "links") d)
