-- Reading the members of a JSON object; other members may be there, in any order. A whole number is
-- written without fraction and exponent.
use Rattle.std.specs.Prelude.{ℕ, ◌&&◌, nat_le, Bool, if◌then◌else◌, List, [], ◌∷◌, Option, Some, None, option_and_then}
use Rattle.std.specs.Str.{is_utf8}
use Rattle.serde_json.specs.Data.{Data, Items, no_items, item}
use Rattle.serde_json.specs.Find.{get, as_number, as_u64, as_bool, as_str, as_array}
use Rattle.serde_json.specs.Read.{read}
use Rattle.refusal.specs.Optional.{◌>>=◌}

-- the value of a JSON text, or nothing if the bytes are not UTF-8 or no JSON
unfoldable pub document_in : List ℕ → Option Data
document_in bytes = if is_utf8 bytes then read bytes else None

-- a member that is a text
unfoldable pub text_at : List ℕ → Data → Option (List ℕ)
text_at name d = do
  v ← get name d
  as_str v

-- a member that is true or false
unfoldable pub truth_at : List ℕ → Data → Option Bool
truth_at name d = do
  v ← get name d
  as_bool v

-- a member that is a whole number from `low` to `high`
unfoldable pub whole_at : (low high : ℕ) (name : List ℕ) (d : Data) → Option ℕ
whole_at low high name d = do
  v ← get name d
  n ← option_and_then as_u64 (as_number v)
  if nat_le low n && nat_le n high then Some n else None

-- the items of a member that is a list
unfoldable pub list_at : List ℕ → Data → Option Items
list_at name d = do
  v ← get name d
  as_array v

-- the items of a list, each as `one` reads it, or nothing if `one` fails on any
abbrev pub items_at : {A : Type 0} → (Data → Option A) → Items → Option (List A)
items_at one no_items = Some []
items_at one (item d ds) = do
  x ← one d
  xs ← items_at one ds
  Some (x ∷ xs)
