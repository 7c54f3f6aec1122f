-- One router's turn, from the words of `scionet step`.
use Rattle.std.specs.Prelude.{ℕ, List, Option, Some, None, option_map, Vec}
use Rattle.scion_topology.specs.declared.entry.IfEntry.{IfEntry}
use Rattle.scion_topology.specs.View.{View}
use Rattle.scion_topology.specs.Keys.{accepted_keys}
use Rattle.scion_topology.specs.Building.{view_of}
use Rattle.router_step.specs.declared.arrival.Arrival.{Arrival}
use Rattle.std.specs.Result.{result_ok}
use Rattle.refusal.specs.Optional.{◌>>=◌}
use Rattle.step_line.specs.Fields.{as_address_at, bounded_number_at, hex_bytes_of, arrival_at, table_at}

-- the texts of the options, and those of the interfaces
pub record StepOptions : Type 0 where
  pub ia : List ℕ
  pub router : List ℕ
  pub key : List ℕ
  pub previous : Option (List ℕ)
  pub now : List ℕ
  pub from : List ℕ
  pub interfaces : List (List ℕ)

-- a turn: the router's view, the second of its step, and how the packet came
pub record Turn : Type 0 where
  pub view : View
  pub moment : ℕ
  pub arrival : Arrival

-- the turn of these parts, if they are a view
unfoldable pub turn_with : (ia router : ℕ) (key : List ℕ) (previous : Option (List ℕ)) (moment : ℕ)
    (arrival : Arrival) (table : List IfEntry) → Option Turn
turn_with ia router key previous moment arrival table = do
  view ← result_ok (view_of ia router key previous table)
  Some (record { view = view; moment = moment; arrival = arrival })

-- the key before, if there is one
abbrev pub previous_of : Option (List ℕ) → Option (Option (List ℕ))
previous_of None = Some None
previous_of (Some text) = do
  key ← hex_bytes_of text
  Some (Some key)

-- the turn of these texts, if all can be read and the parts are a view
unfoldable pub turn_from : StepOptions → Option Turn
turn_from texts = do
  ia ← as_address_at texts.ia
  router ← bounded_number_at 0 63 texts.router
  key ← hex_bytes_of texts.key
  previous ← previous_of texts.previous
  moment ← bounded_number_at 0 4294967295 texts.now
  arrival ← arrival_at texts.from
  table ← table_at texts.interfaces
  turn_with ia router key previous moment arrival table

-- the bytes of a key, if there is one
abbrev pub items_of : {A : Type 0} → Option (Vec ℕ A) → Option (List ℕ)
items_of key = option_map (λ v. v.items) key

-- the view of these parts
abbrev pub parts_seen : (ia router : ℕ) (key : List ℕ) (previous : Option (List ℕ))
    (table : List IfEntry) → View
parts_seen ia router key previous table =
    record { ia = ia; router = router; keys = accepted_keys key previous; table = table }
