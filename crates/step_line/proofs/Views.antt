-- Parts that are accepted make the view that they are, and so a turn.
use Rattle.std.proofs.Common.{◌≡◌, ℕ, Bool, true, false, List, Option, Some, None, Ok, Err, refl}
use Rattle.std.specs.Prelude.{Result, if◌then◌else◌}
use Rattle.std.specs.Result.{is_err}
use Rattle.scion_topology.specs.declared.entry.IfEntry.{IfEntry}
use Rattle.scion_topology.specs.declared.fault.TopologyFault.{TopologyFault}
use Rattle.scion_topology.specs.View.{View}
use Rattle.scion_topology.specs.Keys.{accepted_keys}
use Rattle.scion_topology.specs.Building.{view_of, has_bad_field, numbers_twice}
use Rattle.router_step.specs.declared.arrival.Arrival.{Arrival}
use Rattle.step_line.specs.Turn.{Turn, turn_with}
use Rattle.std.specs.Result.{result_ok}
use Rattle.refusal.specs.Optional.{◌>>=◌}

chosen : (bad twice : Bool) (d e : TopologyFault) (v : View)
    → is_err (if bad then Err d else if twice then Err e else Ok v) ≡ false
    → (if bad then Err d else if twice then Err e else Ok v) ≡ Ok v
chosen true twice d e v none = absurd cc
chosen false true d e v none = absurd cc
chosen false false d e v none = refl

-- the view is of those parts
pub view_of_accepts : (ia router : ℕ) (key : List ℕ) (previous : Option (List ℕ)) (table : List IfEntry)
    → is_err (view_of ia router key previous table) ≡ false
    → view_of ia router key previous table ≡ Ok (record { ia = ia; router = router; keys = accepted_keys key previous; table = table })
unfolding view_of
view_of_accepts ia router key previous table none =
    chosen (has_bad_field ia (accepted_keys key previous) table) (numbers_twice table) _ _ _ none

-- and the turn has it
pub turn_with_accepted : (ia router : ℕ) (key : List ℕ) (previous : Option (List ℕ)) (now : ℕ) (arrival : Arrival) (table : List IfEntry)
    → is_err (view_of ia router key previous table) ≡ false
    → turn_with ia router key previous now arrival table ≡ Some (record { view = record { ia = ia; router = router; keys = accepted_keys key previous; table = table }; moment = now; arrival = arrival })
unfolding turn_with
turn_with_accepted ia router key previous now arrival table none =
    rw (view_of_accepts ia router key previous table none) refl

refused : (r : Result View TopologyFault) (f : View → Turn) → is_err r ≡ true
    → (result_ok r >>= (λ v. Some (f v))) ≡ None
refused (Ok v) f bad = absurd cc
refused (Err e) f bad = refl

-- no turn is made of parts that are refused
pub turn_with_refused : (ia router : ℕ) (key : List ℕ) (previous : Option (List ℕ)) (now : ℕ) (arrival : Arrival) (table : List IfEntry)
    → is_err (view_of ia router key previous table) ≡ true
    → turn_with ia router key previous now arrival table ≡ None
unfolding turn_with
turn_with_refused ia router key previous now arrival table bad =
    refused (view_of ia router key previous table) (λ v. record { view = v; moment = now; arrival = arrival }) bad
