-- How beacons of one origin spread: which are sent, and which arrive.
use Rattle.std.specs.Prelude.{◌≡◌, ℕ, ◌==◌, ◌&&◌, nat_lt, Bool, true, false, if◌then◌else◌, List, [], ◌∷◌, ◌++◌, count_by}
use Rattle.std.specs.BTreeMap.{BTreeMap, get}
use Rattle.std.specs.Option.{unwrap_or}
use Rattle.std.specs.Ordering.{nat_cmp}
use Rattle.network_core.specs.Value.{NetValue}
use Rattle.beacon_lines.specs.declared.arrivals.Arrival.{Arrival}
use Rattle.beacon_lines.specs.declared.event.BeaconEvent.{BeaconEvent}
use Rattle.beacon_lines.specs.declared.event.BeaconEvent.TheVariants.{Terminate}
use Rattle.beacon_lines.specs.declared.event.Effect.{Effect}
use Rattle.beacon_lines.specs.declared.event.Effect.TheVariants.{Begun}
use Rattle.beacon_lines.specs.declared.search.Wanted.{Wanted}
use Rattle.beacon_lines.specs.declared.ways.WayOut.{WayOut}
use Rattle.beacon_lines.specs.inner.Events.{Happens, is_stored}

-- whether the arrival is in this AS
abbrev pub is_at : ℕ → Arrival → Bool
is_at ia arrival = arrival.ia == ia

-- these are the numbers of arrivals in each AS
abbrev pub AreCounted : List Arrival → BTreeMap ℕ ℕ → Type 0
AreCounted arrivals counts = (ia : ℕ)
    → unwrap_or (get nat_cmp counts ia) 0 ≡ count_by (is_at ia) arrivals

-- the beacon is ended in the AS of the arrival, which is added if its segment is stored now
pub record Ends (arrival : Arrival) (old : NetValue) (before : List Arrival) (new : NetValue)
    (after : List Arrival) : Type 0 where
  pub effect : Effect
  pub happens : Happens old (Terminate arrival.beacon arrival.ia) effect new
  pub arrives : after ≡ (if is_stored effect then before ++ arrival ∷ [] else before)

-- a beacon that was begun is ended at the far end of the way, where it has this number of entries
abbrev pub Follows : (effect : Effect) (way : WayOut) (entries : ℕ) (old : NetValue)
    (before : List Arrival) (new : NetValue) (after : List Arrival) → Type 0
Follows (Begun beacon) way entries =
    Ends (record { ia = way.far; beacon = beacon; entries = entries })
Follows effect way entries = λ old before new after. (new ≡ old) × (after ≡ before)

-- the event sends a beacon by this way
pub record Sends (event : BeaconEvent) (way : WayOut) (entries : ℕ) (old : NetValue)
    (before : List Arrival) (new : NetValue) (after : List Arrival) : Type 0 where
  pub effect : Effect
  pub between : NetValue
  pub happens : Happens old event effect between
  pub follows : Follows effect way entries between before new after

-- whether one more beacon is to go by this way, after this number of entries
abbrev pub wants : (wanted : Wanted) (way : WayOut) (entries : ℕ) (arrivals : List Arrival) → Bool
wants wanted way entries arrivals = nat_lt entries wanted.entries
    && nat_lt (count_by (is_at way.far) arrivals) wanted.per_pair

-- the event happens if it is wanted, and else nothing does
pub record SendsIf (is_wanted : Bool) (event : BeaconEvent) (way : WayOut) (entries : ℕ)
    (old : NetValue) (before : List Arrival) (new : NetValue) (after : List Arrival) : Type 0 where
  pub sent : is_wanted ≡ true → Sends event way entries old before new after
  pub unsent : is_wanted ≡ false → (new ≡ old) × (after ≡ before)
