-- What stays of a network in a beaconing.
use Rattle.std.specs.Prelude.{◌≡◌, ℕ, true, Some, slice_get, Contains}
use Rattle.path_segment.specs.Chain.{Chain}
use Rattle.network_core.specs.Value.{NetValue}
use Rattle.network_core.specs.Step.{has_room}

-- the topology and the second stay, and so do beacons by their numbers and stored segments; where
-- there is room for one more beacon, there was before
pub record Grows (old new : NetValue) : Type 0 where
  pub network : new.network ≡ old.network
  pub moment : new.moment ≡ old.moment
  pub beacons : (number : ℕ) (chain : Chain) → slice_get old.beacons number ≡ Some chain
      → slice_get new.beacons number ≡ Some chain
  pub segments : (segment : Chain) → Contains old.segments segment → Contains new.segments segment
  pub room : has_room new.beacons ≡ true → has_room old.beacons ≡ true
