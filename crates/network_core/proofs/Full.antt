-- The error of an event that makes no beacon.
use Rattle.std.proofs.Common.{◌≡◌, true, false, refl, Result, Ok, Err, IsOk}
use Rattle.refusal.specs.Refusal.{Fails}
use Rattle.refusal.specs.declared.fault.OrMemory.{OrMemory}
use Rattle.refusal.specs.declared.fault.OrMemory.TheVariants.{Memory, Refused}
use Rattle.path_segment.specs.Chain.{Chain}
use Rattle.beaconing.specs.declared.fault.BeaconFault.{BeaconFault}
use Rattle.network_core.specs.declared.fault.EventFault.TheVariants as faults
use Rattle.network_core.specs.Value.{NetValue}
use Rattle.network_core.specs.Step.{has_room}
use Rattle.network_core.specs.inner.Doing.{error_as, with_made}

-- with room it is that of beaconing
pub with_room : (net : NetValue) (error : OrMemory BeaconFault) (made : Result Chain BeaconFault)
    → has_room net.beacons ≡ true
    → Fails error made → Fails (error_as faults.Beacon error) (with_made net made)
with_room net Memory (Ok beacon) room fails = rw room refl
with_room net Memory (Err fault) room fails = absurd cc
with_room net (Refused fault) made room fails = rw fails refl

-- without room no beacon is kept
pub without_room : (net : NetValue) (made : Result Chain BeaconFault) → has_room net.beacons ≡ false → IsOk made
    → with_made net made ≡ Err faults.TooMany
without_room net (Ok beacon) full made = rw full refl
without_room net (Err fault) full made = absurd cc

-- a refusal of beaconing is that of the event
pub refused_first : (net : NetValue) (fault : BeaconFault) (made : Result Chain BeaconFault) → made ≡ Err fault
    → with_made net made ≡ Err (faults.Beacon fault)
refused_first net fault made is = rw is refl
