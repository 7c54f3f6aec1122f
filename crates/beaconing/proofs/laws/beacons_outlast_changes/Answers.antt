use Rattle.beaconing.proofs.Outlasting.{beacon_linked, beacon_keyed}
use Rattle.beaconing.proofs.laws.beacons_outlast_changes.Goals as goal

pub returns : goal.returns
returns c = record { links = beacon_linked; rotations = beacon_keyed }
