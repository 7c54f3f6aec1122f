use Rattle.beaconing.proofs.Outlasting.{segment_linked, segment_keyed}
use Rattle.beaconing.proofs.laws.segments_outlast_changes.Goals as goal

pub returns : goal.returns
returns c = record { links = segment_linked; rotations = segment_keyed }
