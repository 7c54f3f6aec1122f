use Rattle.network_core.proofs.Runs.{are_issued}
use Rattle.network_core.proofs.laws.stored_segments_are_issued.Goals as goal

pub returns : goal.returns
returns c = are_issued
