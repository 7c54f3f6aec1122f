use Rattle.network_core.proofs.Runs.{are_asked}
use Rattle.network_core.proofs.laws.answers_are_accepted.Goals as goal

pub returns : goal.returns
returns c = are_asked
