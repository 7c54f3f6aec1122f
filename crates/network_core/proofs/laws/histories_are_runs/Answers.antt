use Rattle.network_core.proofs.Runs.{is_run}
use Rattle.network_core.proofs.laws.histories_are_runs.Goals as goal

pub returns : goal.returns
returns c = is_run
