use Rattle.network_core.proofs.Headlines.{of_send}
use Rattle.network_core.proofs.laws.headline.Goals as goal

pub returns : goal.returns
returns c = of_send
