use Rattle.network_core.proofs.Present.{no_turn_is_still}
use Rattle.network_core.proofs.laws.no_turn_is_still.Goals as goal

pub returns : goal.returns
returns c = no_turn_is_still
