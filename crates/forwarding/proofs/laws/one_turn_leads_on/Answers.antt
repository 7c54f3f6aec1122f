use Rattle.forwarding.proofs.Leading.{one_turn}
use Rattle.forwarding.proofs.laws.one_turn_leads_on.Goals as goal

pub returns : goal.returns
returns c = one_turn
