use Rattle.network_core.proofs.Delivering.{delivery, undisturbed}
use Rattle.network_core.proofs.laws.sent_packets_are_delivered.Goals as goal

pub returns-clause-let_through : goal.returns-clause-let_through
returns-clause-let_through c = delivery

pub returns-clause-undisturbed : goal.returns-clause-undisturbed
returns-clause-undisturbed c = undisturbed
