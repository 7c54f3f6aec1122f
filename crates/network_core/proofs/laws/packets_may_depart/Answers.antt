use Rattle.network_core.proofs.Allowing.{none_yet, may_depart_then}
use Rattle.network_core.proofs.laws.packets_may_depart.Goals as goal

pub returns : goal.returns
returns c = record { new = none_yet; step = may_depart_then }
