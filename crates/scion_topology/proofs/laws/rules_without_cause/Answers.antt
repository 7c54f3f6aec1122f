use Rattle.scion_topology.proofs.Judging.{no_cause, rules_kept}
use Rattle.scion_topology.proofs.laws.rules_without_cause.Goals as goal

pub returns : goal.returns
returns c = record { none = no_cause; kept = rules_kept }
