use Rattle.path_server.proofs.Plain.{Contains-swept, swept-swept, expired_count-swept}
use Rattle.path_server.proofs.laws.sweeps_keep_the_live.Goals as goal

pub returns : goal.returns
returns c = record { kept = Contains-swept; again = swept-swept; none = expired_count-swept }
