use Rattle.event_lines.proofs.PolicyFormed.{policies_are_formed}
use Rattle.event_lines.proofs.laws.policies_are_formed.Goals as goal

pub returns : goal.returns
returns c = policies_are_formed
