use Rattle.router_step.proofs.Switched.{changes_to_next}
use Rattle.router_step.proofs.laws.segment_changes.Goals as goal

pub returns : goal.returns
returns c = changes_to_next
