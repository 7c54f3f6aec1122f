use Rattle.forwarding.proofs.Journeys.{stands_after, delivered_after}
use Rattle.forwarding.proofs.laws.journeys_end.Goals as goal

pub returns : goal.returns
returns c = record { before = stands_after; then = delivered_after }
