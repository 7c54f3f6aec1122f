use Rattle.forwarding.proofs.Bounds.{turns_are_few}
use Rattle.forwarding.proofs.laws.turns_are_few.Goals as goal

pub returns : goal.returns
returns c = turns_are_few
