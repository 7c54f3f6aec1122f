-- By cases of what each check finds.
use Rattle.packet_view.proofs.Verdicts.{verdict_of-checks_of}
use Rattle.packet_view.proofs.laws.checks_are_the_steps.Goals as goal

pub returns : goal.returns
returns c = verdict_of-checks_of
