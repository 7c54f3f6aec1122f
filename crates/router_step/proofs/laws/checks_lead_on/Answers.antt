use Rattle.router_step.proofs.Computed.{delivered, went_on, no_switch, a_switch}
use Rattle.router_step.proofs.laws.checks_lead_on.Goals as goal

pub returns : goal.returns
returns c = record { delivered = delivered; sent_on = went_on; on_its_segment = no_switch; to_the_next = a_switch }
