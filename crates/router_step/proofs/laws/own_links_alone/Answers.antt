use Rattle.router_step.proofs.StepLaws.{over_own_link, to_owner}
use Rattle.router_step.proofs.laws.own_links_alone.Goals as goal

pub returns-clause-over_link : goal.returns-clause-over_link
returns-clause-over_link c = over_own_link

pub returns-clause-inside : goal.returns-clause-inside
returns-clause-inside c = to_owner
