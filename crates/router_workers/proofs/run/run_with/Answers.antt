use Rattle.std.proofs.Common.{length, ap, ◌∙◌}
use Rattle.router_workers.proofs.Reports.{reported}
use Rattle.router_workers.proofs.run.run_with.Goals as goal

pub returns : goal.returns
returns g c =
    rw (c.requires.flights, c.requires.now, c.requires.slots)
    (reported c.collect.result.items g.J.RunFacts.flights g.J.RunFacts.now g.J.RunFacts.slots
    (c.collect.ensures.all ∙ ap length c.requires.flights)
    c.collect.ensures.each)
