use Rattle.std.proofs.Common.{ap, ◌∙◌}
use Rattle.doubles.specs.Doubles.{has_double}
use Rattle.scion_topology.proofs.Twice.{joins_twice_is}
use Rattle.scion_topology.proofs.duplicates.joins_twice.Goals as goal

pub returns-in-Ok : goal.returns-in-Ok
returns-in-Ok c =
    c.has_double.ensures.value
    ∙ ap has_double (c.deref_mut.ensures.value ∙ c.in-Ok.ensures.numbers)
    ∙ joins_twice_is c.args.links.now c.in-Ok.ensures.bits
