-- The lists that were read pass the tests of what each item was read as.
use Rattle.std.proofs.Common.{rules}
use Rattle.scion_topology.specs.inner.Causes.{is_as, is_link}
use Rattle.scion_topology.proofs.topology.Topology.from_object.Goals as goal

pub of_lists-requires-clause-ases : goal.of_lists-requires-clause-ases
of_lists-requires-clause-ases c =
    let each = c.in_ok-items.ensures.pass is_as (λ v found called. search rules) in
    search rules

pub of_lists-requires-clause-links : goal.of_lists-requires-clause-links
of_lists-requires-clause-links c =
    let each = c.in_ok-items-2.ensures.pass is_link (λ v found called. search rules) in
    search rules
