-- Lists that have no cause against them keep the rules.
use Rattle.std.proofs.Common.{◌≡◌, None, rules}
use Rattle.scion_topology.specs.Causes.{cause_of}
use Rattle.scion_topology.proofs.Judging.{rules_from}
use Rattle.scion_topology.proofs.topology.Topology.of_lists.Goals as goal

pub invariant_of-result : goal.invariant_of-result
invariant_of-result c =
    let cause : cause_of c.args.ases.items c.args.links.items ≡ None = search rules in (
      rules_from _ (record { ases = c.requires.ases; links = c.requires.links; cause = cause }),
      λ ia. search rules,
    )
