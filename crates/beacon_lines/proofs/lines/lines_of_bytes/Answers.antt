use Rattle.std.proofs.Common.{rules, ◌≡◌, Err, subst}
use Rattle.scion_topology.specs.declared.fault.TopologyFault.TheVariants.{NotJson}
use Rattle.scion_topology.specs.Topology.{network_in}
use Rattle.beacon_lines.proofs.Saying.{no_text, wants_text}
use Rattle.beacon_lines.proofs.lines.lines_of_bytes.Goals as goal

pub returns-in-Err-clause-refused : goal.returns-in-Err-clause-refused
returns-in-Err-clause-refused c = λ fault is.
    let same : NotJson ≡ fault = cc in
    subst (λ f. network_in c.args.line.now ≡ Err f) same
    (no_text c.args.line.now c.in-Err.ensures.cases.0)

pub returns-in-Ok-clause-wanted : goal.returns-in-Ok-clause-wanted
returns-in-Ok-clause-wanted c = wants_text c.lines_from.result c.args.line.now (search rules)
