use Rattle.std.proofs.Common.{◌≡◌, Ok, map, sym, ap, ◌∙◌, subst}
use Rattle.std.specs.String.{string_bytes}
use Rattle.scion_topology.specs.Topology.{network_in}
use Rattle.beacon_lines.specs.Beaconing.{IsBeaconing, network_event}
use Rattle.network_core.specs.Value.{NetValue}
use Rattle.beacon_lines.specs.inner.Search.{IsServedAll, begun_net}
use Rattle.beacon_lines.proofs.Saying.{are_lines}
use Rattle.beacon_lines.proofs.lines.lines_from.Goals as goal

pub returns-clause-lines : goal.returns-clause-lines
returns-clause-lines c =
    let line = c.args.line.now in
    let options = c.args.options.now in
    let network = c.in_ok-network.network in
    let topology : network_in line ≡ Ok network =
    subst (λ b. network_in b ≡ Ok network) c.as_bytes.ensures.value c.in_ok-network.ensures.value in
    let events = c.events.result.now in
    let net = c.run.inside.net in
    let served : IsServedAll options (begun_net network options.now) net =
    subst (λ (m : NetValue). IsServedAll options (begun_net network options.now) m)
    (sym (ap (λ v. v.net) c.run.view_is)) c.in_ok-run.ensures.served in
    let shown = ap (λ v. v.events) c.run.view_is ∙ sym c.events.ensures in
    let second : c.run.inside.second ≡ options.now = ap (λ v. v.second) c.run.view_is
    ∙ c.in_ok-run.ensures.second in
    are_lines options line (string_bytes c.in_ok-text_of.field-0) network events net topology
    c.known.ensures served
    (subst (λ now. IsBeaconing net.network now (map network_event events) net) second
    (subst (λ es. IsBeaconing net.network c.run.inside.second es net) shown c.run.invariant))
    c.in_ok-text_of.ensures
