use Rattle.std.proofs.Common.{[], ap, map, subst, sym}
use Rattle.network_core.specs.Event.{Tick}
use Rattle.network_core.specs.Value.{NetValue, new_net}
use Rattle.network_core.specs.Step.{Step}
use Rattle.beacon_lines.specs.Beaconing.{IsBeaconing, network_event}
use Rattle.beacon_lines.proofs.Going.{begins, begun_as, begun_network}
use Rattle.beacon_lines.proofs.run.BeaconRun.new.Goals as goal

pub invariant_of-result : goal.invariant_of-result
invariant_of-result c =
    let now = c.args.now in
    let topology = c.args.topology in
    let net = c.happen.new.net in
    let done = c.in_ok-happen.ensures.done in
    let step : Step (new_net topology) (Tick now) done.0 net =
    subst (λ (n : NetValue). Step n (Tick now) done.0 net) c.new-net.ensures done.1.1.0 in
    subst (λ events. IsBeaconing net.network now events net)
    (sym (ap (map network_event) c.new.ensures.items))
    (subst (λ n. IsBeaconing n now [] net) (sym (begun_network topology now done.0 net step))
    (begins topology now done.0 net step done.1.1.1))

pub returns-clause-net : goal.returns-clause-net
returns-clause-net c =
    let now = c.args.now in
    let topology = c.args.topology in
    let net = c.happen.new.net in
    let done = c.in_ok-happen.ensures.done in
    begun_as topology now done.0 net
    (subst (λ (n : NetValue). Step n (Tick now) done.0 net) c.new-net.ensures done.1.1.0)
