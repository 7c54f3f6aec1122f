use Rattle.std.proofs.Common.{◌+◌, ◌≤◌, length, sym, ap, ◌∙◌, subst, arith}
use Rattle.scion_topology.specs.Network.{Network}
use Rattle.beacon_lines.specs.Beaconing.{BeaconRunValue}
use Rattle.beacon_lines.specs.inner.Search.{core_at}
use Rattle.beacon_lines.proofs.Serving.{AreServed, all_served, next_with, skip_with}
use Rattle.beacon_lines.proofs.search.SearchGraph.spread.Goals as goal
use Rattle.beacon_lines.proofs.search.SearchGraph.spread.Goals.{in-Some+in_ok-serve_both, in_default}

pub loop-place-preserved : goal.loop-place-preserved
loop-place-preserved c =
    let place = c.loop-place.place in
    let start = c.args.run.now.net in
    let old = c.loop-place.run.net in
    let shown = ap (λ (n : Network). core_at n.ases place) c.topology-in-loop-place.ensures in
    elim c.match-core_at.branch [
      | in-Some+in_ok-serve_both w ↦ record {
        second = ap (λ (r : BeaconRunValue). r.second) w.run-is
            ∙ (w.serve_both.ensures.second ∙ c.loop-place.invariant.second);
        served = λ network are_ways empty. subst
            (λ (r : BeaconRunValue). AreServed c.args.options.now start r.net (place + 1))
            (sym w.run-is)
            (next_with c.args.options.now c.args.self.now start old w.serve_both.new.run.net place
            w.in-Some.origin
            (sym shown ∙ (sym c.core_at.ensures ∙ w.in-Some.is)) c.loop-place.invariant.served
            w.in_ok-serve_both.ensures.served
            network are_ways empty);
      }
      | in_default w ↦ record {
        second = ap (λ (r : BeaconRunValue). r.second) w.run-is ∙ c.loop-place.invariant.second;
        served = λ network are_ways empty. subst
            (λ (r : BeaconRunValue). AreServed c.args.options.now start r.net (place + 1))
            (sym w.run-is)
            (skip_with c.args.options.now c.args.self.now start old place
            (sym shown ∙ (sym c.core_at.ensures ∙ w.in_default.is))
            c.loop-place.invariant.served network are_ways empty);
      }
    ]

pub returns-clause-served : goal.returns-clause-served
returns-clause-served c = λ network are_ways empty.
    let listed = ap length c.ases-place-end.ensures in
    let shown = ap (λ (n : Network). length n.ases) c.topology.ensures in
    let past : length c.args.run.now.net.network.ases ≤ c.loop-place.place = omega arith in
    all_served c.args.options.now c.args.run.now.net c.loop-place.run.net c.loop-place.place past
    (c.loop-place.invariant.served network are_ways empty)
