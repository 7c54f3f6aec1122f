use Rattle.beacon_lines.proofs.Serving.{from_nothing}
use Rattle.beacon_lines.proofs.lines.beaconing_of.Goals as goal

pub returns-clause-served : goal.returns-clause-served
returns-clause-served c =
    from_nothing c.args.options.now c.in_ok-graph.graph c.args.topology c.in_ok-run.run'.net
    c.spread.new.run.net c.in_ok-run.ensures.net c.known.ensures c.in_ok-graph.ensures
    c.in_ok-spread.ensures.served
