-- What the test says is what is meant.
use Rattle.std.proofs.Common.{◌≡◌}
use Rattle.scion_topology.specs.View.{is_authentic}
use Rattle.scion_topology.proofs.AuthenticHops.{meant_by_test}
use Rattle.scion_topology.proofs.view.RouterView.authenticates.Goals as goal

pub returns-clause-meaning : goal.returns-clause-meaning
returns-clause-meaning c =
    let passed : c.authenticate.result ≡ is_authentic c.args.self.now c.args.mac.now c.args.hop.now.beta c.args.hop.now.timestamp c.args.hop.now.exp_time c.args.hop.now.cons_ingress c.args.hop.now.cons_egress =
    rw (← c.keys.ensures) c.authenticate.ensures in
    meant_by_test c.args.self.now c.args.mac.now c.args.hop.now.beta c.args.hop.now.timestamp c.args.hop.now.exp_time c.args.hop.now.cons_ingress c.args.hop.now.cons_egress c.authenticate.result passed
