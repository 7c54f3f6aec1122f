use Rattle.std.proofs.Common.{rules, subst}
use Rattle.refusal.specs.Refusal.{Fails}
use Rattle.network_core.proofs.Full.{refused_first, with_room, without_room}
use Rattle.network_core.proofs.net.Net.beacon_error.Goals as goal

pub returns-then-len-lt-MAX_OBJECTS : goal.returns-then-len-lt-MAX_OBJECTS
returns-then-len-lt-MAX_OBJECTS c made fails =
    rw c.of_beacon.ensures (with_room c.args.self.now c.args.error made (search rules) fails)

pub returns-in-Memory : goal.returns-in-Memory
returns-in-Memory c made fails =
    without_room c.args.self.now made (search rules) (subst (λ e. Fails e made) c.in-Memory.is fails)

pub returns-in-Refused : goal.returns-in-Refused
returns-in-Refused c made fails = refused_first c.args.self.now c.in-Refused.fault made (search rules)
