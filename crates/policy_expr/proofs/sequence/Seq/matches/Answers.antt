use Rattle.std.proofs.Common.{arith}
use Rattle.policy_expr.proofs.sequence.Seq.matches.Goals as goal

pub matches-requires-clause-first : goal.matches-requires-clause-first
matches-requires-clause-first g c = λ k has. (c.self.invariant.1.first k has).1

pub matches-requires-clause-next : goal.matches-requires-clause-next
matches-requires-clause-next g c = λ j k m. (c.self.invariant.1.among j k (omega arith) m).1

pub returns : goal.returns
returns g c =
    let law = c.self.invariant.1.words c.args.walk.now in
    rw (← c.self.view_is) (λ yes. law.0 (c.matches.ensures.0 yes), λ word. c.matches.ensures.1 (law.1 word))
