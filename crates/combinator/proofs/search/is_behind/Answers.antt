use Rattle.std.proofs.Common.{sym}
use Rattle.combinator.proofs.Before.{are_before}
use Rattle.combinator.proofs.search.is_behind.Goals as goal

pub returns-then-kept-limit : goal.returns-then-kept-limit
returns-then-kept-limit c = λ yes pieces of.
    are_before c.args.limit c.args.kept.now c.in-Some.last.now pieces c.args.further c.requires.order c.if-kept-limit.true
    (sym c.in-Some.ensures.value) (c.comes_before.ensures yes pieces of)
