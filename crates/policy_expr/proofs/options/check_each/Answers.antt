use Rattle.std.proofs.Common.{Ok, refl}
use Rattle.std.proofs.lemmas.List.{drop_all}
use Rattle.policy_expr.proofs.options.check_each.Goals as goal

pub returns : goal.returns
returns c =
    let none = drop_all c.loop-text.text-index c.args.texts.now c.loop-text-test.false in
    c.loop-text.invariant (Ok tt) (rw none refl)
