use Rattle.combinator.proofs.TakingIn.{behind_all, still_in_order, now_met, still_met, still_best}
use Rattle.combinator.proofs.ordered.take_in.Goals as goal

pub returns-then-place-limit-clause-met : goal.returns-then-place-limit-clause-met
returns-then-place-limit-clause-met c =
    behind_all c.args.ordered.now.items c.deref.result.now c.args.found c.args.limit c.in-Some.place c.deref.ensures.value c.requires.order c.in-Some.ensures.within c.in-Some.ensures.gap
    c.requires.few c.if-place-limit.true

pub returns-clause-order : goal.returns-clause-order
returns-clause-order c =
    still_in_order c.args.ordered.now.items c.deref.result.now c.args.found c.args.limit c.in-Some.place c.deref.ensures.value c.requires.order c.in-Some.ensures.within c.in-Some.ensures.gap
    c.insert.new.self.items c.truncate.new.self.items c.in_ok-insert.ensures.items c.truncate.ensures.items

pub returns-clause-met : goal.returns-clause-met
returns-clause-met c =
    now_met c.args.ordered.now.items c.deref.result.now c.args.found c.args.limit c.in-Some.place c.deref.ensures.value c.requires.order c.in-Some.ensures.within c.in-Some.ensures.gap
    c.insert.new.self.items c.truncate.new.self.items c.in_ok-insert.ensures.items c.truncate.ensures.items

pub returns-clause-others : goal.returns-clause-others
returns-clause-others c =
    still_met c.args.ordered.now.items c.deref.result.now c.args.found c.args.limit c.in-Some.place c.deref.ensures.value c.requires.order c.in-Some.ensures.within c.in-Some.ensures.gap
    c.insert.new.self.items c.truncate.new.self.items c.in_ok-insert.ensures.items c.truncate.ensures.items
    c.if-place-limit.false

pub returns-clause-best : goal.returns-clause-best
returns-clause-best c =
    still_best c.args.ordered.now.items c.deref.result.now c.args.found c.args.limit c.in-Some.place c.deref.ensures.value c.requires.order c.in-Some.ensures.within c.in-Some.ensures.gap
    c.insert.new.self.items c.truncate.new.self.items c.in_ok-insert.ensures.items c.truncate.ensures.items
