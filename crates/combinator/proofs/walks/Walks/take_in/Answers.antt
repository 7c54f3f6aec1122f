use Rattle.std.proofs.Common.{List, All, Contains, sym, subst}
use Rattle.policy_expr.specs.declared.hop.WalkHop.{WalkHop}
use Rattle.combinator.specs.Order.{walk_cmp}
use Rattle.combinator.specs.Walks.{IsWalkOf}
use Rattle.combinator.specs.inner.Placed.{InOrder}
use Rattle.combinator.proofs.Listing.{inserted_order, inserted_others, inserted_each}
use Rattle.combinator.proofs.walks.Walks.take_in.Goals as goal

pub returns-clause-order : goal.returns-clause-order
returns-clause-order c =
    inserted_order c.self.inside.walks.items c.insert.new.self.items c.in_ok-copy.copy c.args.walk.now c.in-Some.place
    c.in_ok-insert.ensures.items c.in_ok-copy.ensures.items c.deref.result.now c.deref.ensures.value
    (subst (InOrder walk_cmp) (sym c.self.view_is) c.requires) c.in-Some.ensures.within c.in-Some.ensures.gap

pub returns-clause-others : goal.returns-clause-others
returns-clause-others c = λ other there.
    inserted_others c.self.inside.walks.items c.insert.new.self.items c.in_ok-copy.copy c.args.walk.now c.in-Some.place
    c.in_ok-insert.ensures.items c.in_ok-copy.ensures.items other
    (subst (λ (walks : List (List WalkHop)). Contains walks other) (sym c.self.view_is) there)

pub returns-clause-each : goal.returns-clause-each
returns-clause-each c = λ question all is.
    inserted_each c.self.inside.walks.items c.insert.new.self.items c.in_ok-copy.copy c.args.walk.now c.in-Some.place
    c.in_ok-insert.ensures.items c.in_ok-copy.ensures.items (IsWalkOf question)
    (subst (All (IsWalkOf question)) (sym c.self.view_is) all) is
