use Rattle.policy_expr.proofs.Front.{front_none}
use Rattle.policy_expr.proofs.Weighed.{lawful_here, read_more, read_all}
use Rattle.policy_expr.proofs.options.read_each.Goals as goal

pub loop-text-init : goal.loop-text-init
loop-text-init g c = rw c.in_ok-options.ensures.items (front_none _)

pub read_lawful-requires : goal.read_lawful-requires
read_lawful-requires g c =
    lawful_here c.args.texts.now c.loop-text.text-index c.text-item.result c.loop-text.options.items c.loop-text-test.true c.text-item.is c.requires c.loop-text.invariant

pub loop-text-preserved : goal.loop-text-preserved
loop-text-preserved g c =
    read_more c.args.texts.now c.loop-text.text-index c.text-item.result c.in_ok-read_lawful.field-0 c.loop-text.options.items c.push.new.self.items
    c.loop-text-test.true c.text-item.is c.in_ok-read_lawful.ensures c.in_ok-push.ensures.items c.loop-text.invariant

pub returns : goal.returns
returns g c = read_all c.args.texts.now c.loop-text.text-index c.loop-text.options.items c.loop-text-test.false c.loop-text.invariant
