use Rattle.combinator.specs.inner.Group.{group_with}
use Rattle.combinator.proofs.Bests.{same_len_in}
use Rattle.combinator.proofs.group.Group.least_until.Goals as goal

pub least_until-requires : goal.least_until-requires
least_until-requires c = same_len_in (group_with c.self.inside.head.now c.self.inside.pieces.now) c.self.invariant.0
