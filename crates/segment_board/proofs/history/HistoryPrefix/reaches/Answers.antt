use Rattle.std.proofs.Common.{List, ap, subst}
use mathlib.Core.List.{IsPrefix}
use Rattle.segment_board.specs.declared.edition.Edition.{Edition}
use Rattle.segment_board.proofs.Prefixes.{either_way}
use Rattle.segment_board.proofs.history.HistoryPrefix.reaches.Goals as goal

pub returns-clause-order : goal.returns-clause-order
returns-clause-order c =
    let mine : IsPrefix c.self.inside.seen.log c.learn.new.self.log =
    subst (λ (z : List Edition). IsPrefix z c.learn.new.self.log) (ap (λ s. s.log) c.again-both.ensures) c.learn.ensures.2 in
    rw (← c.other.view_is, ← c.self.view_is)
    (either_way c.other.inside.seen.log c.self.inside.seen.log c.learn.new.self.log c.other.inside.count c.self.inside.count c.other.invariant.0 c.self.invariant.0 c.learn.ensures.3 mine)
