use Rattle.std.proofs.Common.{sym, ◌∙◌}
use Rattle.forwarding.proofs.Leaving.{leaves_along, leaves_against}
use Rattle.forwarding.proofs.departing.first_out.Goals as goal

pub returns-then-first : goal.returns-then-first
returns-then-first c =
    rw c.entries-entries.ensures.value
    (sym (leaves_along c.args.pieces.now _ _ _ _ _ _ c.requires.1.1.1
    (c.first.view_is ∙ c.index-pieces-0.is) c.if-first.true))

pub returns-else-first : goal.returns-else-first
returns-else-first c =
    rw c.entries-entries.ensures.value
    (sym (leaves_against c.args.pieces.now _ _ _ _ _ _ c.requires.1.1.1
    (c.first.view_is ∙ c.index-pieces-0.is) c.if-first.false))
