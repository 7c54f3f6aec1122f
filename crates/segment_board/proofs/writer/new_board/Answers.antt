use Rattle.std.proofs.Common.{◌≡◌, [], ◌∷◌, fold, ap, ◌∙◌}
use Rattle.segment_board.specs.History.{KnownHistory, opening}
use Rattle.segment_board.specs.BoardState.{BoardValue}
use Rattle.segment_board.specs.inner.BoardState.{board_after}
use Rattle.segment_board.specs.WriterState.{shown_of, queue_of}
use Rattle.segment_board.proofs.InOrder.{at_ok, opened, tied_first}
use Rattle.segment_board.proofs.Queues.{ready_alone}
use Rattle.segment_board.proofs.writer.new_board.Goals as goal

pub show-requires : goal.show-requires
show-requires g c =
    let w = c.in_ok-writer.writer in
    let first : BoardValue = record { store = c.new.result; front = c.again.result } in
    let log : c.again.result.log ≡ opening ∷ [] =
    ap (λ (r : KnownHistory). r.log) c.again.ensures.same ∙ c.start-head.ensures.log in
    ready_alone (shown_of w) (queue_of w)
    (tied_first (shown_of w) first c.in_ok-writer.ensures.0 c.new.ensures log) c.in_ok-writer.ensures.1

pub invariant_of-result : goal.invariant_of-result
invariant_of-result g c =
    let w = c.in_ok-writer.writer in
    let u = c.show.result.0 in
    let first : BoardValue = record { store = c.new.result; front = c.again.result } in
    let showed = at_ok c.show.result.1 _ _ _ c.in_default-Ok.is-1 c.show.ensures in
    let is : shown_of u ≡ first =
    showed.0 ∙ (ap (λ q. fold board_after (shown_of w) q) c.in_ok-writer.ensures.1 ∙ c.in_ok-writer.ensures.0) in
    opened u c.start-head.result.0 c.start-head.result.1 c.again-latest.result first c.start-head.ensures.head c.start-head.ensures.log c.again-latest.ensures.same c.new.ensures c.again.ensures.same is showed.1 showed.2
