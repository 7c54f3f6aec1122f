use Rattle.std.proofs.Common.{◌≡◌, [], ap}
use Rattle.segment_board.specs.WriterState.{queue_of, edition_of, awaited, operations_of}
use Rattle.segment_board.proofs.InOrder.{written, marked, made_ready, is_ready, after_show, Showed, Kept, showed_view, kept_view, on_ok, on_err, has_grown, is_marked}
use Rattle.segment_board.proofs.writer.BoardWriter.publish.Goals as goal

pub invariant_of-self : goal.invariant_of-self
invariant_of-self g c =
    let was = c.self.inside in
    let next = c.grow.new.self in
    let v = c.mark-marked.new.writer in
    let step =
    has_grown next c.again-latest.result was.latest (awaited was.writer) c.if-not-grow.false c.grow.ensures c.again-latest.ensures.same in
    made_ready was.writer v was.head was.root was.latest next c.self.invariant c.mark-marked.ensures.desk step
    (ap operations_of c.if-not-marked.ensures.queue)

pub replace_with-requires : goal.replace_with-requires
replace_with-requires g c =
    let was = c.self.inside in
    let next = c.grow.new.self in
    let v = c.mark-marked.new.writer in
    let step =
    has_grown next c.again-latest.result was.latest (awaited was.writer) c.if-not-grow.false c.grow.ensures c.again-latest.ensures.same in
    let queue =
    is_marked (queue_of was.writer) (queue_of v) c.again.result next c.if-not-marked.ensures.queue c.again.ensures.same in
    is_ready was.writer v was.head was.root was.latest next c.self.invariant c.mark-marked.ensures.desk step queue

pub invariant_of-self-2 : goal.invariant_of-self-2
invariant_of-self-2 g c =
    let was = c.self.inside in
    let next = c.grow.new.self in
    let v = c.mark-marked.new.writer in
    let step =
    has_grown next c.again-latest.result was.latest (awaited was.writer) c.if-not-grow.false c.grow.ensures c.again-latest.ensures.same in
    let queue =
    is_marked (queue_of was.writer) (queue_of v) c.again.result next c.if-not-marked.ensures.queue c.again.ensures.same in
    let order =
    made_ready was.writer v was.head was.root was.latest next c.self.invariant c.mark-marked.ensures.desk step (marked (queue_of was.writer) (queue_of v) next queue) in
    let ready =
    is_ready was.writer v was.head was.root was.latest next c.self.invariant c.mark-marked.ensures.desk step queue in
    after_show was.writer v was.head was.root was.latest next c.replace_with.new.dest c.replace_with.result order queue ready c.replace_with.ensures

pub returns-clause-done : goal.returns-clause-done
returns-clause-done g c =
    let was = c.self.inside in
    let next = c.grow.new.self in
    let v = c.mark-marked.new.writer in
    let step =
    has_grown next c.again-latest.result was.latest (awaited was.writer) c.if-not-grow.false c.grow.ensures c.again-latest.ensures.same in
    let queue =
    is_marked (queue_of was.writer) (queue_of v) c.again.result next c.if-not-marked.ensures.queue c.again.ensures.same in
    let u = c.replace_with.new.dest in
    rw (← c.self.view_is)
    (on_ok c.replace_with.result (Showed was.writer v was.head was.root was.latest next u) (Kept was.writer v was.head was.root was.latest next u) (written next.board (edition_of u) (operations_of (queue_of u)) ≡ written was.latest.board (awaited was.writer) []) c.replace_with.ensures
    (showed_view was.writer v was.head was.root was.latest next u step queue))

pub returns-clause-kept : goal.returns-clause-kept
returns-clause-kept g c =
    let was = c.self.inside in
    let next = c.grow.new.self in
    let v = c.mark-marked.new.writer in
    let step =
    has_grown next c.again-latest.result was.latest (awaited was.writer) c.if-not-grow.false c.grow.ensures c.again-latest.ensures.same in
    let queue =
    is_marked (queue_of was.writer) (queue_of v) c.again.result next c.if-not-marked.ensures.queue c.again.ensures.same in
    let u = c.replace_with.new.dest in
    rw (← c.self.view_is)
    (on_err c.replace_with.result (Showed was.writer v was.head was.root was.latest next u) (Kept was.writer v was.head was.root was.latest next u) (written next.board (edition_of u) (operations_of (queue_of u)) ≡ written was.latest.board (edition_of was.writer) (operations_of (queue_of was.writer))) c.replace_with.ensures
    (kept_view was.writer v was.head was.root was.latest next u c.mark-marked.ensures.desk step (marked (queue_of was.writer) (queue_of v) next queue)))
