use Rattle.std.proofs.Common.{◌≡◌, ◌++◌, length, sym, ap, ◌∙◌, arith, length-append, ◌∷◌, []}
use mathlib.Core.List.{IsPrefix}
use Rattle.segment_board.specs.WriterState.{awaited}
use Rattle.segment_board.specs.History.{newest}
use Rattle.segment_board.proofs.Growing.{adds_moves, rises_last, at_true}
use Rattle.segment_board.proofs.history.HistoryPrefix.grow.Goals as goal

pub compare_exchange-found-requires : goal.compare_exchange-found-requires
compare_exchange-found-requires c =
    let h = c.requires.head in
    let offer = c.plain-offer.ensures in
    let pen = c.no_pen-pen.ensures in
    let book : c.again-seen.result.book ≡ c.args.head.now.book =
    ap (λ s. s.book) c.again-seen.ensures ∙ (ap (λ r. r.board) c.self.view_is ∙ sym (ap (λ w. w.book) h)) in
    let log : c.again-seen.result.log ≡ c.args.self.now.log =
    ap (λ s. s.log) c.again-seen.ensures ∙ ap (λ r. r.log) c.self.view_is in
    let may : IsPrefix (newest c.again-seen.result.log).operations (awaited c.args.writer.now).operations =
    rw log c.requires.more in
    let len : length c.again-seen.result.log ≡ c.self.inside.count =
    ap (λ s. length s.log) c.again-seen.ensures ∙ sym c.self.invariant.0 in (
      ap (λ w. w.tracked) h,
      book,
      pen.0 ∙ book,
      offer.0,
      rw (ap (λ w. w.key) h, pen.1, offer.1, offer.3)
          (adds_moves c.again-seen.result.log (awaited c.args.writer.now) c.self.inside.count len may),
    )

pub invariant_of-self : goal.invariant_of-self
invariant_of-self c =
    let e = awaited c.args.writer.now in
    let before : c.again-seen.result.log ≡ c.self.inside.seen.log = ap (λ s. s.log) c.again-seen.ensures in
    let tells =
    at_true _ _ c.compare_exchange-found.result c.self.inside.count c.if-found-count.false c.compare_exchange-found.ensures.7 in
    let added : c.compare_exchange-found.new.seen.log ≡ c.self.inside.seen.log ++ e ∷ [] =
    cc (tells, before, c.plain-offer.ensures.1) in
    let may : IsPrefix (newest c.self.inside.seen.log).operations e.operations =
    rw (ap (λ r. r.log) c.self.view_is) c.requires.more in (
      rw (added, length-append) (omega (arith, c.self.invariant.0)),
      rw added (rises_last c.self.inside.seen.log e c.self.invariant.1 may),
    )
