use Rattle.std.proofs.Common.{◌≡◌, ℕ, ◌<◌, true, false, not, List, length, Some, Contains, refl, sym, ap, subst, ◌∙◌, eq-eqb}
use Rattle.std.specs.Prelude.{slice_get}
use Rattle.std.proofs.lemmas.Option.{slice_get_read}
use Rattle.path_segment.specs.declared.entry.Entry.{Entry}
use Rattle.combinator.specs.inner.UsablePieces.{piece_of, outer_of}
use Rattle.combinator.proofs.Outer.{outer_there}
use borrow.Author.Count.{below_more}
use Rattle.combinator.proofs.usable_pieces.add_pieces_of.Goals as goal

pub loop-to-preserved : goal.loop-to-preserved
loop-to-preserved c = record {
  more = λ piece there. c.in_ok-add_cuts_to.ensures.more piece (c.loop-to.invariant.more piece there);
  own = λ set own all. c.in_ok-add_cuts_to.ensures.own set own (c.loop-to.invariant.own set own all);
  all = λ from to less below.
      below_more (λ (to' : ℕ). (from' : ℕ) → from' < to' → outer_of (piece_of c.args.segment.now from' to' c.args.along) ≡ c.args.outer → Contains c.add_cuts_to.new.usable_pieces.items (piece_of c.args.segment.now from' to' c.args.along)) c.loop-to.to
      (λ to' below' from' less' end. c.in_ok-add_cuts_to.ensures.more (piece_of c.args.segment.now from' to' c.args.along) (c.loop-to.invariant.all from' to' less' below' end))
      (λ from' less' end. c.in_ok-add_cuts_to.ensures.all from' less') to below from less;
}

-- a piece whose last entry is another AS's does not have this AS at its outer end
pub loop-to-preserved-then-ne : goal.loop-to-preserved-then-ne
loop-to-preserved-then-ne c =
    let a = c.args in
    let entries = c.entries-entry-items.result.now in
    let entry = c.entry-item.result in
    let same : entries ≡ a.segment.now.entries = c.entries-entry-items.ensures.value in
    let within = subst (λ (es : List Entry). c.loop-to.to < length es) same c.loop-to-test.true in
    let there = subst (λ (es : List Entry). slice_get es c.loop-to.to ≡ Some entry) same
    (slice_get_read entries (length entries) c.loop-to.to entry refl c.loop-to-test.true c.entry-item.is) in record {
      more = c.loop-to.invariant.more;
      own = c.loop-to.invariant.own;
      all = λ from to less below.
          below_more (λ (to' : ℕ). (from' : ℕ) → from' < to' → outer_of (piece_of a.segment.now from' to' a.along) ≡ a.outer → Contains c.loop-to.usable_pieces.items (piece_of a.segment.now from' to' a.along)) c.loop-to.to
          (λ to' below' from' less' end. c.loop-to.invariant.all from' to' less' below' end)
          (λ from' less' end. absurd (
          let is : entry.ia ≡ a.outer =
          sym (outer_there a.segment.now from' c.loop-to.to entry less' within there a.along) ∙ end in
          let clash : false ≡ true = sym (ap not (eq-eqb entry.ia a.outer is)) ∙ sym c.ne.ensures ∙ c.if-ne.true in
          cc))
          to below from less;
    }
