use Rattle.std.proofs.Common.{ℕ, All, Contains, sym, subst}
use Rattle.std.proofs.lemmas.List.Elements.{All-push}
use Rattle.combinator.specs.Candidate.{IsOf}
use Rattle.combinator.specs.inner.UsablePieces.{piece_of, AreIn}
use Rattle.combinator.proofs.Collected.{pushed_more, pushed_here}
use borrow.Author.Count.{below_more}
use Rattle.combinator.proofs.usable_pieces.add_cuts_to.Goals as goal

pub loop-from-preserved : goal.loop-from-preserved
loop-from-preserved c =
    let old = c.loop-from.usable_pieces.items in
    let new = c.push.new.self.items in
    let grown : AreIn old new = pushed_more old new c.new.result c.in_ok-push.ensures.items in record {
      more = λ piece there. grown piece (c.loop-from.invariant.more piece there);
      own = λ set own all.
          subst (All (IsOf set)) (sym c.in_ok-push.ensures.items)
          (All-push (IsOf set) old c.new.result (c.loop-from.invariant.own set own all) (subst (IsOf set) (sym c.new.ensures) own));
      all = below_more
          (λ (from : ℕ). Contains new (piece_of c.args.segment.now from c.args.to c.args.along)) c.loop-from.from
          (λ from less. grown (piece_of c.args.segment.now from c.args.to c.args.along) (c.loop-from.invariant.all from less))
          (subst (Contains new) c.new.ensures (pushed_here old new c.new.result c.in_ok-push.ensures.items));
    }
