use Rattle.std.proofs.Common.{◌≡◌, true, false, sym, ◌∙◌}
use Rattle.combinator.proofs.Least.{none_still, some_still, some_more, none_at_end, some_at_end, lens_there}
use Rattle.combinator.proofs.group.least_until.Goals as goal

pub lesser-requires : goal.lesser-requires
lesser-requires c =
    lens_there c.loop-piece.least (λ b. b.now) c.args.half c.args.pieces.now c.loop-piece.piece-index c.piece-item.result
    c.loop-piece-test.true c.piece-item.is c.requires c.loop-piece.invariant.some

pub loop-piece-preserved-then-not-lasts_to : goal.loop-piece-preserved-then-not-lasts_to
loop-piece-preserved-then-not-lasts_to c = record {
  none = none_still c.loop-piece.least c.args.half c.args.pieces.now c.loop-piece.piece-index c.piece-item.result
      c.loop-piece-test.true c.piece-item.is
      (λ lasts. (let is = c.lasts_to.ensures.1 lasts in let both : true ≡ false = sym is ∙ c.if-not-lasts_to.true in cc))
      c.loop-piece.invariant.none;
  some = some_still c.loop-piece.least (λ b. b.now) c.args.half c.args.pieces.now c.loop-piece.piece-index c.piece-item.result
      c.loop-piece-test.true c.piece-item.is
      (λ lasts. (let is = c.lasts_to.ensures.1 lasts in let both : true ≡ false = sym is ∙ c.if-not-lasts_to.true in cc))
      c.loop-piece.invariant.some;
}

pub loop-piece-preserved : goal.loop-piece-preserved
loop-piece-preserved c = record {
  none = tt;
  some = some_more c.loop-piece.least (λ b. b.now) c.args.half c.args.pieces.now c.loop-piece.piece-index c.piece-item.result
      c.lesser.result.now c.loop-piece-test.true c.piece-item.is (c.lasts_to.ensures.0 c.if-not-lasts_to.false)
      c.loop-piece.invariant.none c.loop-piece.invariant.some c.lesser.ensures.none c.lesser.ensures.some c.lesser.ensures.piece;
}

pub returns-clause-none : goal.returns-clause-none
returns-clause-none c =
    none_at_end c.loop-piece.least c.args.half c.args.pieces.now c.loop-piece.piece-index c.loop-piece-test.false c.loop-piece.invariant.none

pub returns-clause-some : goal.returns-clause-some
returns-clause-some c =
    some_at_end c.loop-piece.least (λ b. b.now) c.args.half c.args.pieces.now c.loop-piece.piece-index c.loop-piece-test.false c.loop-piece.invariant.some
