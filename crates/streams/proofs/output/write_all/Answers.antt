use Rattle.std.proofs.Common.{arith, ◌∙◌}
use Rattle.std.proofs.KnownBytes.{Keeps-refl}
use Rattle.streams.proofs.Fronts.{Appends-none, Written-front, Written-more, flag_still}
use Rattle.streams.proofs.output.write_all.Goals as goal

pub loop-rest-preserved : goal.loop-rest-preserved
loop-rest-preserved g c = (
  Written-more _ _ _ _ _ _ c.loop-rest.invariant.0 c.in-Ok.ensures.bytes,
  c.in-Ok.ensures.flag ∙ flag_still _ _ _ c.if-count-gt0.true ∙ c.loop-rest.invariant.1,
)

pub returns-in_default-clause-front : goal.returns-in_default-clause-front
returns-in_default-clause-front g c =
    Written-front _ _ _ _ _ c.loop-rest.invariant.0 (Appends-none _ _ _ _ (omega (arith, c.if-count-gt0.false)) c.in-Ok.ensures.bytes)

pub returns-in_default-2-clause-front : goal.returns-in_default-2-clause-front
returns-in_default-2-clause-front g c = Written-front _ _ _ _ _ c.loop-rest.invariant.0 c.in_default.ensures.bytes

pub returns-clause-front : goal.returns-clause-front
returns-clause-front g c = Written-front _ _ _ _ _ c.loop-rest.invariant.0 (Keeps-refl _)
