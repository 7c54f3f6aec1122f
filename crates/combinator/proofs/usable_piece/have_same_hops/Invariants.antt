use Rattle.std.proofs.Common.{take}
use Rattle.path_verifier.specs.Walk.{hops_of}
use Rattle.combinator.specs.inner.Alike.{AreSameHops}
use Rattle.combinator.proofs.usable_piece.have_same_hops.Given as goal

abbrev pub invariant-loop-place : goal.invariant-loop-place
invariant-loop-place l = AreSameHops (take l.place (hops_of l.one)) (take l.place (hops_of l.other))
