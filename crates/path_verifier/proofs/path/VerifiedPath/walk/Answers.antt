use Rattle.std.proofs.Common.{◌≤◌, List, length, ap, arith}
use Rattle.policy_expr.specs.declared.hop.WalkHop.{WalkHop}
use Rattle.path_verifier.specs.Walk.{walk_of}
use Rattle.path_verifier.proofs.Breaches.{path_kept}
use Rattle.path_verifier.proofs.Lengths.{walk_is_long}
use Rattle.path_verifier.proofs.path.VerifiedPath.walk.Goals as goal

pub returns-clause-count : goal.returns-clause-count
returns-clause-count g c =
    let long : 2 ≤ length (walk_of c.self.inside.pieces) = walk_is_long _ _ _ _ (path_kept c.self.invariant.0) in
    let shown = ap (λ (w : List WalkHop). length w) c.as_slice.ensures.value in
    let same = ap (λ (w : List WalkHop). length w) c.self.invariant.1 in
    (omega (arith, long, shown, same), omega (arith, shown, c.as_slice.ensures.few))
