-- The paths so far are those of the front.
use Rattle.std.proofs.Common.{◌≡◌, map, take}
use Rattle.path_verifier.specs.Accepted.{Request}
use Rattle.combinator.specs.Candidate.{path_with}
use Rattle.combinator.proofs.answer.verified_paths.Given as goal

abbrev pub invariant-loop-path : goal.invariant-loop-path
invariant-loop-path g l = map (λ (path : Request). path_with path.pieces path.header) l.paths.items ≡ take l.path-index l.found
