-- The copies so far are those of the front.
use Rattle.std.proofs.Common.{◌≡◌, take}
use Rattle.combinator.proofs.path.PathList.try_clone.Given as goal

abbrev pub invariant-loop-path : goal.invariant-loop-path
invariant-loop-path l = l.paths.items ≡ take l.path-index l.self.paths
