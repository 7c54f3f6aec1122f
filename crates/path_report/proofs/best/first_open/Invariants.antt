-- No path so far is open.
use Rattle.std.proofs.Common.{◌≡◌, [], take}
use Rattle.path_report.specs.Paths.{open_paths}
use Rattle.path_report.proofs.best.first_open.Given as goal

abbrev pub invariant-loop-place : goal.invariant-loop-place
invariant-loop-place l = open_paths l.topology.links (take l.place l.paths) ≡ []
