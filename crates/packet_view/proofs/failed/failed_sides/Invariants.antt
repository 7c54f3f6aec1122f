-- The first check that fails is among those that are left.
use Rattle.std.proofs.Common.{◌≡◌, drop}
use Rattle.packet_view.specs.Failed.{failed_sides}
use Rattle.packet_view.proofs.failed.failed_sides.Given as goal

abbrev pub invariant-loop-check : goal.invariant-loop-check
invariant-loop-check l = failed_sides l.checks ≡ failed_sides (drop l.check-index l.checks)
