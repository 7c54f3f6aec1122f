-- The ASes so far.
use Rattle.std.proofs.Common.{◌≡◌, take}
use Rattle.std.specs.Prelude.{nat_eq}
use Rattle.std.specs.HashSet.{contains}
use Rattle.network_view.specs.Extent.{central}
use Rattle.network_view.proofs.extent.central.Given as goal

abbrev pub invariant-loop-one : goal.invariant-loop-one
invariant-loop-one l = contains nat_eq l.found ≡ central l.centre (take l.one-index l.ases)
