-- The ways so far are those by the links so far.
use Rattle.std.proofs.Common.{◌≡◌, take}
use Rattle.std.specs.Prelude.{flat_map}
use Rattle.beacon_lines.specs.inner.Ways.{ways_over}
use Rattle.beacon_lines.proofs.ways.ways_of.Given as goal

abbrev pub invariant-loop-link : goal.invariant-loop-link
invariant-loop-link l = l.ways.items ≡ flat_map (ways_over l.class) (take l.link-index l.links)
