-- The numbers so far are those of the first links, whose interfaces have numbers of 16 bits.
use Rattle.std.proofs.Common.{◌≡◌, take}
use Rattle.std.specs.List.{flat_map, AllWithin}
use Rattle.scion_topology.specs.inner.Doubled.{HasBits, numbers_of}
use Rattle.scion_topology.proofs.duplicates.interface_numbers.Given as goal

abbrev pub invariant-loop-link : goal.invariant-loop-link
invariant-loop-link l = record {
  numbers : l.numbers.items ≡ flat_map numbers_of (take l.link-index l.links);
  bits : AllWithin HasBits l.links 0 l.link-index;
}
