-- The numbers so far are those of the first ASes.
use Rattle.std.proofs.Common.{◌≡◌, map, take}
use Rattle.scion_topology.proofs.duplicates.as_numbers.Given as goal

abbrev pub invariant-loop-one : goal.invariant-loop-one
invariant-loop-one l = l.numbers.items ≡ map (λ one. one.ia) (take l.one-index l.ases)
