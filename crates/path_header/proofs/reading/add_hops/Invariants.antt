use Rattle.std.proofs.Common.{◌≡◌, ◌-◌, ◌*◌, List, drop, length, Ok}
use Rattle.path_header.specs.declared.fields.HopField.{HopField}
use Rattle.path_header.specs.Reading.{hop_at, fields_at}
use Rattle.path_header.proofs.FieldLoop.{with_front}
use Rattle.path_header.proofs.reading.add_hops.Given as goal

abbrev pub invariant-loop-i : goal.invariant-loop-i
invariant-loop-i l = record {
  read : (all : List HopField) → fields_at hop_at 12 l.count l.bytes ≡ Ok all
      → with_front l.hops.items (fields_at hop_at 12 (l.count - l.i) (drop (12 * l.i) l.bytes)) ≡ Ok all;
  len : length l.hops.items ≡ l.i;
}
