use Rattle.std.proofs.Common.{◌≡◌, ◌-◌, ◌*◌, List, drop, length, Ok}
use Rattle.path_header.specs.declared.fields.InfoField.{InfoField}
use Rattle.path_header.specs.Reading.{info_at, fields_at}
use Rattle.path_header.proofs.FieldLoop.{with_front}
use Rattle.path_header.proofs.reading.infos_in.Given as goal

abbrev pub invariant-loop-i : goal.invariant-loop-i
invariant-loop-i l = record {
  read : (all : List InfoField) → fields_at info_at 8 l.count l.bytes ≡ Ok all
      → with_front l.infos.items (fields_at info_at 8 (l.count - l.i) (drop (8 * l.i) l.bytes)) ≡ Ok all;
  len : length l.infos.items ≡ l.i;
}
