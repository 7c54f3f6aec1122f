use Rattle.std.proofs.Common.{◌≡◌, ◌-◌, ◌*◌, drop}
use Rattle.path_header.specs.Reading.{info_at, fields_at}
use Rattle.path_header.specs.Shown.{without_value}
use Rattle.path_header.proofs.checking.check_infos.Given as goal

abbrev pub invariant-loop-i : goal.invariant-loop-i
invariant-loop-i l = without_value (fields_at info_at 8 (l.count - l.i) (drop (8 * l.i) l.bytes)) ≡ without_value (fields_at info_at 8 l.count l.bytes)
