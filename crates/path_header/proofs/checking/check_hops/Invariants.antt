use Rattle.std.proofs.Common.{◌≡◌, ◌-◌, ◌*◌, drop}
use Rattle.path_header.specs.Reading.{hop_at, fields_at}
use Rattle.path_header.specs.Shown.{without_value}
use Rattle.path_header.proofs.checking.check_hops.Given as goal

abbrev pub invariant-loop-i : goal.invariant-loop-i
invariant-loop-i l = without_value (fields_at hop_at 12 (l.count - l.i) (drop (12 * l.i) l.bytes)) ≡ without_value (fields_at hop_at 12 l.count l.bytes)
