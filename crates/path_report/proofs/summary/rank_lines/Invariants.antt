-- The text so far has the lines of the links so far.
use Rattle.std.proofs.Common.{◌≡◌, take}
use Rattle.std.specs.Prelude.{flat_map}
use Rattle.std.specs.String.{string_bytes}
use Rattle.path_report.specs.Report.{rank_text}
use Rattle.path_report.proofs.summary.rank_lines.Given as goal

abbrev pub invariant-loop-one : goal.invariant-loop-one
invariant-loop-one l = string_bytes l.text ≡ flat_map (rank_text l.json) (take l.one-index l.ranked)
