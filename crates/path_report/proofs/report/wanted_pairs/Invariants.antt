-- The pairs so far are those that begin in the ASes so far.
use Rattle.std.proofs.Common.{◌≡◌, take}
use Rattle.std.specs.Prelude.{flat_map}
use Rattle.path_report.specs.Report.{pairs_from}
use Rattle.path_report.proofs.report.wanted_pairs.Given as goal

abbrev pub invariant-loop-one : goal.invariant-loop-one
invariant-loop-one l =
    l.pairs.items ≡ flat_map (λ one. pairs_from l.wanted l.ases one.ia) (take l.one-index l.ases)
