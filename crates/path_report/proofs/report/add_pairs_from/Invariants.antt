-- The pairs so far are those that end in the ASes so far.
use Rattle.std.proofs.Common.{◌≡◌, ◌++◌, take}
use Rattle.std.specs.Prelude.{flat_map}
use Rattle.path_report.specs.Report.{if_wanted}
use Rattle.path_report.proofs.report.add_pairs_from.Given as goal

abbrev pub invariant-loop-one : goal.invariant-loop-one
invariant-loop-one l =
    l.pairs.items ≡ l.initial.pairs.items
    ++ flat_map (λ one. if_wanted l.wanted (record { from = l.fn.from; to = one.ia })) (take l.one-index l.ases)
