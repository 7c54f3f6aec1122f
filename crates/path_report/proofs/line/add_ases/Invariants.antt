-- The ASes of the front are added.
use Rattle.std.proofs.Common.{◌≡◌, ◌++◌, take, codes}
use Rattle.std.specs.Prelude.{flat_map}
use Rattle.std.specs.String.{string_bytes}
use Rattle.isd_as.specs.Address.{canonical}
use Rattle.path_report.proofs.line.add_ases.Given as goal

abbrev pub invariant-loop-ia : goal.invariant-loop-ia
invariant-loop-ia l =
    string_bytes l.text ≡ string_bytes l.initial.text ++ flat_map (λ ia. codes " " ++ canonical ia)
    (take l.ia-index l.ases)
