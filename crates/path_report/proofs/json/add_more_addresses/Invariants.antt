-- The ASes of the front are added.
use Rattle.std.proofs.Common.{◌≡◌, ◌++◌, take, codes}
use Rattle.std.specs.Prelude.{flat_map}
use Rattle.std.specs.String.{string_bytes}
use Rattle.path_report.specs.Json.{address_json}
use Rattle.path_report.proofs.json.add_more_addresses.Given as goal

abbrev pub invariant-loop-ia : goal.invariant-loop-ia
invariant-loop-ia l =
    string_bytes l.text ≡ string_bytes l.initial.text ++ flat_map (λ ia. codes "," ++ address_json ia)
    (take l.ia-index l.ases)
