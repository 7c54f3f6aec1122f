use Rattle.std.proofs.Common.{◌≡◌, ◌++◌, map, drop}
use Rattle.std.specs.Prelude.{option_map}
use Rattle.step_line.specs.Fields.{table_at}
use Rattle.step_line.proofs.fields.interfaces.Given as goal

abbrev pub invariant-loop-text : goal.invariant-loop-text
invariant-loop-text l =
    table_at (map (λ t. t.now) l.texts)
    ≡ option_map (λ entries. l.table.items ++ entries) (table_at (map (λ t. t.now) (drop l.text-index l.texts)))
