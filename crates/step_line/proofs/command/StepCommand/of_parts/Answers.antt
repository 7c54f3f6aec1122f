use Rattle.std.proofs.Common.{rules, ◌≡◌, true, false, sym}
use Rattle.std.specs.Result.{is_err}
use Rattle.scion_topology.specs.Building.{view_of}
use Rattle.step_line.specs.Turn.{items_of}
use Rattle.step_line.proofs.Views.{view_of_accepts, turn_with_accepted, turn_with_refused}
use Rattle.step_line.proofs.command.StepCommand.of_parts.Goals as goal

pub returns-then-is_err : goal.returns-then-is_err
returns-then-is_err c =
    let a = c.args.parts in
    let bad : is_err (view_of a.ia a.router a.key.items (items_of a.previous) a.table.items) ≡ true = search rules in
    sym (turn_with_refused a.ia a.router a.key.items (items_of a.previous) a.moment a.arrival a.table.items bad)

pub invariant_of-result : goal.invariant_of-result
invariant_of-result c =
    let a = c.args.parts in
    let good : is_err (view_of a.ia a.router a.key.items (items_of a.previous) a.table.items) ≡ false = search rules in
    view_of_accepts a.ia a.router a.key.items (items_of a.previous) a.table.items good

pub returns : goal.returns
returns c =
    let a = c.args.parts in
    let good : is_err (view_of a.ia a.router a.key.items (items_of a.previous) a.table.items) ≡ false = search rules in
    sym (turn_with_accepted a.ia a.router a.key.items (items_of a.previous) a.moment a.arrival a.table.items good)
