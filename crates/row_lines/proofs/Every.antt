-- In every run of the lines the packet arrives.
use Rattle.std.proofs.Common.{◌≡◌, ℕ, List, [], ◌∷◌, sym, ap, subst, ◌∙◌}
use Rattle.network_core.specs.Value.{NetValue, new_net}
use Rattle.network_core.specs.History.{net_after}
use Rattle.event_lines.specs.declared.accepted.AcceptedLines.TheVariants.{All}
use Rattle.event_lines.specs.Answers.{Stage, Open, AreRun, Begins, RepliesToInput}
use Rattle.row_history.specs.Arrives.{Arrives}
use Rattle.row_history.specs.Row.{row}
use Rattle.row_history.proofs.Only.{only}
use Rattle.row_lines.specs.Lines.{later_lines, row_lines}
use Rattle.row_lines.proofs.Read.{topology_read, later_read}

run_arrives : (texts : List (List ℕ)) (net : NetValue) → AreRun All row later_lines texts net
    → (arrives : Arrives) × (net ≡ net_after (new_net row) arrives.history)
run_arrives texts net lines =
    let one = only lines.ran.history lines.ran.run.is (lines.ran.of ∙ later_read) in
    (one.0, sym (ap (net_after (new_net row)) one.1 ∙ lines.ran.ends))

pub every : (texts : List (List ℕ)) (stage : Stage)
    → RepliesToInput All row_lines texts stage
    → (arrives : Arrives) × (stage ≡ Open (net_after (new_net row) arrives.history))
every [] stage replies = absurd replies
every (text ∷ texts) stage replies =
    let begun = subst (λ topology. Begins All topology text later_lines texts stage)
    topology_read replies in
    let one = run_arrives texts begun.0 begun.1.1.1 in
    (one.0, begun.1.1.0 ∙ ap Open one.1)
