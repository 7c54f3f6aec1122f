-- What a run of the lines leaves behind.
use Rattle.std.specs.Prelude.{ℕ, List, Option}
use Rattle.std.specs.Io.KnownBytes.{Appends}
use Rattle.network_core.specs.Value.{new_net}
use Rattle.network_core.specs.History.{net_after}
use Rattle.event_lines.specs.declared.accepted.AcceptedLines.TheVariants.{All}
use Rattle.event_lines.specs.Answers.{Open, RepliesToInput}
use Rattle.event_lines.specs.Run.{ended_lines}
use Rattle.row_history.specs.Row.{row}
use Rattle.row_history.specs.Arrives.{Arrives}
use Rattle.row_lines.specs.Lines.{row_lines}

-- the sink has got replies to all lines, which lead to the network in which the packet has arrived
pub record HasDelivered (held holds : Option (List ℕ)) : Type 0 where
  pub arrives : Arrives
  pub texts : List (List ℕ)
  pub replies : RepliesToInput All row_lines texts
      (Open (net_after (new_net row) arrives.history))
  pub written : Appends held holds (ended_lines texts)
