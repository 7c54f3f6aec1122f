-- The text so far has the lines of the events so far.
use Rattle.std.proofs.Common.{◌≡◌, ◌++◌, take}
use Rattle.std.specs.Prelude.{flat_map}
use Rattle.std.specs.String.{string_bytes}
use Rattle.beacon_lines.specs.Beaconing.{network_event}
use Rattle.beacon_lines.specs.Lines.{event_line}
use Rattle.beacon_lines.proofs.lines.push_lines.Given as goal

abbrev pub invariant-loop-event : goal.invariant-loop-event
invariant-loop-event l =
    string_bytes l.text
    ≡ string_bytes l.initial.text ++ flat_map (λ event. event_line (network_event event))
    (take l.event-index l.events)
