use Rattle.std.proofs.Common.{map, take}
use Rattle.network_core.specs.Event.{event_value}
use Rattle.network_core.proofs.Runs.{Goes}
use Rattle.network_core.proofs.running.run.Given as goal

-- the events so far lead to the network
abbrev pub invariant-loop-done : goal.invariant-loop-done
invariant-loop-done l = Goes l.fn.topology (take l.done (map event_value l.events)) l.net
