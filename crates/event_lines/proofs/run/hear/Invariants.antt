-- What was read was told, and what is to come is less.
use Rattle.std.proofs.Common.{◌≡◌, ◌-◌}
use Rattle.streams.specs.Streams.{most_input}
use Rattle.event_lines.specs.inner.Session.{session_value}
use Rattle.event_lines.proofs.Running.{SoFar}
use Rattle.event_lines.proofs.run.hear.Given as goal

abbrev pub invariant-loop-bytes : goal.invariant-loop-bytes
invariant-loop-bytes g l =
    record {
      far : SoFar l.initial.accepted (g.S.Source.left l.initial.source) (g.S.Source.left l.source)
          (g.K.Sink.held l.initial.sink) (g.K.Sink.held l.sink) (session_value l.session) l.count;
      source : g.S.Source.failed l.source ≡ g.S.Source.failed l.initial.source;
      sink : g.K.Sink.failed l.sink ≡ g.K.Sink.failed l.initial.sink;
    }

abbrev pub decreases-loop-bytes : goal.decreases-loop-bytes
decreases-loop-bytes g l = most_input - l.count
