-- What was read was told, and what is to come is less.
use Rattle.std.proofs.Common.{◌≡◌, ◌-◌, []}
use Rattle.std.specs.String.{string_bytes}
use Rattle.streams.specs.Streams.{most_input}
use Rattle.line_faults.specs.inner.Telling.{telling_value}
use Rattle.line_faults.proofs.Running.{SoFar}
use Rattle.line_faults.proofs.telling.explain.Given as goal

abbrev pub invariant-loop-bytes : goal.invariant-loop-bytes
invariant-loop-bytes g l =
    record {
      far : SoFar l.initial.telling.notes.form (g.S.Source.left l.initial.source) (g.S.Source.left l.source)
          (g.K.Sink.held l.initial.sink) (g.K.Sink.held l.sink) (telling_value l.telling) l.count;
      none : string_bytes l.telling.notes.text ≡ [];
      source : g.S.Source.failed l.source ≡ g.S.Source.failed l.initial.source;
      sink : g.K.Sink.failed l.sink ≡ g.K.Sink.failed l.initial.sink;
    }

abbrev pub decreases-loop-bytes : goal.decreases-loop-bytes
decreases-loop-bytes g l = most_input - l.count
