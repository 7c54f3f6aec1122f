-- Of the bytes a front was told.
use Rattle.std.proofs.Common.{◌+◌, ◌≤◌, length, Some}
use Rattle.std.specs.String.{string_bytes}
use Rattle.line_faults.specs.inner.Telling.{telling_value}
use Rattle.line_faults.proofs.Front.{Front}
use Rattle.line_faults.proofs.telling.Telling.tell_bytes.Given as goal

abbrev pub invariant-loop-line : goal.invariant-loop-line
invariant-loop-line l =
    record {
      far : Front l.bytes l.left (telling_value l.initial.self) (telling_value l.self)
          (Some (string_bytes l.initial.self.notes.text)) (Some (string_bytes l.self.notes.text));
      number : l.self.notes.number + length l.left ≤ l.initial.self.notes.number + length l.bytes;
    }

abbrev pub decreases-loop-line : goal.decreases-loop-line
decreases-loop-line l = length l.left
