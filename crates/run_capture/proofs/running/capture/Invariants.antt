-- The lines before what is left were recorded.
use Rattle.std.proofs.Common.{◌≡◌, length}
use Rattle.event_lines.specs.Replies.{stage_behind}
use Rattle.run_capture.proofs.Recorded.{SoFar}
use Rattle.run_capture.proofs.running.capture.Given as goal

abbrev pub invariant-loop-line : goal.invariant-loop-line
invariant-loop-line l =
    record {
      far : SoFar l.info l.input l.left (stage_behind l.recorder.run) l.recorder.file.items;
      info : l.recorder.info ≡ l.info;
    }

abbrev pub decreases-loop-line : goal.decreases-loop-line
decreases-loop-line l = length l.left
