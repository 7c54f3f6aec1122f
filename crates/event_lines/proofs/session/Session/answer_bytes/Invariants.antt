-- Of the bytes a front was heard.
use Rattle.std.proofs.Common.{length}
use Rattle.event_lines.specs.inner.Session.{session_value}
use Rattle.event_lines.proofs.Heard.{Heard}
use Rattle.event_lines.proofs.session.Session.answer_bytes.Given as goal

abbrev pub invariant-loop-line : goal.invariant-loop-line
invariant-loop-line l = Heard l.initial.accepted l.bytes l.left (session_value l.initial.self) (session_value l.self)

abbrev pub decreases-loop-line : goal.decreases-loop-line
decreases-loop-line l = length l.left
