use Rattle.std.proofs.Common.{rules, Some}
use Rattle.std.proofs.lemmas.Result.{err_from_is_err_and}
use Rattle.std.specs.String.{string_bytes}
use Rattle.event_lines.specs.Answers.{Closed}
use Rattle.event_lines.specs.Replies.{reply_behind, stage_behind}
use Rattle.line_faults.specs.inner.Telling.{closed_at, stands_at, tally_of}
use Rattle.line_faults.proofs.Front.{line_after, line_told, line_untold, refused_says}
use Rattle.line_faults.proofs.telling.tell_known.Goals as goal

pub returns-in_err-tell-in-Err-Topology : goal.returns-in_err-tell-in-Err-Topology
returns-in_err-tell-in-Err-Topology c =
    let p = err_from_is_err_and c.from_residual.result c.from_residual.ensures.1 in
    rw (p.1, p.2)
    (line_untold c.in_err-tell-in-Err-Topology.field-0.0 c.args.line.now (reply_behind c.answer.new.self)
    (stands_at c.args.run.now c.args.notes.now) Closed (tally_of c.tell-in-Err-Topology.new.self)
    (stands_at c.answer.new.self c.tell-in-Err-Topology.new.self)
    (Some (string_bytes c.args.notes.now.text)) (Some (string_bytes c.tell-in-Err-Topology.new.self.text))
    (refused_says c.answer.result (stage_behind c.args.run.now) (stage_behind c.answer.new.self) c.args.line.now
    (reply_behind c.answer.new.self) (search (rules, c.in-Err-Topology.is, c.in-Err-Topology.field-0-is)) c.answer.ensures.replied) c.in_err-tell-in-Err-Topology.ensures)

pub returns-in-Ok : goal.returns-in-Ok
returns-in-Ok c =
    line_after c.tell.result c.args.line.now (reply_behind c.answer.new.self)
    (stands_at c.args.run.now c.args.notes.now) (stands_at c.answer.new.self c.tell.new.self)
    (Some (string_bytes c.args.notes.now.text)) (Some (string_bytes c.tell.new.self.text)) c.in-Ok.ensures.replied c.tell.ensures

pub returns-in_ok-tell-in-Err-Topology : goal.returns-in_ok-tell-in-Err-Topology
returns-in_ok-tell-in-Err-Topology c =
    line_told c.args.line.now (reply_behind c.answer.new.self) (stands_at c.args.run.now c.args.notes.now)
    (closed_at (stands_at c.answer.new.self c.tell-in-Err-Topology.new.self))
    (Some (string_bytes c.args.notes.now.text)) (Some (string_bytes c.tell-in-Err-Topology.new.self.text))
    (refused_says c.answer.result (stage_behind c.args.run.now) (stage_behind c.answer.new.self) c.args.line.now
    (reply_behind c.answer.new.self) (search (rules, c.in-Err-Topology.is, c.in-Err-Topology.field-0-is)) c.answer.ensures.replied) c.in_ok-tell-in-Err-Topology.ensures
