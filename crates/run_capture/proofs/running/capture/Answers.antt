-- The lines before what is left were recorded, up to the end or to a line at which the run ends.
use Rattle.std.proofs.Common.{◌++◌, refl, ap, ◌∙◌}
use Rattle.std.specs.Prelude.{flat_map}
use Rattle.std.proofs.lemmas.Result.{err_from_is_err_and}
use Rattle.event_lines.specs.Replies.{stage_behind}
use Rattle.wire_packets.specs.File.{datagram_record}
use Rattle.run_capture.specs.Lines.{line_datagrams}
use Rattle.run_capture.proofs.Recorded.{begun_after, cut_first, ended, is_open, more, rest_first}
use Rattle.run_capture.proofs.Failing.{not_recorded}
use Rattle.run_capture.proofs.running.capture.Goals as goal

pub returns-in_err-record : goal.returns-in_err-record
returns-in_err-record c =
    let l = c.loop-line in
    let p = err_from_is_err_and c.from_residual-in_err-record.result c.from_residual-in_err-record.ensures.1 in
    rw (p.1, p.2)
    (not_recorded c.in_err-record.field-0.0 c.args.info.now l.recorder.info c.args.input.now
    l.left.now c.in-Some.line.now (stage_behind l.recorder.run)
    (stage_behind c.record.new.self.run) l.recorder.file.items c.record.new.self.file.items
    l.invariant.far
    (cut_first l.left.now c.in-Some.line.now c.in-Some.behind.now c.in-Some.ensures.cut)
    c.in_err-record.ensures.file)

pub loop-line-preserved : goal.loop-line-preserved
loop-line-preserved c =
    let l = c.loop-line in
    let told = c.in_ok-record.ensures.file in
    record {
      far = more c.args.info.now c.args.input.now l.left.now c.in-Some.line.now c.in-Some.behind.now
          told.0 (stage_behind l.recorder.run) (stage_behind c.record.new.self.run)
          l.recorder.file.items c.record.new.self.file.items l.invariant.far c.in-Some.ensures.cut
          told.1.0
          (told.1.1 ∙ ap (λ i. l.recorder.file.items ++ flat_map datagram_record
          (line_datagrams i (stage_behind l.recorder.run) c.in-Some.line.now
          (stage_behind c.record.new.self.run))) l.invariant.info);
      info = c.in_ok-record.ensures.info ∙ l.invariant.info;
    }

pub returns-in_err-record-2 : goal.returns-in_err-record-2
returns-in_err-record-2 c =
    let l = c.loop-line in
    let p = err_from_is_err_and c.from_residual-in_err-record-2.result c.from_residual-in_err-record-2.ensures.1 in
    rw (p.1, p.2)
    (not_recorded c.in_err-record-2.field-0.0 c.args.info.now l.recorder.info c.args.input.now
    l.left.now l.left.now (stage_behind l.recorder.run) (stage_behind c.record-2.new.self.run)
    l.recorder.file.items c.record-2.new.self.file.items l.invariant.far
    (rest_first l.left.now (c.in_default.ensures.none refl)) c.in_err-record-2.ensures.file)

pub returns : goal.returns
returns c =
    let l = c.loop-line in
    let told = c.in_ok-record-2.ensures.file in
    rw c.into_file-2.ensures
    (ended c.args.info.now c.args.input.now l.left.now told.0 (stage_behind l.recorder.run)
    (stage_behind c.record-2.new.self.run) l.recorder.file.items c.record-2.new.self.file.items
    l.invariant.far (c.in_default.ensures.none refl) (c.is_done.ensures.more c.if-is_done.false)
    told.1.0
    (is_open c.record-2.new.self.run.net (begun_after (stage_behind l.recorder.run) l.left.now
    told.0 (stage_behind c.record-2.new.self.run) told.1.0))
    (told.1.1 ∙ ap (λ i. l.recorder.file.items ++ flat_map datagram_record
    (line_datagrams i (stage_behind l.recorder.run) l.left.now
    (stage_behind c.record-2.new.self.run))) l.invariant.info))
