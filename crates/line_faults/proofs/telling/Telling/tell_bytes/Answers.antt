-- Of the bytes a front was told, line by line.
use Rattle.std.proofs.Common.{arith, refl, Some}
use Rattle.std.proofs.lemmas.Result.{err_from_is_err_and}
use Rattle.std.specs.String.{string_bytes}
use Rattle.event_lines.proofs.Writing.{on_stage}
use Rattle.line_faults.specs.inner.Telling.{stands_at, telling_value}
use Rattle.line_faults.proofs.Front.{front_failed, front_line, front_none, front_short, line_counted, same_held}
use Rattle.line_faults.proofs.telling.Telling.tell_bytes.Goals as goal

pub loop-line-init : goal.loop-line-init
loop-line-init c = record {
  far = front_none c.args.bytes.now (telling_value c.args.self.now) (Some (string_bytes c.args.self.now.notes.text)) c.requires.whole;
  number = omega arith;
}

pub returns-in_err-tell_end-clause-told : goal.returns-in_err-tell_end-clause-told
returns-in_err-tell_end-clause-told c =
    let l = c.loop-line in
    let cut = c.in-Some.ensures.cut in
    let p = err_from_is_err_and c.from_residual.result c.from_residual.ensures.1 in
    rw (p.1, p.2)
    (front_failed c.args.bytes.now l.left.now c.in-Some.line.now c.in-Some.behind.now
    (telling_value c.args.self.now) (telling_value l.self) (telling_value c.tell_end.new.self)
    c.in_err-tell_end.field-0.0
    (Some (string_bytes c.args.self.now.notes.text)) (Some (string_bytes l.self.notes.text)) (Some (string_bytes c.tell_end.new.self.notes.text))
    l.invariant.far cut c.in_err-tell_end.ensures.told (on_stage l.self.run.net))

pub loop-line-preserved : goal.loop-line-preserved
loop-line-preserved c =
    let l = c.loop-line in
    let cut = c.in-Some.ensures.cut in
    let told = c.in_ok-tell_end.ensures.told in
    let next = stands_at c.tell_end.new.self.run c.tell_end.new.self.notes in
    record {
      far = rw (c.in_ok-tell_end.ensures.rest refl)
          (front_line c.args.bytes.now l.left.now c.in-Some.line.now c.in-Some.behind.now
          (telling_value c.args.self.now) (telling_value l.self) next
          (Some (string_bytes c.args.self.now.notes.text)) (Some (string_bytes l.self.notes.text)) (Some (string_bytes c.tell_end.new.self.notes.text))
          l.invariant.far cut told);
      number = line_counted l.left.now c.in-Some.line.now c.in-Some.behind.now
          (stands_at l.self.run l.self.notes) next
          (Some (string_bytes l.self.notes.text)) (Some (string_bytes c.tell_end.new.self.notes.text)) _ cut _ told l.invariant.number;
    }

pub returns-in_err-extend_from_slice-clause-told : goal.returns-in_err-extend_from_slice-clause-told
returns-in_err-extend_from_slice-clause-told c =
    let l = c.loop-line in
    let p =
    err_from_is_err_and c.from_residual-in_err-extend_from_slice.result c.from_residual-in_err-extend_from_slice.ensures.1 in
    rw (p.1, p.2)
    (front_short c.args.bytes.now l.left.now (telling_value c.args.self.now) (telling_value l.self) (telling_value l.self)
    (Some (string_bytes c.args.self.now.notes.text)) (Some (string_bytes l.self.notes.text)) (Some (string_bytes l.self.notes.text))
    l.invariant.far (same_held (Some (string_bytes l.self.notes.text)))
    (omega (arith, c.in_err-extend_from_slice.ensures.full, l.self.rest.ok.1))
    (on_stage l.self.run.net))
