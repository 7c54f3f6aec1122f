use Rattle.std.proofs.Common.{rules, ◌≡◌, ◌==◌, ◌||◌, not, length}
use Rattle.std.specs.String.{string_bytes}
use Rattle.event_lines.specs.Refusals.{is_refusal}
use Rattle.line_faults.proofs.Told.{told, told_if_refused}
use Rattle.line_faults.proofs.explanation.push_comments.Goals as goal

pub returns : goal.returns
returns c =
    let reply = c.args.line.now.reply.now in
    let refused = told_if_refused reply c.args.line.now.refusal c.requires.tells in
    let is : c.is_any.result ≡ is_refusal reply || not (length c.deref.result.now == 0) =
    search (rules, c.is_any.ensures, c.is_some.ensures, refused, c.len.ensures, c.deref.ensures.value) in
    rw is (told c.args.form c.args.line.now.number c.deref.result.now c.args.line.now.bytes.now reply (string_bytes c.args.text.now)
    (string_bytes c.push_refusal.new.text) (string_bytes c.push_warnings.new.text) c.in_ok-push_refusal.ensures
    c.in_ok-push_warnings.ensures)
