use Rattle.std.proofs.Common.{sym, ◌∙◌}
use Rattle.json.specs.Value.{value_view}
use Rattle.json_fields.proofs.Texts.{read_whole, more_none, unreadable_none, invalid_none}
use Rattle.json_fields.proofs.document.Document.read_text.Goals as goal
use Rattle.json_fields.proofs.document.Document.read_text.Goals.{then-not-is_at_end-via-then-not-is_at_end, then-not-is_at_end-via-else-not-is_at_end+then-not-are_numbers_in_range}

pub returns-then-not-is_at_end : goal.returns-then-not-is_at_end
returns-then-not-is_at_end c =
    let text = c.args.text.now in
    let ts = c.in_ok-reader.reader in
    let rest = c.read.new.reader in
    let j = value_view c.in-Ok.value in
    elim c.then-not-is_at_end.branch [
      | then-not-is_at_end-via-then-not-is_at_end w ↦ sym (more_none text ts rest j c.in_ok-reader.ensures.ok c.in-Ok.ensures.ok (sym c.is_at_end.ensures ∙ w.if-not-is_at_end.true))
      | then-not-is_at_end-via-else-not-is_at_end+then-not-are_numbers_in_range w ↦ sym (unreadable_none text ts rest j c.in_ok-reader.ensures.ok c.in-Ok.ensures.ok (sym w.are_numbers_in_range.ensures ∙ w.if-not-are_numbers_in_range.true))
    ]

pub returns : goal.returns
returns c = sym (read_whole c.args.text.now c.in_ok-reader.reader c.read.new.reader (value_view c.in-Ok.value) c.in_ok-reader.ensures.ok c.in-Ok.ensures.ok (sym c.is_at_end.ensures ∙ c.if-not-is_at_end.false) (sym c.are_numbers_in_range.ensures ∙ c.if-not-are_numbers_in_range.false))

pub returns-in-Err-Invalid : goal.returns-in-Err-Invalid
returns-in-Err-Invalid c = sym (invalid_none c.args.text.now c.in_ok-reader.reader c.in_ok-reader.ensures.ok (c.read.ensures.invalid cc))
