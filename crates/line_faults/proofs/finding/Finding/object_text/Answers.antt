use Rattle.std.proofs.Common.{◌∙◌, codes}
use Rattle.line_faults.proofs.Objects.{from_nothing, object_of, with_member}
use Rattle.line_faults.proofs.finding.Finding.object_text.Goals as goal

pub returns : goal.returns
returns c =
    rw (← c.self.view_is) (
    c.in_ok-push_str.ensures.bytes
    ∙ with_member _ (codes ",\"wanted\":") _ (codes "}") _ c.in_ok-push_member-9.ensures
    ∙ with_member _ (codes ",\"text\":") _ _ _ c.in_ok-push_member-8.ensures
    ∙ with_member _ (codes ",\"reply\":") _ _ _ c.in_ok-push_member-7.ensures
    ∙ with_member _ (codes ",\"refusal\":") _ _ _ c.in_ok-push_member-6.ensures
    ∙ with_member _ (codes ",\"name\":") _ _ _ c.in_ok-push_member-5.ensures
    ∙ with_member _ (codes ",\"member\":") _ _ _ c.in_ok-push_member-4.ensures
    ∙ with_member _ (codes ",\"line\":") _ _ _ c.in_ok-push_member-3.ensures
    ∙ with_member _ (codes ",\"found\":") _ _ _ c.in_ok-push_member-2.ensures
    ∙ with_member _ (codes "{\"column\":") _ _ _ c.in_ok-push_member.ensures
    ∙ from_nothing _ _ c.new-text.ensures.bytes
    ∙ object_of _ _ _ _ _ _ _ _ _ _
    (c.deref.ensures ∙ c.in_ok-number_json.ensures)
    (c.deref-2.ensures ∙ c.in_ok-text_json.ensures)
    (c.deref-3.ensures ∙ c.in_ok-number_json-2.ensures)
    (c.deref-4.ensures ∙ c.in_ok-text_json-2.ensures)
    (c.deref-5.ensures ∙ c.in_ok-text_json-3.ensures)
    (c.deref-6.ensures ∙ c.in_ok-number_json-3.ensures)
    (c.deref-7.ensures ∙ c.in_ok-text_json-4.ensures)
    (c.deref-8.ensures ∙ c.in_ok-text_json-5.ensures)
    (c.deref-9.ensures ∙ c.in_ok-text_json-6.ensures)
    )
