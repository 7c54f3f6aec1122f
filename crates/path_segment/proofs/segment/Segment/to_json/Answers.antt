use Rattle.std.proofs.Common.{◌≡◌, string_bytes, Some}
use Rattle.std.proofs.lemmas.Str.{IsUtf8-string_bytes}
use Rattle.serde_json.specs.Read.{read}
use Rattle.json_fields.proofs.Documents.{is_document}
use Rattle.path_segment.specs.Text.{segment_data}
use Rattle.path_segment.proofs.Again.{has_float-segment_data, depth-segment_data}
use Rattle.path_segment.proofs.segment.Segment.to_json.Goals as goal

pub returns-clause-text : goal.returns-clause-text
returns-clause-text c =
    let value = c.in_ok-value.ensures.value in
    rw value at (c.in_ok-text.ensures.text (rw value (has_float-segment_data c.args.self.now)))

pub returns-clause-back : goal.returns-clause-back
returns-clause-back c =
    let value = c.in_ok-value.ensures.value in
    let again : read (string_bytes c.in_ok-text.text) ≡ Some (segment_data c.args.self.now) =
    rw value at (c.in_ok-text.ensures.reads_back (rw value (depth-segment_data c.args.self.now))) in
    let written = string_bytes c.in_ok-text.text in
    rw (is_document written (segment_data c.args.self.now) (IsUtf8-string_bytes c.in_ok-text.text) again) c.in_ok-value.ensures.again
