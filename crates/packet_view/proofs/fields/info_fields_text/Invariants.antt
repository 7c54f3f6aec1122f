-- The text so far has the info fields below the index.
use Rattle.std.proofs.Common.{◌≡◌}
use Rattle.std.specs.String.{string_bytes}
use Rattle.packet_view.specs.Fields.{info_fields_text}
use Rattle.packet_view.proofs.fields.info_fields_text.Given as goal

abbrev pub invariant-loop-index : goal.invariant-loop-index
invariant-loop-index l = string_bytes l.text ≡ info_fields_text l.packet l.header l.index
