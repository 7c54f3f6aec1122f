-- The text so far has the hop fields below the index.
use Rattle.std.proofs.Common.{◌≡◌}
use Rattle.std.specs.String.{string_bytes}
use Rattle.packet_view.specs.Fields.{hop_fields_text}
use Rattle.packet_view.proofs.fields.hop_fields_text.Given as goal

abbrev pub invariant-loop-index : goal.invariant-loop-index
invariant-loop-index l = string_bytes l.text ≡ hop_fields_text l.packet l.header l.index
