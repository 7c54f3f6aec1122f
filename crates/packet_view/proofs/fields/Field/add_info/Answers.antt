-- Line after line.
use Rattle.std.proofs.Common.{rules}
use Rattle.std.proofs.lemmas.List.{append_assoc}
use Rattle.packet_view.specs.Fields.{info_field_text}
use Rattle.packet_view.proofs.fields.Field.add_info.Goals as goal

pub returns : goal.returns
unfolding info_field_text
returns c = search (rules, append_assoc)
