-- Line after line.
use Rattle.std.proofs.Common.{rules}
use Rattle.std.proofs.lemmas.List.{append_assoc}
use Rattle.packet_view.specs.Fields.{hop_field_text}
use Rattle.packet_view.proofs.fields.Field.add_hop.Goals as goal

pub returns : goal.returns
unfolding hop_field_text
returns c = search (rules, append_assoc)
