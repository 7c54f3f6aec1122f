-- What was read and what is still to be read are what all of the list reads as.
use Rattle.std.proofs.Common.{◌≡◌}
use Rattle.serde_json.specs.Events.{items_len}
use Rattle.json_fields.specs.Fields.{items_at}
use Rattle.json_fields.specs.Documents.{list_items}
use Rattle.event_lines.specs.Line.{option_in}
use Rattle.event_lines.proofs.Front.{with_front}
use Rattle.event_lines.proofs.fields.each_option.Given as goal

abbrev pub invariant-loop-value : goal.invariant-loop-value
invariant-loop-value l =
    with_front l.options.items (items_at option_in (list_items l.left)) ≡ items_at option_in (list_items l.values)

abbrev pub decreases-loop-value : goal.decreases-loop-value
decreases-loop-value l = items_len (list_items l.left)
