-- What was read and what is still to be read are what all of the list reads as.
use Rattle.std.proofs.Common.{◌≡◌}
use Rattle.serde_json.specs.Events.{items_len}
use Rattle.json_fields.specs.Documents.{list_items}
use Rattle.policy_expr.proofs.Front.{with_front}
use Rattle.path_requests.specs.Asked.{each_item, segment_asked}
use Rattle.path_requests.proofs.segment.segments.Given as goal

abbrev pub invariant-loop-value : goal.invariant-loop-value
invariant-loop-value l =
    with_front l.segments.items (each_item segment_asked (list_items l.left))
    ≡ each_item segment_asked (list_items l.values)

abbrev pub decreases-loop-value : goal.decreases-loop-value
decreases-loop-value l = items_len (list_items l.left)
