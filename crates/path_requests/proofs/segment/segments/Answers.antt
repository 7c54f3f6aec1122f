use Rattle.std.proofs.Common.{rules}
use Rattle.json_fields.specs.Documents.{list_items, node_data}
use Rattle.path_requests.specs.Asked.{segment_asked}
use Rattle.path_requests.proofs.Items.{read_more, stops, read_all}
use Rattle.path_requests.proofs.segment.segments.Goals as goal

pub returns-in_err-segment : goal.returns-in_err-segment
returns-in_err-segment c =
    stops (λ v. v.items) (λ s. s) segment_asked (list_items c.args.values) (list_items c.loop-value.left)
    (list_items c.in-Some.later)
    (node_data c.in-Some.value) c.loop-value.segments.items
    c.in_err-segment.field-0.0 c.from_residual.result c.in-Some.ensures c.in_err-segment.ensures
    c.loop-value.invariant (search rules)

pub loop-value-preserved : goal.loop-value-preserved
loop-value-preserved c =
    read_more segment_asked (list_items c.args.values) (list_items c.loop-value.left) (list_items c.in-Some.later)
    (node_data c.in-Some.value) c.in_ok-segment.field-0 c.loop-value.segments.items
    c.push.new.self.items c.in-Some.ensures c.in_ok-segment.ensures c.in_ok-push.ensures.items c.loop-value.invariant

pub returns : goal.returns
returns c =
    read_all segment_asked (list_items c.args.values)
    (list_items c.loop-value.left) c.loop-value.segments.items c.in_default.ensures c.loop-value.invariant
