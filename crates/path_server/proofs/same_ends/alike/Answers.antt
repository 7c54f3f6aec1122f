use Rattle.std.proofs.Common.{◌∙◌, ap, arith, length, filter}
use Rattle.std.specs.List.{list_any}
use Rattle.path_server.proofs.Found.{some_weaker}
use Rattle.path_segment.specs.Tests.{is_same}
use Rattle.path_server.specs.Segment.{is_alike}
use Rattle.path_server.specs.inner.Index.{lies_between, passes_at}
use Rattle.path_server.specs.inner.Blocks.{joined}
use Rattle.path_server.proofs.Growing.{index_rises}
use Rattle.path_server.proofs.Lying.{lies_alike, lies_same}
use Rattle.path_server.proofs.Orders.{any_filter}
use Rattle.path_server.proofs.Places.{count_alike, found_alike, index_is_long}
use Rattle.path_server.proofs.same_ends.alike.Goals as goal

pub alike_between-requires-clause-rises : goal.alike_between-requires-clause-rises
alike_between-requires-clause-rises c = index_rises c.args.segments.now (joined c.args.blocks.now) c.requires.index (omega arith)

pub alike_between-requires-clause-few : goal.alike_between-requires-clause-few
alike_between-requires-clause-few c =
    let long = index_is_long c.args.segments.now (joined c.args.blocks.now) c.requires.index.each in
    omega arith

pub returns-clause-stored : goal.returns-clause-stored
returns-clause-stored c =
    let segments = c.args.segments.now in
    let segment = c.args.segment.now in
    let index = joined c.args.blocks.now in
    let same = passes_at (is_same segment) segments in
    c.alike_between.ensures.stored ∙ ap (λ n. list_any same (filter (lies_between segments n n) index)) c.of.ensures.number
    ∙ any_filter _ same index
    ∙ found_alike segments index c.requires.index.each _ (is_same segment)
    (lies_same segments c.requires.index.addresses segment c.of.ensures.addresses)

pub returns-clause-count : goal.returns-clause-count
returns-clause-count c =
    let segments = c.args.segments.now in
    let index = joined c.args.blocks.now in
    let same = ap (λ n. length (filter (lies_between segments n n) index)) c.of.ensures.number
    ∙ count_alike segments index c.requires.index.each _ (is_alike c.args.segment.now)
    (lies_alike segments c.requires.index.addresses c.args.segment.now c.of.ensures.addresses) in
    some_weaker c.alike_between.result _ _ (λ count is. is ∙ same) c.alike_between.ensures.count
