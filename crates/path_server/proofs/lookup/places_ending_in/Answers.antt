use Rattle.std.proofs.Common.{◌≡◌, ◌++◌, ap, ◌∙◌, arith}
use Rattle.path_segment.specs.declared.kind.SegKind.TheVariants.{Intra}
use Rattle.path_server.specs.Index.{rank_between}
use Rattle.path_server.specs.inner.Index.{ends_number, live_places, is_in}
use Rattle.path_server.specs.inner.Blocks.{joined}
use Rattle.path_server.proofs.Growing.{index_rises}
use Rattle.path_server.proofs.Places.{ending_is_kept}
use Rattle.path_server.proofs.lookup.places_ending_in.Goals as goal

pub returns : goal.returns
returns c =
    let segments = c.args.segments.now in
    let index = joined c.args.blocks.now in
    let low : ends_number c.new-low.result ≡ rank_between Intra 0 c.args.ia =
    c.new-low.ensures ∙ ap (rank_between Intra 0) c.number-last.ensures.value in
    let high : ends_number c.new-high.result ≡ rank_between Intra 18446744073709551615 c.args.ia =
    c.new-high.ensures ∙ ap (rank_between Intra 18446744073709551615) c.number-last.ensures.value in
    let live = c.in_ok-add_live_between.ensures
    ∙ ap (λ old. old ++ live_places segments index c.args.now (ends_number c.new-low.result) (ends_number c.new-high.result)) c.new-places.ensures.items
    ∙ ap (λ n. live_places segments index c.args.now n (ends_number c.new-high.result)) low
    ∙ ap (λ n. live_places segments index c.args.now (rank_between Intra 0 c.args.ia) n) high in
    ending_is_kept segments index c.put_in_order.new.places.items c.requires.index c.args.ia c.args.now (omega (arith, c.number-last.ensures)) c.put_in_order.ensures.rises
    (λ i. c.put_in_order.ensures.same i ∙ ap (λ places. is_in places i) live)

pub add_live_between-requires-clause-rises : goal.add_live_between-requires-clause-rises
add_live_between-requires-clause-rises c = index_rises c.args.segments.now (joined c.args.blocks.now) c.requires.index (omega arith)
