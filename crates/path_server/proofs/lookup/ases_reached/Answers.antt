use Rattle.std.proofs.Common.{◌∷◌, nat_eq, map, sym, ap, arith, ◌∙◌}
use Rattle.std.proofs.lemmas.List.{take_all}
use Rattle.std.proofs.lemmas.List.Filters.{dedup_is}
use Rattle.std.proofs.lemmas.List.Sorted.{list_any-IsPermutation}
use Rattle.path_segment.specs.Chain.{first_as}
use Rattle.path_server.specs.inner.Index.{is_in}
use Rattle.path_server.proofs.Joining.{reached_is}
use Rattle.path_server.proofs.Orders.{any-dedup}
use Rattle.path_server.proofs.lookup.ases_reached.Goals as goal

pub returns : goal.returns
returns c = λ other. (
    let segments = c.args.segments.now in
    ap (λ ases. is_in ases other) (dedup_is nat_eq _ _ c.dedup.ensures.filtered)
    ∙ any-dedup (nat_eq other) _
    ∙ sym (list_any-IsPermutation (nat_eq other) _ _ c.sort_unstable.ensures.permutation)
    ∙ c.loop-segment.invariant other
    ∙ ap (λ front. is_in (c.args.ia ∷ map first_as front) other)
    (take_all c.loop-segment.segment-index segments (omega (arith, c.loop-segment-test.false)))
    ∙ reached_is c.args.ia segments other)
