use Rattle.std.proofs.Common.{◌∙◌, filter, ap, sym, subst, arith}
use Rattle.std.specs.List.{filter_map}
use Rattle.path_segment.specs.Tests.{is_live}
use Rattle.path_server.specs.Expiry.{IsEarliestExpiry}
use Rattle.path_server.specs.Index.{IsIndex}
use Rattle.path_server.specs.inner.Blocks.{joined, moved_to}
use Rattle.path_server.proofs.Moved.{swept_is_index}
use Rattle.path_server.proofs.store.PathStore.remove_expired.Goals as goal

pub invariant_of-self-inside : goal.invariant_of-self-inside
invariant_of-self-inside c =
    let inside = c.self.inside in
    let old = inside.segments.items in
    let swept = swept_is_index c.args.now old (joined inside.index.blocks.items) inside.agreed (omega (arith, inside.segments.ok.0, inside.segments.small)) in
    let left = c.sweep.ensures ∙ ap (λ all. filter_map (moved_to c.args.now all) (joined inside.index.blocks.items)) c.deref-2.ensures.value in (
      subst (λ all. IsIndex all (joined c.sweep.new.self.blocks.items)) (sym c.keep_live.ensures.kept)
          (subst (IsIndex (filter (is_live c.args.now) old)) (sym left) swept),
      (
        omega (arith, c.keep_live.ensures.fewer, c.keep_live.new.segments.ok.0, inside.segments.ok.0, inside.room, c.count_all.ensures.kept),
        (subst (λ all. IsEarliestExpiry all c.least_expiry_of-self-inside.result) c.deref-4.ensures.value c.least_expiry_of-self-inside.ensures, tt),
      ),
    )
