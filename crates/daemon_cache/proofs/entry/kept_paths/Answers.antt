use Rattle.std.proofs.Common.{◌∙◌, ap, sym, subst}
use Rattle.std.specs.Prelude.{All}
use Rattle.std.proofs.lemmas.List.Elements.{All-push}
use Rattle.path_verifier.specs.Walk.{walk_of}
use Rattle.combinator.specs.Candidate.{PathValue}
use Rattle.daemon_cache.specs.inner.Kept.{HasItsWalk, path_in}
use Rattle.daemon_cache.proofs.KeptPaths.{next_is_kept}
use Rattle.daemon_cache.proofs.entry.kept_paths.Goals as goal

pub loop-path-preserved : goal.loop-path-preserved
loop-path-preserved c =
    let so_far = c.loop-path.invariant in
    let set = c.args.set.now in
    let one = c.in_ok-of.field-0 in
    let its : HasItsWalk set one =
    c.in_ok-of.ensures.walk ∙ ap (λ (p : PathValue). walk_of p.pieces) (sym c.in_ok-of.ensures.same) in (
      next_is_kept (path_in set) c.loop-path.kept.items c.push.new.self.items one c.args.paths.now c.loop-path.path-index
          c.path-item.result c.in-Ok.ensures.items so_far.0 c.in_ok-of.ensures.same c.loop-path-test.true c.path-item.is,
      subst (All (HasItsWalk set)) (sym c.in-Ok.ensures.items) (All-push (HasItsWalk set) c.loop-path.kept.items one so_far.1 its),
    )
