-- The first open path, or one more path that is not open.
use Rattle.std.proofs.Common.{◌∙◌, sym, ap, option_map}
use Rattle.combinator.specs.Candidate.{path_with}
use Rattle.path_report.specs.Paths.{is_open}
use Rattle.path_report.proofs.Opening.{none_next, tells_first}
use Rattle.path_report.proofs.best.first_open.Goals as goal

pub returns-then-is_up : goal.returns-then-is_up
returns-then-is_up c =
    tells_first c.args.topology.now.links c.args.paths.now c.loop-place.place
    (path_with c.unwrap-path.result.now.pieces c.unwrap-path.result.now.header) c.best_path.result
    c.loop-place.invariant (sym c.get.ensures ∙ ap (λ o. option_map (λ path. path_with path.now.pieces path.now.header) o) c.unwrap-path.ensures)
    (sym (ap (is_open c.args.topology.now.links) c.walk.ensures.value) ∙ sym c.in_ok-is_up.ensures ∙ c.if-is_up.true)
    c.best_path.ensures

pub loop-place-preserved : goal.loop-place-preserved
loop-place-preserved c =
    none_next c.args.topology.now.links c.args.paths.now c.loop-place.place
    (path_with c.unwrap-path.result.now.pieces c.unwrap-path.result.now.header)
    c.loop-place.invariant (sym c.get.ensures ∙ ap (λ o. option_map (λ path. path_with path.now.pieces path.now.header) o) c.unwrap-path.ensures)
    (sym (ap (is_open c.args.topology.now.links) c.walk.ensures.value) ∙ sym c.in_ok-is_up.ensures ∙ c.if-is_up.false)
