use Rattle.std.proofs.Common.{ℕ, List, ◌++◌, get_or, take, sym, ap, ◌∙◌}
use Rattle.std.specs.List.{flat_map}
use Rattle.std.proofs.lemmas.Grind.{take_at_read}
use Rattle.std.proofs.lemmas.List.{flat_map_more}
use Rattle.path_server.specs.inner.Index.{core_places}
use Rattle.path_server.specs.inner.Blocks.{joined}
use Rattle.path_server.proofs.lookup.add_between.Goals as goal

pub loop-last-preserved : goal.loop-last-preserved
loop-last-preserved c =
    let lasts = c.args.lasts.now in
    let last = get_or lasts c.loop-last.last-index 0 in
    let all : ℕ → List ℕ = λ end. flat_map (core_places c.args.segments.now (joined c.args.blocks.now) c.args.now end) c.args.firsts.now in
    c.in_ok-add_ending.ensures
    ∙ ap (λ items. items ++ all last) c.loop-last.invariant
    ∙ flat_map_more all c.args.places.now.items (take c.loop-last.last-index lasts) last
    ∙ ap (λ front. c.args.places.now.items ++ flat_map all front)
    (sym (take_at_read lasts c.loop-last.last-index 0 c.loop-last-test.true).1)
