use Rattle.std.proofs.Common.{◌∙◌, ◌<◌, ap, sym, subst, arith, length, map, All}
use Rattle.std.proofs.lemmas.List.{take_at, length-map}
use Rattle.path_server.specs.inner.Blocks.{kept_before}
use Rattle.path_server.proofs.Swept.{moved_is, kept_are_there}
use Rattle.path_server.proofs.sweeps.sweep_block.Goals as goal

pub move_places-requires-clause-kept : goal.move_places-requires-clause-kept
move_places-requires-clause-kept c =
    subst (All (λ place. place < length c.args.segments.now)) (sym (c.deref_mut.ensures.value ∙ c.keep_places.ensures.kept))
    (kept_are_there c.args.now c.args.segments.now c.args.block.now.items)

pub returns-clause-swept : goal.returns-clause-swept
returns-clause-swept c =
    let moved = c.move_places.ensures in
    let same = c.deref_mut.ensures.value ∙ c.keep_places.ensures.kept in
    let long = ap length moved ∙ length-map c.deref_mut.result.now (kept_before c.args.now c.args.segments.now) in
    take_at c.move_places.new.block _ c.keep_places.new.block.len (omega (arith, long, c.deref_mut.ensures.len))
    ∙ moved ∙ ap (map (kept_before c.args.now c.args.segments.now)) same
    ∙ moved_is c.args.now c.args.segments.now c.args.block.now.items
