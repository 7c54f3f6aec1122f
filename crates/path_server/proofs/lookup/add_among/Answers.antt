use Rattle.std.proofs.Common.{◌++◌, sym, ap, ◌∙◌}
use Rattle.std.specs.List.{flat_map}
use Rattle.std.proofs.lemmas.Bool.{eqb-true}
use Rattle.std.proofs.lemmas.List.{append-nil, nil_from_length}
use Rattle.path_server.specs.inner.Index.{core_places}
use Rattle.path_server.proofs.Joining.{none_among}
use Rattle.path_server.proofs.lookup.add_among.Goals as goal

pub returns-then-is_empty : goal.returns-then-is_empty
returns-then-is_empty c =
    let segments = c.args.segments.now in
    let firsts = c.args.firsts.now in
    let old = c.args.places.now.items in
    let none = nil_from_length c.args.some.now (eqb-true _ _ (sym c.is_empty.ensures ∙ c.if-is_empty.true)) in
    sym (ap (λ places. old ++ flat_map (core_places segments places c.args.now c.args.last) firsts) none
    ∙ ap (λ found. old ++ found) (none_among segments c.args.now c.args.last firsts) ∙ append-nil old)
