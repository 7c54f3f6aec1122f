use Rattle.std.proofs.Common.{◌∙◌, ap, sym, get_or, append-nil, Some, [], ◌∷◌}
use Rattle.std.proofs.lemmas.Option.{slice_get-get_or, slice_get_past}
use Rattle.std.proofs.lemmas.Bool.{ltb-false, ltb-true}
use Rattle.std.specs.Prelude.{take, option_to_list, ◌++◌}
use Rattle.path_server.specs.inner.Index.{segments_at}
use Rattle.path_server.proofs.Places.{segments_at_more}
use Rattle.path_server.proofs.lookup.copies_at.Goals as goal
use Rattle.path_server.proofs.lookup.copies_at.Goals.{in-Some+in_ok-copy_of+in_ok-push, in_default}

pub loop-place-preserved : goal.loop-place-preserved
loop-place-preserved c =
    let segments = c.args.segments.now in
    let place = get_or c.args.places.now c.loop-place.place-index 0 in
    let before = segments_at segments (take c.loop-place.place-index c.args.places.now) in
    let more = segments_at_more segments c.args.places.now c.loop-place.place-index 0 c.loop-place-test.true in
    elim c.match-get.branch [
      | in-Some+in_ok-copy_of+in_ok-push w ↦ (
          let look = w.in-Some.ensures.lookup in
          let there =
          slice_get-get_or segments place w.in-Some.segment.now (ltb-true _ _ (sym look.0)) ∙ ap (λ s. Some s) (sym look.1) in
          ap (λ v. v.items) w.copies-is ∙ w.in_ok-push.ensures.items
          ∙ ap (λ items. items ++ w.in_ok-copy_of.field-0 ∷ []) c.loop-place.invariant
          ∙ ap (λ s. before ++ s ∷ []) w.in_ok-copy_of.ensures
          ∙ sym (more ∙ ap (λ o. before ++ option_to_list o) there))
      | in_default w ↦ (
          let none = slice_get_past segments place (ltb-false _ _ (sym w.in_default.ensures.lookup.0)) in
          ap (λ v. v.items) w.copies-is ∙ c.loop-place.invariant
          ∙ sym (more ∙ ap (λ o. before ++ option_to_list o) none ∙ append-nil before))
    ]
