-- One of the first walk's links leads to a cut, or none does.
use Rattle.std.proofs.Common.{◌≡◌, ◌-◌, ◌++◌, ◌∷◌, [], ℕ, true, List, Contains, get_or, take, sym, subst, ◌∙◌, arith}
use Rattle.std.proofs.lemmas.List.Elements.{Contains-get_or}
use Rattle.combinator.proofs.Collected.{at_end}
use Rattle.path_report.specs.inner.Cuts.{CanCut, CannotCut, are_met}
use Rattle.path_report.proofs.Cutting.{all_met_by_more, can_by_one, cannot_by_any, cannot_without_more}
use Rattle.path_report.proofs.survival.+can_cut.Goals as goal

pub returns-then-more-eq0-clause-no : goal.returns-then-more-eq0-clause-no
returns-then-more-eq0-clause-no t c is =
    let walk = c.index-walks-unmet.result in
    let first = c.in-Some.ensures.some in
    let there_walk : Contains c.args.walks.now walk = (c.in-Some.unmet, first.within, sym c.index-walks-unmet.is) in
    let unmet = first.here walk c.index-walks-unmet.is in
    cannot_without_more c.args.walks.now c.args.lost.now walk there_walk unmet c.args.more c.if-more-eq0.true

pub can_cut-requires : goal.can_cut-requires
can_cut-requires t c =
    let first = c.in-Some.ensures.some in
    let within = first.within in
    let some = c.if-more-eq0.false in
    let nearer = c.decreases in
    let place = get_or c.deref-place-items.result.now c.loop-place.place-index 0 in (
      omega (arith, nearer, some),
      (
        omega (arith, within),
        subst (λ (lost : List ℕ). are_met lost (take c.in-Some.unmet c.args.walks.now) ≡ true)
            (sym (c.deref.ensures.value ∙ c.in_ok-longer.ensures))
            (all_met_by_more (take c.in-Some.unmet c.args.walks.now) c.args.lost.now (place ∷ []) first.before),
      ),
    )

pub returns-then-is_cut-clause-yes : goal.returns-then-is_cut-clause-yes
returns-then-is_cut-clause-yes t c is =
    let walk = c.index-walks-unmet.result in
    let first = c.in-Some.ensures.some in
    let there_walk : Contains c.args.walks.now walk = (c.in-Some.unmet, first.within, sym c.index-walks-unmet.is) in
    let unmet = first.here walk c.index-walks-unmet.is in
    let places = c.deref-place-items.result.now in
    let place = get_or places c.loop-place.place-index 0 in
    let there : Contains walk.places.items place =
    subst (λ (list : List ℕ). Contains list place) c.deref-place-items.ensures.value
    (Contains-get_or places c.loop-place.place-index 0 c.loop-place-test.true) in
    let some = c.if-more-eq0.false in
    can_by_one c.args.walks.now c.args.lost.now walk there_walk unmet
    c.args.more (omega (arith, some)) place there
    (subst (λ (lost : List ℕ). CanCut c.args.walks.now lost (c.args.more - 1)) (c.deref.ensures.value ∙ c.in_ok-longer.ensures)
    (c.in_ok-is_cut.ensures.yes c.if-is_cut.true))

pub returns-clause-no : goal.returns-clause-no
returns-clause-no t c is =
    let walk = c.index-walks-unmet.result in
    let first = c.in-Some.ensures.some in
    let there_walk : Contains c.args.walks.now walk = (c.in-Some.unmet, first.within, sym c.index-walks-unmet.is) in
    let unmet = first.here walk c.index-walks-unmet.is in
    let some = c.if-more-eq0.false in
    cannot_by_any c.args.walks.now c.args.lost.now walk there_walk unmet
    c.args.more (omega (arith, some))
    (λ place there. at_end (λ (one : ℕ). CannotCut c.args.walks.now (c.args.lost.now ++ one ∷ []) (c.args.more - 1))
    c.deref-place-items.result.now c.loop-place.place-index c.loop-place-test.false c.loop-place.invariant place
    (subst (λ (list : List ℕ). Contains list place) (sym c.deref-place-items.ensures.value) there))
