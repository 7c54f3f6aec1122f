use Rattle.std.proofs.Common.{◌-◌, [], ◌∷◌, ◌++◌, List, length, refl, ap, arith, length-append}
use Rattle.path_verifier.specs.Piece.{ends_in}
use Rattle.combinator.specs.inner.Front.{groups_in}
use Rattle.combinator.specs.inner.Group.{GroupValue, IsGroup}
use Rattle.combinator.specs.inner.Over.{OfChoices}
use Rattle.combinator.specs.inner.Search.{IsNoBetter}
use Rattle.combinator.proofs.Going.{goes_on_only, end_with}
use Rattle.combinator.proofs.Over.{group_there}
use Rattle.combinator.proofs.Prefix.{both_groups}
use Rattle.combinator.proofs.Trying.{tried_more, none_tried, all_tried, of_part, for_more, tried_not_fits, tried_whole, tried_part}
use Rattle.combinator.proofs.search.Search.+has_better.Goals as goal

pub loop-group-preserved-then-not-goes_on : goal.loop-group-preserved-then-not-goes_on
loop-group-preserved-then-not-goes_on g t c =
    let a = c.args in
    let fact = OfChoices (IsNoBetter a.self.now.ask.now a.found.now) in
    let groups = a.self.now.groups.now in
    let front = groups_in a.front.now in
    let group = c.group-item.result in
    let there = of_part groups c.groups_from-next_groups.result.now a.at c.loop-group.group-index group c.groups_from-next_groups.ensures
    c.loop-group-test.true c.group-item.is in
    let is = group_there IsGroup groups group c.requires.search.are.each there in
    tried_more fact fact groups c.groups_from-next_groups.result.now (a.depth - 1) front a.at c.loop-group.group-index group
    c.loop-group-test.true c.group-item.is (λ list fine. fine) c.loop-group.invariant
    (tried_not_fits a.self.now.ask.now a.found.now groups c.requires.search.are.each (a.depth - 1) front (front ++ group ∷ []) group a.at
    (both_groups front (group ∷ []) c.requires.front.are (is, tt)) refl a.walk.now c.requires.walk
    (goes_on_only front group a.walk.now c.end_place-place.result c.requires.front.are is c.end_place-place.ensures.place
    (c.goes_on.ensures c.if-not-goes_on.true)))

pub is_better-requires-clause-front : goal.is_better-requires-clause-front
is_better-requires-clause-front g t c =
    let a = c.args in
    let groups = a.self.now.groups.now in
    let there = of_part groups c.groups_from-next_groups.result.now a.at c.loop-group.group-index c.group-item.result c.groups_from-next_groups.ensures
    c.loop-group-test.true c.group-item.is in
    for_more a.self.now.ask.now groups c.requires.search (groups_in a.front.now) (groups_in c.with-longer.result) c.group-item.result there
    c.with-longer.ensures c.requires.front

pub loop-group-preserved-then-end_place-walk : goal.loop-group-preserved-then-end_place-walk
loop-group-preserved-then-end_place-walk g t c =
    let a = c.args in
    let fact = OfChoices (IsNoBetter a.self.now.ask.now a.found.now) in
    let groups = a.self.now.groups.now in
    let front = groups_in a.front.now in
    let longer = groups_in c.with-longer.result in
    let group = c.group-item.result in
    let there = of_part groups c.groups_from-next_groups.result.now a.at c.loop-group.group-index group c.groups_from-next_groups.ensures
    c.loop-group-test.true c.group-item.is in
    let more = for_more a.self.now.ask.now groups c.requires.search front longer group there c.with-longer.ensures c.requires.front in
    let end = end_with c.end_place.result front longer group c.with-longer.ensures c.end_place.ensures.place in
    let whole = c.if-end_place-walk.true in
    tried_more fact fact groups c.groups_from-next_groups.result.now (a.depth - 1) front a.at c.loop-group.group-index group
    c.loop-group-test.true c.group-item.is (λ list fine. fine) c.loop-group.invariant
    (tried_whole a.self.now.ask.now a.found.now groups c.requires.search.are.each (a.depth - 1) front longer group a.at more.are
    c.with-longer.ensures a.walk.now c.requires.walk (omega (arith, end, whole)) (c.is_better.ensures.none c.if-is_better.false))

pub loop-group-preserved-then-depth-eq1 : goal.loop-group-preserved-then-depth-eq1
loop-group-preserved-then-depth-eq1 g t c =
    let a = c.args in
    let fact = OfChoices (IsNoBetter a.self.now.ask.now a.found.now) in
    let groups = a.self.now.groups.now in
    let front = groups_in a.front.now in
    let longer = groups_in c.with-longer.result in
    let group = c.group-item.result in
    let there = of_part groups c.groups_from-next_groups.result.now a.at c.loop-group.group-index group c.groups_from-next_groups.ensures
    c.loop-group-test.true c.group-item.is in
    let more = for_more a.self.now.ask.now groups c.requires.search front longer group there c.with-longer.ensures c.requires.front in
    let end = end_with c.end_place.result front longer group c.with-longer.ensures c.end_place.ensures.place in
    tried_more fact fact groups c.groups_from-next_groups.result.now (a.depth - 1) front a.at c.loop-group.group-index group
    c.loop-group-test.true c.group-item.is (λ list fine. fine) c.loop-group.invariant
    (tried_part a.self.now.ask.now a.found.now groups c.requires.search.are.each (a.depth - 1) front longer group a.at more.are
    c.with-longer.ensures a.walk.now c.requires.walk (λ same. c.if-end_place-walk.false (omega (arith, end, same))) (ends_in group.head) refl
    (none_tried fact groups (a.depth - 1) longer (ends_in group.head) (let one = c.if-depth-eq1.true in omega (arith, one))))

pub has_better-requires : goal.has_better-requires
has_better-requires g t c κs within =
    let a = c.args in
    let groups = a.self.now.groups.now in
    let there = of_part groups c.groups_from-next_groups.result.now a.at c.loop-group.group-index c.group-item.result c.groups_from-next_groups.ensures
    c.loop-group-test.true c.group-item.is in
    let more = for_more a.self.now.ask.now groups c.requires.search (groups_in a.front.now) (groups_in c.with-longer.result) c.group-item.result there
    c.with-longer.ensures c.requires.front in
    let long = ap (λ (gs : List GroupValue). length gs) c.with-longer.ensures in
    let both = length-append (groups_in a.front.now) (c.group-item.result ∷ []) in
    let some = c.requires.some in
    let few = c.requires.few in
    let apart = c.if-depth-eq1.false in
    let nearer = c.decreases in (
      omega (arith, nearer, some),
      (within, (c.requires.search, (c.requires.candidate, (c.requires.walk, (more, (omega (arith, some, apart), omega (arith, long, both, few, some))))))),
    )

pub loop-group-preserved : goal.loop-group-preserved
loop-group-preserved g t c =
    let a = c.args in
    let fact = OfChoices (IsNoBetter a.self.now.ask.now a.found.now) in
    let groups = a.self.now.groups.now in
    let front = groups_in a.front.now in
    let longer = groups_in c.with-longer.result in
    let group = c.group-item.result in
    let there = of_part groups c.groups_from-next_groups.result.now a.at c.loop-group.group-index group c.groups_from-next_groups.ensures
    c.loop-group-test.true c.group-item.is in
    let more = for_more a.self.now.ask.now groups c.requires.search front longer group there c.with-longer.ensures c.requires.front in
    let end = end_with c.end_place.result front longer group c.with-longer.ensures c.end_place.ensures.place in
    tried_more fact fact groups c.groups_from-next_groups.result.now (a.depth - 1) front a.at c.loop-group.group-index group
    c.loop-group-test.true c.group-item.is (λ list fine. fine) c.loop-group.invariant
    (tried_part a.self.now.ask.now a.found.now groups c.requires.search.are.each (a.depth - 1) front longer group a.at more.are
    c.with-longer.ensures a.walk.now c.requires.walk (λ same. c.if-end_place-walk.false (omega (arith, end, same)))
    c.ends.result c.ends.ensures (c.has_better.ensures.none c.if-has_better.false))

pub returns-clause-none : goal.returns-clause-none
returns-clause-none g t c = λ _.
    let a = c.args in
    let some = c.requires.some in
    all_tried (OfChoices (IsNoBetter a.self.now.ask.now a.found.now)) a.self.now.groups.now c.groups_from-next_groups.result.now
    a.depth (a.depth - 1) (groups_in a.front.now) a.at c.loop-group.group-index (omega (arith, some)) c.groups_from-next_groups.ensures
    c.loop-group-test.false c.loop-group.invariant
