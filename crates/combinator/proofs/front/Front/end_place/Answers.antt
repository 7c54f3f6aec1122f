use Rattle.std.proofs.Common.{subst}
use Rattle.std.specs.List.{AllByRecursion}
use Rattle.combinator.specs.declared.front.Front.{Front}
use Rattle.combinator.specs.inner.Front.{groups_in}
use Rattle.combinator.specs.inner.Group.{IsGroup}
use Rattle.combinator.proofs.Going.{ends_one, ends_two, ends_three}
use Rattle.combinator.proofs.front.Front.end_place.Goals as goal

pub returns-in-One-clause-place : goal.returns-in-One-clause-place
returns-in-One-clause-place c =
    let are = subst (λ (front : Front). AllByRecursion IsGroup (groups_in front)) c.in-One.is c.known.ensures in
    rw c.in-One.is (ends_one c.in-One.first.now c.len.result are.0 c.len.ensures.value)

pub returns-in-Two-clause-place : goal.returns-in-Two-clause-place
returns-in-Two-clause-place c =
    let are = subst (λ (front : Front). AllByRecursion IsGroup (groups_in front)) c.in-Two.is c.known.ensures in
    rw c.in-Two.is
    (ends_two c.in-Two.first.now c.in-Two.second.now c.len-in-Two.result c.len-in-Two-2.result are.0 are.1.0
    c.len-in-Two.ensures.value c.len-in-Two-2.ensures.value)

pub returns-in-Three-clause-place : goal.returns-in-Three-clause-place
returns-in-Three-clause-place c =
    let are = subst (λ (front : Front). AllByRecursion IsGroup (groups_in front)) c.in-Three.is c.known.ensures in
    rw c.in-Three.is
    (ends_three c.in-Three.first.now c.in-Three.second.now c.in-Three.third.now
    c.len-in-Three.result c.len-in-Three-2.result c.len-in-Three-3.result are.0 are.1.0 are.1.1.0
    c.len-in-Three.ensures.value c.len-in-Three-2.ensures.value c.len-in-Three-3.ensures.value)
