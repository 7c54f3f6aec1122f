use Rattle.combinator.proofs.Bests.{best_two, best_three}
use Rattle.combinator.proofs.front.best.Goals as goal

pub returns-in-Two : goal.returns-in-Two
returns-in-Two c =
    rw c.in-Two.is (best_two c.in-Two.first.now c.in-Two.second.now c.least_until-in-Two.result.now c.least_until-in-Two-2.result.now
    c.expiry-in-Two.result c.expiry-in-Two-2.result c.min-expiry.result c.min-expiry.ensures
    c.expiry-in-Two.ensures.over c.expiry-in-Two-2.ensures.over c.least_until-in-Two.ensures c.least_until-in-Two-2.ensures)

pub returns-in-Three : goal.returns-in-Three
returns-in-Three c =
    rw c.in-Three.is (best_three c.in-Three.first.now c.in-Three.second.now c.in-Three.third.now
    c.least_until-in-Three.result.now c.least_until-in-Three-2.result.now c.least_until-in-Three-3.result.now
    c.expiry-in-Three.result c.expiry-in-Three-2.result c.expiry-in-Three-3.result c.min.result c.min-expiry-in-Three.result
    c.min-expiry-in-Three.ensures c.min.ensures
    c.expiry-in-Three.ensures.over c.expiry-in-Three-2.ensures.over c.expiry-in-Three-3.ensures.over
    c.least_until-in-Three.ensures c.least_until-in-Three-2.ensures c.least_until-in-Three-3.ensures)
