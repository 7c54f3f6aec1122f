use Rattle.std.proofs.Common.{[], ◌∷◌}
use Rattle.path_verifier.proofs.Expiry.{expiry_of_one, expiry_of_more}
use Rattle.combinator.proofs.chosen.Chosen.expiry.Goals as goal

pub returns-in-Two : goal.returns-in-Two
returns-in-Two c =
    let first = c.in-Two.first.now in
    let second = c.in-Two.second.now in
    rw (c.in-Two.is, c.min.ensures)
    (expiry_of_more first (second ∷ []) c.expiry-in-Two.result c.expiry-in-Two-2.result c.expiry-in-Two.ensures
    (expiry_of_one second c.expiry-in-Two-2.result c.expiry-in-Two-2.ensures))

pub returns-in-Three : goal.returns-in-Three
returns-in-Three c =
    let first = c.in-Three.first.now in
    let second = c.in-Three.second.now in
    let third = c.in-Three.third.now in
    rw (c.in-Three.is, c.min-in-Three-2.ensures, c.min-in-Three.ensures)
    (expiry_of_more first (second ∷ third ∷ []) c.expiry-in-Three.result _ c.expiry-in-Three.ensures
    (expiry_of_more second (third ∷ []) c.expiry-in-Three-2.result c.expiry-in-Three-3.result c.expiry-in-Three-2.ensures
    (expiry_of_one third c.expiry-in-Three-3.result c.expiry-in-Three-3.ensures)))
