use Rattle.std.proofs.Common.{◌∷◌, []}
use Rattle.path_verifier.proofs.Expiry.{expiry_of_one, expiry_of_more}
use Rattle.path_verifier.proofs.shape.expiry_of.Goals as goal

pub returns-in-Two : goal.returns-in-Two
returns-in-Two c =
    let last = expiry_of_one c.in-Two.second c.expiry-in-Two-2.result c.expiry-in-Two-2.ensures in
    rw (c.in-Two.is, c.min.ensures)
    (expiry_of_more c.in-Two.first (c.in-Two.second ∷ []) c.expiry-in-Two.result c.expiry-in-Two-2.result c.expiry-in-Two.ensures last)

pub returns-in-Three : goal.returns-in-Three
returns-in-Three c =
    let one = c.in-Three.first in
    let two = c.in-Three.second in
    let three = c.in-Three.third in
    let last = expiry_of_one three c.expiry-in-Three-3.result c.expiry-in-Three-3.ensures in
    let later =
    expiry_of_more two (three ∷ []) c.expiry-in-Three-2.result c.expiry-in-Three-3.result c.expiry-in-Three-2.ensures last in
    rw (c.in-Three.is, c.min-in-Three-2.ensures, c.min-in-Three.ensures)
    (expiry_of_more one (two ∷ three ∷ []) c.expiry-in-Three.result _ c.expiry-in-Three.ensures later)
