-- Reading texts one by one, where a front of them has been read.
use Rattle.std.proofs.Common.{◌≡◌, List, [], ◌∷◌, ◌++◌, Result, Ok, Err, refl, ap, append_assoc}
use Rattle.refusal.specs.Refusal.{◌>>=◌}

-- what was read so far, and then the rest
abbrev pub with_front : {X F : Type 0} → List X → Result (List X) F → Result (List X) F
with_front front reading = reading >>= λ later. Ok (front ++ later)

pub front_none : {X F : Type 0} (r : Result (List X) F) → with_front [] r ≡ r
front_none (Ok xs) = refl
front_none (Err fault) = refl

pub front_later : {X F : Type 0} (front : List X) (x : X) (r : Result (List X) F)
    → with_front (front ++ x ∷ []) r ≡ with_front front (r >>= λ later. Ok (x ∷ later))
front_later front x (Ok later) = ap Ok (append_assoc front (x ∷ []) later)
front_later front x (Err fault) = refl
