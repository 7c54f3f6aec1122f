-- Reading a list, where a front of it has been read.
use Rattle.std.proofs.Common.{List, ◌++◌, Option, Some}
use Rattle.refusal.specs.Optional.{◌>>=◌}

-- what was read so far, and then the rest
abbrev pub with_front : {A : Type 0} → List A → Option (List A) → Option (List A)
with_front front reading = reading >>= λ rest. Some (front ++ rest)
