-- Sets of numbers of predicates, as the bits of a number.
use Rattle.std.specs.Prelude.{◌≡◌, ℕ}
use Rattle.std.specs.Int.{bit_at}

-- the set has the predicate of this number
unfoldable pub Has : (set k : ℕ) → Type 0
Has set k = bit_at set k ≡ 1
