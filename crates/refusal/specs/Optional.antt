-- Steps that may find nothing.
use Rattle.std.specs.Prelude.{Option, Some, None}

-- runs one step after another and stops at the first that finds nothing
infixl 10 ◌>>=◌
abbrev pub ◌>>=◌ : {A B : Type 0} → Option A → (A → Option B) → Option B
(Some x) >>= f = f x
None >>= f = None
