-- The number of a text, by its sign.
use Rattle.std.proofs.Common.{◌≡◌, ℕ, ℤ, Float, ◌<◌, ◌==◌, ◌^◌, List, drop, get_or, Bool, true, false, cond, Option, Some, None, option_and_then, refl, arith}
use Rattle.std.proofs.lemmas.Grind.{common_steps}
use Rattle.std.specs.Option.{SomeIff}
use Rattle.fast_float.specs.Text.{Parts, scan, digits_of, IsInteger}
use Rattle.serde_json.specs.Data.{negative, float}
use Rattle.serde_json.specs.Find.{as_u64}
use Rattle.serde_json.specs.Read.{number_of, number_from}

pub signed_number : (s : List ℕ) → (get_or s 0 0 == 45) ≡ true → number_of s ≡ number_from true (scan (drop 1 s))
unfolding number_of
signed_number s signed = rw signed

pub unsigned_number : (s : List ℕ) → (get_or s 0 0 == 45) ≡ false → number_of s ≡ number_from false (scan s)
unfolding number_of
unsigned_number s unsigned = rw unsigned

no_whole : (b c : Bool) (z : ℤ) (x : Float) → option_and_then as_u64 (cond b (Some (negative z)) (cond c (Some (float x)) None)) ≡ None
no_whole true c z x = refl
no_whole false true z x = refl
no_whole false false z x = refl

-- a number with a minus is no whole number
pub not_whole : (p : Parts) → option_and_then as_u64 (number_from true p) ≡ None
not_whole p = no_whole _ _ _ _

-- a number without one is whole if it is an integer that fits
pub is_whole : (r : Option ℕ) (p : Parts) → SomeIff r (IsInteger p × (digits_of p < 2 ^ 64)) (digits_of p) → r ≡ option_and_then as_u64 (number_from false p)
is_whole None p h = grind (arith, common_steps)
is_whole (Some n) p h = grind (arith, common_steps)
