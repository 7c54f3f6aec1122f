-- What is known where a reading answered with a value.
use Rattle.std.proofs.Common.{◌≡◌, ℕ, ◌+◌, ◌<◌, Bool, true, false, cond, List, get_or, drop, Result, Ok, Err, refl}
use Rattle.std.proofs.lemmas.List.{get_or-drop}
use Rattle.path_header.specs.declared.fault.HeaderFault.{HeaderFault}

-- each element is a byte
abbrev pub AreBytes : List ℕ → Type 0
AreBytes bytes = (i : ℕ) → get_or bytes i 0 < 256

pub AreBytes-drop : (n : ℕ) (bytes : List ℕ) → AreBytes bytes → AreBytes (drop n bytes)
AreBytes-drop n bytes h i = rw get_or-drop (h (n + i))

-- a test that did not refuse
pub passed : {A : Type 0} (b : Bool) (d : HeaderFault) (r : Result A HeaderFault) (y : A) → cond b (Err d) r ≡ Ok y → (b ≡ false) × (r ≡ Ok y)
passed true d r y e = absurd cc
passed false d r y e = (refl, e)

-- a last test that did not refuse
pub passed_last : {A : Type 0} (b : Bool) (d : HeaderFault) (r : Result A HeaderFault) (y : A) → cond b r (Err d) ≡ Ok y → (b ≡ true) × (r ≡ Ok y)
passed_last true d r y e = (refl, e)
passed_last false d r y e = absurd cc
