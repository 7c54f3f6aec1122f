-- What steps that gave a value say of each step.
use Rattle.std.proofs.Common.{◌≡◌, Bool, true, false, cond, Option, Some, None, Result, Ok, Err, IfOk, refl}
use Rattle.std.specs.Option.{ok_or}
use Rattle.refusal.specs.Refusal.{◌>>=◌, check, unless}

-- the first step gave a value, and the rest gave the result
pub bind_ok : {A B F : Type 0} (r : Result A F) (f : A → Result B F) (y : B) → (r >>= f) ≡ Ok y → (x : A) × (r ≡ Ok x) × (f x ≡ Ok y)
bind_ok (Ok x) f y e = (x, refl, e)
bind_ok (Err d) f y e = absurd cc

-- the first step gives this value, and the rest this answer
pub bind_from : {A B F : Type 0} (r : Result A F) (f : A → Result B F) (x : A) (z : Result B F) → r ≡ Ok x → f x ≡ z → (r >>= f) ≡ z
bind_from (Ok w) f x z first rest = let same : w ≡ x = cc in rw same rest
bind_from (Err d) f x z first rest = absurd cc

-- a test that had to pass did
pub guard_ok : {A F : Type 0} (b : Bool) (r : Result A F) (d : F) (y : A) → cond b r (Err d) ≡ Ok y → (b ≡ true) × (r ≡ Ok y)
guard_ok true r d y e = (refl, e)
guard_ok false r d y e = absurd cc

-- a test that had to fail did
pub guard_not : {A F : Type 0} (b : Bool) (r : Result A F) (d : F) (y : A) → cond b (Err d) r ≡ Ok y → (b ≡ false) × (r ≡ Ok y)
guard_not true r d y e = absurd cc
guard_not false r d y e = (refl, e)

-- a check that refused nothing holds
pub check_ok : {F : Type 0} (b : Bool) (d : F) (done : Unit {0}) → check b d ≡ Ok done → b ≡ true
check_ok true d done e = refl
check_ok false d done e = absurd cc

-- what gives a value where there is one gave it
pub ok_or_ok : {A F : Type 0} (o : Option A) (d : F) (x : A) → ok_or o d ≡ Ok x → o ≡ Some x
ok_or_ok (Some w) d x e = let same : w ≡ x = cc in rw same refl
ok_or_ok None d x e = absurd cc

-- no refusal was found
pub unless_ok : {A F : Type 0} (o : Option F) (x y : A) → unless o x ≡ Ok y → (o ≡ None) × (x ≡ y)
unless_ok None x y e = (refl, cc)
unless_ok (Some d) x y e = absurd cc

-- a value in an `Ok`
abbrev pub done : {A F : Type 0} → A → Result A F
done x = Ok x

-- equal results have equal values
pub ok_is : {A F : Type 0} (x y : A) → done {F = F} x ≡ done y → x ≡ y
ok_is x y e = cc

-- what follows from the value of a result holds of it
pub if_ok : {A F : Type 0} (r : Result A F) (P : A → Type 0) → ((x : A) → r ≡ Ok x → P x) → IfOk r P
if_ok (Ok x) P h = h x refl
if_ok (Err e) P h = tt
