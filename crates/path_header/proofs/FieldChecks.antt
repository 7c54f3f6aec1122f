-- Checking fields of one width one after the other, as a loop does.
use Rattle.std.proofs.Common.{◌≡◌, ℕ, suc, ◌-◌, ◌+◌, ◌*◌, ◌≤◌, ◌<◌, List, ◌∷◌, drop, Result, Ok, Err, refl, sym, ap, ◌∙◌, arith}
use Rattle.std.proofs.lemmas.List.{drop-drop}
use Rattle.path_header.specs.declared.fault.HeaderFault.{HeaderFault}
use Rattle.refusal.specs.Refusal.{◌>>=◌}
use Rattle.path_header.specs.Reading.{fields_at}
use Rattle.path_header.specs.Shown.{without_value}

-- a value is left out by a judgement, whatever is made of it
regroup : {A : Type 0} (x : A) (read : Result (List A) HeaderFault) → without_value (read >>= λ xs. Ok (x ∷ xs)) ≡ without_value read
regroup x (Ok xs) = refl
regroup x (Err f) = refl

pub goes_on : {A : Type 0} (one : List ℕ → Result A HeaderFault) (width count i : ℕ) (bytes : List ℕ) (x : A) (total : Result (Unit {0}) HeaderFault)
    → i < count → one (drop (width * i) bytes) ≡ Ok x
    → without_value (fields_at one width (count - i) (drop (width * i) bytes)) ≡ total
    → without_value (fields_at one width (count - (i + 1)) (drop (width * (i + 1)) bytes)) ≡ total
unfolding fields_at
goes_on one width count i bytes x total lt h so_far =
    let k : count - i ≡ suc (count - (i + 1)) = omega arith in
    let next : drop width (drop (width * i) bytes) ≡ drop (width * (i + 1)) bytes = drop-drop width (width * i) bytes ∙ ap (λ n. drop n bytes) (omega arith) in
    let step : without_value (fields_at one width (count - i) (drop (width * i) bytes)) ≡ without_value (fields_at one width (count - (i + 1)) (drop (width * (i + 1)) bytes)) =
    rw (k, h, next) (regroup x (fields_at one width (count - (i + 1)) (drop (width * (i + 1)) bytes))) in
    sym step ∙ so_far

pub ends : {A : Type 0} (one : List ℕ → Result A HeaderFault) (width count i : ℕ) (bytes : List ℕ) (f : HeaderFault) (total : Result (Unit {0}) HeaderFault)
    → i < count → one (drop (width * i) bytes) ≡ Err f
    → without_value (fields_at one width (count - i) (drop (width * i) bytes)) ≡ total
    → total ≡ Err f
unfolding fields_at
ends one width count i bytes f total lt h so_far =
    let k : count - i ≡ suc (count - (i + 1)) = omega arith in
    let step : without_value (fields_at one width (count - i) (drop (width * i) bytes)) ≡ Err f = rw (k, h) refl in
    sym so_far ∙ step

pub is_done : {A : Type 0} (one : List ℕ → Result A HeaderFault) (width count i : ℕ) (bytes : List ℕ) (total : Result (Unit {0}) HeaderFault)
    → count ≤ i
    → without_value (fields_at one width (count - i) (drop (width * i) bytes)) ≡ total
    → total ≡ Ok tt
unfolding fields_at
is_done one width count i bytes total le so_far =
    let k : count - i ≡ 0 = omega arith in
    let step : without_value (fields_at one width (count - i) (drop (width * i) bytes)) ≡ Ok tt = rw k refl in
    sym so_far ∙ step
