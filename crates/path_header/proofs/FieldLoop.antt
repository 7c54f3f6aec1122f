-- Reading fields of one width one after the other, as a loop does.
use Rattle.std.proofs.Common.{◌≡◌, ℕ, suc, ◌-◌, ◌+◌, ◌*◌, ◌≤◌, ◌<◌, List, [], ◌∷◌, ◌++◌, drop, Result, Ok, Err, refl, sym, ap, subst, ◌∙◌, append_assoc, arith}
use Rattle.std.proofs.lemmas.List.{append-nil, drop-drop}
use Rattle.path_header.specs.declared.fault.HeaderFault.{HeaderFault}
use Rattle.refusal.specs.Refusal.{◌>>=◌}
use Rattle.path_header.specs.Reading.{fields_at}
use Rattle.refusal.proofs.Steps.{bind_ok, ok_is}

-- what was read before, and what is still read
abbrev pub with_front : {A : Type 0} → List A → Result (List A) HeaderFault → Result (List A) HeaderFault
with_front front read = read >>= λ xs. Ok (front ++ xs)

regroup : {A : Type 0} (front : List A) (x : A) (read : Result (List A) HeaderFault) → with_front front (read >>= λ xs. Ok (x ∷ xs)) ≡ with_front (front ++ x ∷ []) read
regroup {A} front x (Ok xs) = ap (λ (ys : List A). Ok ys) (simp append_assoc)
regroup front x (Err f) = refl

pub goes_on : {A : Type 0} (one : List ℕ → Result A HeaderFault) (width : ℕ) (front : List A) (count i : ℕ) (bytes : List ℕ) (x : A) (total : Result (List A) HeaderFault)
    → i < count → one (drop (width * i) bytes) ≡ Ok x
    → with_front front (fields_at one width (count - i) (drop (width * i) bytes)) ≡ total
    → with_front (front ++ x ∷ []) (fields_at one width (count - (i + 1)) (drop (width * (i + 1)) bytes)) ≡ total
unfolding fields_at
goes_on one width front count i bytes x total lt h so_far =
    let k : count - i ≡ suc (count - (i + 1)) = omega arith in
    let next : drop width (drop (width * i) bytes) ≡ drop (width * (i + 1)) bytes = drop-drop width (width * i) bytes ∙ ap (λ n. drop n bytes) (omega arith) in
    let step : with_front front (fields_at one width (count - i) (drop (width * i) bytes)) ≡ with_front (front ++ x ∷ []) (fields_at one width (count - (i + 1)) (drop (width * (i + 1)) bytes)) =
    rw (k, h, next) (regroup front x (fields_at one width (count - (i + 1)) (drop (width * (i + 1)) bytes))) in
    sym step ∙ so_far

pub ends : {A : Type 0} (one : List ℕ → Result A HeaderFault) (width : ℕ) (front : List A) (count i : ℕ) (bytes : List ℕ) (f : HeaderFault) (total : Result (List A) HeaderFault)
    → i < count → one (drop (width * i) bytes) ≡ Err f
    → with_front front (fields_at one width (count - i) (drop (width * i) bytes)) ≡ total
    → total ≡ Err f
unfolding fields_at
ends one width front count i bytes f total lt h so_far =
    let k : count - i ≡ suc (count - (i + 1)) = omega arith in
    let step : with_front front (fields_at one width (count - i) (drop (width * i) bytes)) ≡ Err f = rw (k, h) refl in
    sym so_far ∙ step

pub is_done : {A : Type 0} (one : List ℕ → Result A HeaderFault) (width : ℕ) (front : List A) (count i : ℕ) (bytes : List ℕ) (total : Result (List A) HeaderFault)
    → count ≤ i
    → with_front front (fields_at one width (count - i) (drop (width * i) bytes)) ≡ total
    → total ≡ Ok front
unfolding fields_at
is_done {A} one width front count i bytes total le so_far =
    let k : count - i ≡ 0 = omega arith in
    let step : with_front front (fields_at one width (count - i) (drop (width * i) bytes)) ≡ Ok front = rw k (ap (λ (xs : List A). Ok xs) (append-nil front)) in
    sym so_far ∙ step

-- the same for fields that a check has passed: the values are those that are read
pub goes_on_checked : {A : Type 0} (one : List ℕ → Result A HeaderFault) (from : List ℕ → A) (width : ℕ) (front : List A) (count i : ℕ) (bytes : List ℕ) (all : List A)
    → ((field : List ℕ) (x : A) → one field ≡ Ok x → x ≡ from field)
    → i < count
    → with_front front (fields_at one width (count - i) (drop (width * i) bytes)) ≡ Ok all
    → with_front (front ++ from (drop (width * i) bytes) ∷ []) (fields_at one width (count - (i + 1)) (drop (width * (i + 1)) bytes)) ≡ Ok all
unfolding fields_at
goes_on_checked {A} one from width front count i bytes all is_from lt h =
    let rest = drop (width * i) bytes in
    let n = count - (i + 1) in
    let k : count - i ≡ suc n = omega arith in
    let later = bind_ok (fields_at one width (count - i) rest) (λ ys. Ok (front ++ ys)) all h in
    let step : fields_at one width (suc n) rest ≡ Ok later.0 = subst (λ m. fields_at one width m rest ≡ Ok later.0) k later.1 in
    let first = bind_ok (one rest) (λ x. fields_at one width n (drop width rest) >>= λ ys. Ok (x ∷ ys)) later.0 step in
    let taken : one rest ≡ Ok (from rest) = first.1 ∙ ap (λ (x : A). Ok x) (is_from rest first.0 first.1) in
    goes_on one width front count i bytes (from rest) (Ok all) lt taken h

pub is_done_checked : {A : Type 0} (one : List ℕ → Result A HeaderFault) (width : ℕ) (front : List A) (count i : ℕ) (bytes : List ℕ) (all : List A)
    → count ≤ i
    → with_front front (fields_at one width (count - i) (drop (width * i) bytes)) ≡ Ok all
    → front ≡ all
is_done_checked one width front count i bytes all le h = sym (ok_is all front (is_done one width front count i bytes (Ok all) le h))
