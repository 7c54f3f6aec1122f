-- Writing parts into a room, one behind the other.
use Rattle.std.proofs.Common.{◌≡◌, ℕ, ◌+◌, ◌*◌, ◌<◌, ◌≤◌, List, [], ◌∷◌, ◌++◌, length, get_or, take, drop, refl, sym, ap, ◌∙◌, append_assoc, arith, length-append}
use Rattle.std.specs.List.{flat_map, AllByRecursion}
use Rattle.std.proofs.lemmas.List.{take_at, drop_at, drop-drop, length-take, take_more, append-nil}
use Rattle.std.proofs.lemmas.List.Concat.{flat_map-cons}
use Rattle.std.proofs.lemmas.Grind.{flat_map-append}
use Rattle.std.proofs.Math.Nat.{mul-le-mul_left}

-- six bytes, each by its place
pub six : (xs : List ℕ) → length xs ≡ 6 → get_or xs 0 0 ∷ get_or xs 1 0 ∷ get_or xs 2 0 ∷ get_or xs 3 0 ∷ get_or xs 4 0 ∷ get_or xs 5 0 ∷ [] ≡ xs
six (a ∷ b ∷ c ∷ d ∷ e ∷ f ∷ []) len = refl
six _ len = absurd (omega arith)

-- a room after what was written so far, and after the next part
pub put_step : (room text part now next : List ℕ) (at width i : ℕ)
    → at + width * (i + 1) ≤ length room → length text ≡ width * i → length part ≡ width
    → now ≡ take at room ++ (text ++ drop (at + width * i) room)
    → next ≡ take (at + width * i) now ++ (part ++ drop (at + width * i + length part) now)
    → next ≡ take at room ++ ((text ++ part) ++ drop (at + width * (i + 1)) room)
put_step room text part now next at width i fits text_len part_len now_is next_is =
    let front = take at room in
    let back = drop (at + width * i) room in
    let here : length (front ++ text) ≡ at + width * i = omega (arith, length-append front text, length-take at room) in
    let parts : now ≡ (front ++ text) ++ back = now_is ∙ sym (append_assoc front text back) in
    let before : take (at + width * i) now ≡ front ++ text = ap (λ (t : List ℕ). take (at + width * i) t) parts ∙ take_at (front ++ text) back (at + width * i) here in
    let from_here : drop (at + width * i) now ≡ back = ap (λ (t : List ℕ). drop (at + width * i) t) parts ∙ drop_at (front ++ text) back (at + width * i) here in
    let behind : drop (at + width * i + length part) now ≡ drop (at + width * (i + 1)) room =
    sym (drop-drop (length part) (at + width * i) now) ∙ ap (λ (t : List ℕ). drop (length part) t) from_here ∙ drop-drop (length part) (at + width * i) room ∙ ap (λ (n : ℕ). drop n room) (omega arith) in
    next_is ∙ rw (before, behind) (append_assoc front text (part ++ drop (at + width * (i + 1)) room) ∙ ap (λ (t : List ℕ). front ++ t) (sym (append_assoc text part (drop (at + width * (i + 1)) room))))

-- the parts of one more field
pub flat_map-more : {A : Type 0} (f : A → List ℕ) (xs : List A) (i : ℕ) (x : A) → i < length xs → flat_map f (take (i + 1) xs) ≡ flat_map f (take i xs) ++ f (get_or xs i x)
flat_map-more f xs i x lt =
    rw (take_more xs i x lt, flat_map-append f (take i xs) (get_or xs i x ∷ []), flat_map-cons f (get_or xs i x) []) (ap (λ (t : List ℕ). flat_map f (take i xs) ++ t) (append-nil (f (get_or xs i x))))

pub all-more : {A : Type 0} (P : A → Type 0) (xs : List A) (x : A) → AllByRecursion P xs → P x → AllByRecursion P (xs ++ x ∷ [])
all-more P [] x all here = (here, tt)
all-more P (y ∷ xs) x all here = (all.0, all-more P xs x all.1 here)

-- the first fields stand in the room, from this place on
pub record Written {A : Type 0} (spell : A → List ℕ) (width : ℕ) (F : A → Type 0) (xs : List A) (old new : List ℕ) (at i : ℕ) : Type 0 where
  pub room : new ≡ take at old ++ (flat_map spell (take i xs) ++ drop (at + width * i) old)
  pub len : length (flat_map spell (take i xs)) ≡ width * i
  pub fits : AllByRecursion F (take i xs)

-- and so does one more
pub one_more : {A : Type 0} (spell : A → List ℕ) (width : ℕ) (F : A → Type 0) (xs : List A) (old now next : List ℕ) (at i : ℕ) (x d : A) (part : List ℕ)
    → i < length xs → x ≡ get_or xs i d → part ≡ spell x → length (spell x) ≡ width → F x → at + width * length xs ≤ length old
    → next ≡ take (at + width * i) now ++ (part ++ drop (at + width * i + length part) now)
    → Written spell width F xs old now at i → Written spell width F xs old next at (i + 1)
one_more {A} spell width F xs old now next at i x d part lt x_is part_is spell_len x_fits fits next_is so_far =
    let part_len : length part ≡ width = ap (λ (t : List ℕ). length t) part_is ∙ spell_len in
    let more : i + 1 ≤ length xs = omega arith in
    let enough : width * (i + 1) ≤ width * length xs = mul-le-mul_left width more in
    let text : flat_map spell (take (i + 1) xs) ≡ flat_map spell (take i xs) ++ part = flat_map-more spell xs i d lt ∙ ap (λ (y : A). flat_map spell (take i xs) ++ spell y) (sym x_is) ∙ ap (λ (t : List ℕ). flat_map spell (take i xs) ++ t) (sym part_is) in
    let taken : take (i + 1) xs ≡ take i xs ++ x ∷ [] = take_more xs i d lt ∙ ap (λ (y : A). take i xs ++ y ∷ []) (sym x_is) in
    record {
      room = rw text (put_step old (flat_map spell (take i xs)) part now next at width i (omega arith) so_far.len part_len so_far.room next_is);
      len = rw text (omega (arith, length-append (flat_map spell (take i xs)) part, so_far.len, part_len));
      fits = rw taken (all-more F (take i xs) x so_far.fits x_fits);
    }
