-- Reading a list, where a front of it has been read.
use Rattle.std.proofs.Common.{◌≡◌, List, [], ◌∷◌, ◌++◌, ◌<◌, ◌≤◌, Option, Some, None, refl, ap, append_assoc, Bool, true, arith}
use Rattle.std.specs.List.{list_all}
use Rattle.std.proofs.lemmas.Bool.{and_parts, and_from}
use Rattle.refusal.specs.Optional.{◌>>=◌}
use Rattle.serde_json.specs.Data.{Data, Items, item}
use Rattle.serde_json.specs.Events.{items_len}
use Rattle.json_fields.specs.Fields.{items_at}

-- what was read so far, and then the rest
abbrev pub with_front : {A : Type 0} → List A → Option (List A) → Option (List A)
with_front front reading = reading >>= λ xs. Some (front ++ xs)

joined : {A : Type 0} (front : List A) (x : A) (rest : Option (List A)) → with_front (front ++ (x ∷ [])) rest ≡ with_front front (rest >>= λ xs. Some (x ∷ xs))
joined front x (Some xs) = ap (λ (l : List _). Some l) (append_assoc front (x ∷ []) xs)
joined front x None = refl

-- the next item goes to the front
pub with_front-next : {A : Type 0} (reader : Data → Option A) (front : List A) (left later : Items) (d : Data) (x : A) → left ≡ item d later → reader d ≡ Some x
    → with_front (front ++ (x ∷ [])) (items_at reader later) ≡ with_front front (items_at reader left)
with_front-next reader front left later d x is read = rw (is, read) (joined front x (items_at reader later))

-- an item that is nothing ends the reading
pub with_front-none : {A : Type 0} (reader : Data → Option A) (front : List A) (left later : Items) (d : Data) → left ≡ item d later → reader d ≡ None
    → with_front front (items_at reader left) ≡ None
with_front-none reader front left later d is read = rw (is, read) refl

-- one more that passes
pub list_all-push : {A : Type 0} (test : A → Bool) (xs : List A) (x : A) → list_all test xs ≡ true → test x ≡ true → list_all test (xs ++ (x ∷ [])) ≡ true
list_all-push test [] x all one = and_from (test x) true one refl
list_all-push test (y ∷ xs) x all one =
    let parts = and_parts (test y) (list_all test xs) all in
    and_from (test y) (list_all test (xs ++ (x ∷ []))) parts.0 (list_all-push test xs x parts.1 one)

-- the values behind the first of some of a list's values are no more than all; and there is one
pub fewer_later : (left later all : Items) (d : Data) → left ≡ item d later → items_len left ≤ items_len all → items_len later ≤ items_len all
fewer_later left later all d is fewer = let one = ap (λ (l : Items). items_len l) is in omega arith

pub has_value : (left later all : Items) (d : Data) → left ≡ item d later → items_len left ≤ items_len all → 0 < items_len all
has_value left later all d is fewer = let one = ap (λ (l : Items). items_len l) is in omega arith
