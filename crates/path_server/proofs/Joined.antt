-- Lists in blocks: what a block is of the whole list.
use Rattle.std.proofs.Common.{◌≡◌, ℕ, suc, ◌+◌, ◌<◌, ◌≤◌, List, [], ◌∷◌, ◌++◌, length, get_or, take, drop, set, ap, sym, ◌∙◌, arith}
use Rattle.std.specs.List.{insert}
use Rattle.std.proofs.lemmas.List.{append-nil, take-append-drop, drop_more, append_assoc, set_split, take-append-le, drop-append-le, length-take-le, take-take, get_or-take}
use Rattle.std.proofs.lemmas.List.Concat.{flat_map-append, get_or-flat_map}
use Rattle.std.proofs.lemmas.List.Folds.{length-flat_map-take}
use Rattle.path_server.specs.inner.Blocks.{Block, joined, position}

-- the block has as many places as a block at this position may have
abbrev pub FilledAt : ℕ → Block → Type 0
FilledAt k b = (0 < k → 0 < length b.items) × (length b.items ≤ 512)

-- the list is what comes before a block, the block, and what comes after it
pub joined_at : (bs : List Block) (i : ℕ) (d : Block) → i < length bs
    → joined bs ≡ joined (take i bs) ++ ((get_or bs i d).items ++ joined (drop (i + 1) bs))
joined_at bs i d within =
    ap joined (sym (take-append-drop i bs))
    ∙ flat_map-append (λ (b : Block). b.items) (take i bs) (drop i bs)
    ∙ ap (λ rest. joined (take i bs) ++ joined rest) (drop_more bs i d within)

pub joined_set : (bs : List Block) (i : ℕ) (b : Block) → i < length bs
    → joined (set bs i b) ≡ joined (take i bs) ++ (b.items ++ joined (drop (i + 1) bs))
joined_set bs i b within =
    let next : suc i ≡ i + 1 = omega arith in
    ap joined (set_split bs i b within)
    ∙ flat_map-append (λ (b : Block). b.items) (take i bs) (b ∷ drop (suc i) bs)
    ∙ ap (λ k. joined (take i bs) ++ (b.items ++ joined (drop k bs))) next

-- a block of the same places in the place of another
pub joined_same : (bs : List Block) (i : ℕ) (b d : Block) → i < length bs → b.items ≡ (get_or bs i d).items
    → joined (set bs i b) ≡ joined bs
joined_same bs i b d within same =
    joined_set bs i b within
    ∙ ap (λ it. joined (take i bs) ++ (it ++ joined (drop (i + 1) bs))) same
    ∙ sym (joined_at bs i d within)

insert_between : (A I C : List ℕ) (off x : ℕ) → off ≤ length I
    → insert (A ++ (I ++ C)) (length A + off) x ≡ A ++ (insert I off x ++ C)
insert_between [] I C off x within =
    let none : 0 + off ≡ off = omega arith in
    rw (none, take-append-le off I C within, drop-append-le off I C within)
    (sym (append_assoc (take off I) (x ∷ drop off I) C))
insert_between (a ∷ A) I C off x within =
    let step : length (a ∷ A) + off ≡ suc (length A + off) = omega arith in
    rw step (ap (λ rest. a ∷ rest) (insert_between A I C off x within))

-- the only block is the list
pub joined_one : (bs : List Block) (d : Block) → length bs ≡ 1 → joined bs ≡ (get_or bs 0 d).items
joined_one [] d one = absurd (omega (arith, one))
joined_one (b ∷ []) d one = append-nil b.items
joined_one (b ∷ e ∷ bs) d one = absurd (omega (arith, one))

-- a place is inserted into the list where it is inserted into a block
pub joined_insert : (bs : List Block) (i : ℕ) (b d : Block) (off x : ℕ) → i < length bs
    → off ≤ length (get_or bs i d).items → b.items ≡ insert (get_or bs i d).items off x
    → joined (set bs i b) ≡ insert (joined bs) (position bs i off) x
joined_insert bs i b d off x within low same =
    joined_set bs i b within
    ∙ ap (λ it. joined (take i bs) ++ (it ++ joined (drop (i + 1) bs))) same
    ∙ sym (insert_between (joined (take i bs)) (get_or bs i d).items (joined (drop (i + 1) bs)) off x low)
    ∙ ap (λ all. insert all (position bs i off) x) (sym (joined_at bs i d within))

-- the element of a block, in the list
pub at_block : (bs : List Block) (i j : ℕ) (d : Block) (e : ℕ) → i < length bs → j < length (get_or bs i d).items
    → get_or (joined bs) (position bs i j) e ≡ get_or (get_or bs i d).items j e
at_block bs i j d e within inside = get_or-flat_map (λ (b : Block). b.items) bs i j d e within inside

-- later blocks begin later
pub starts_rise : (bs : List Block) (i j : ℕ) (d : Block) → i < j → j ≤ length bs
    → position bs i 0 + length (get_or bs i d).items ≤ position bs j 0
starts_rise bs i j d before within =
    let short = length-take-le j bs within in
    let far = length-flat_map-take (λ (b : Block). b.items) (take j bs) i d (omega arith) in
    let front = ap (λ some. length (joined some)) (take-take i j bs (omega arith)) in
    let one = ap (λ (b : Block). length b.items) (get_or-take j bs i d before) in
    omega arith

pub ends_within : (bs : List Block) (i : ℕ) (d : Block) → i < length bs
    → position bs i 0 + length (get_or bs i d).items ≤ length (joined bs)
ends_within bs i d within =
    let far = length-flat_map-take (λ (b : Block). b.items) bs i d within in
    omega arith
