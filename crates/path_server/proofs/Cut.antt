-- A block that is cut in two.
use Rattle.std.proofs.Common.{◌≡◌, ℕ, suc, ◌+◌, ◌-◌, ◌<◌, ◌≤◌, List, [], ◌∷◌, ◌++◌, length, get_or, take, drop, set, ap, sym, subst, ◌∙◌, inl, inr, arith}
use Rattle.std.specs.List.{insert}
use Rattle.std.specs.Prelude.{vec_len, vec_capacity}
use Rattle.std.proofs.lemmas.Bool.{cases_eq, cases_order}
use Rattle.std.proofs.lemmas.List.{append_assoc, take-append-drop, take_more, take_at, set_at, length-take-le, length-append, length-drop, get_or_at, get_or_append_left, get_or-append_right, get_or-drop, get_or-take}
use Rattle.std.proofs.lemmas.List.Concat.{flat_map-append}
use Rattle.path_server.specs.inner.Blocks.{Block, joined, position, LiesIn, HasRoom, AreFilled, IsCut}
use Rattle.path_server.proofs.Joined.{FilledAt, joined_at}

pub cut_all : (bs : List Block) (at : ℕ) (lower upper d : Block) → at < length bs
    → set (insert bs (at + 1) upper) at lower ≡ take at bs ++ (lower ∷ upper ∷ drop (at + 1) bs)
cut_all bs at lower upper d within =
    ap (λ front. set (front ++ (upper ∷ drop (at + 1) bs)) at lower) (take_more bs at d within)
    ∙ ap (λ all. set all at lower) (append_assoc (take at bs) (get_or bs at d ∷ []) (upper ∷ drop (at + 1) bs))
    ∙ set_at (take at bs) (get_or bs at d) (upper ∷ drop (at + 1) bs) lower at (length-take-le at bs (omega arith))

pub cut_first : (bs : List Block) (at : ℕ) (upper d : Block) → at < length bs
    → get_or (insert bs (at + 1) upper) at d ≡ get_or bs at d
cut_first bs at upper d within =
    let short = length-take-le (at + 1) bs (omega arith) in
    get_or_append_left (take (at + 1) bs) (upper ∷ drop (at + 1) bs) d at (omega arith)
    ∙ get_or-take (at + 1) bs at d (omega arith)

pub joined_cut : (old : List Block) (at : ℕ) (new : List Block) (d : Block) → at < length old → IsCut old at new
    → joined new ≡ joined old
joined_cut old at new d within cut =
    let I = (get_or old at d).items in
    let C = joined (drop (at + 1) old) in
    ap joined cut.all
    ∙ flat_map-append (λ (b : Block). b.items) (take at old) (cut.lower ∷ cut.upper ∷ drop (at + 1) old)
    ∙ ap (λ it. joined (take at old) ++ (it ++ (cut.upper.items ++ C))) (cut.first d)
    ∙ ap (λ it. joined (take at old) ++ (take 256 I ++ (it ++ C))) (cut.second d)
    ∙ ap (λ all. joined (take at old) ++ all) (sym (append_assoc (take 256 I) (drop 256 I) C))
    ∙ ap (λ all. joined (take at old) ++ (all ++ C)) (take-append-drop 256 I)
    ∙ sym (joined_at old at d within)

-- the blocks before the cut
pub before_cut : (old : List Block) (at : ℕ) (new : List Block) → at < length old → IsCut old at new
    → take at new ≡ take at old
before_cut old at new within cut =
    ap (take at) cut.all ∙ take_at (take at old) (cut.lower ∷ cut.upper ∷ drop (at + 1) old) at (length-take-le at old (omega arith))

pub lower_at : (old : List Block) (at : ℕ) (new : List Block) (d : Block) → at < length old → (cut : IsCut old at new)
    → get_or new at d ≡ cut.lower
lower_at old at new d within cut =
    ap (λ all. get_or all at d) cut.all
    ∙ get_or_at (take at old) cut.lower (cut.upper ∷ drop (at + 1) old) d at (length-take-le at old (omega arith))

all_later : (old : List Block) (at : ℕ) (new : List Block) → (cut : IsCut old at new)
    → new ≡ (take at old ++ cut.lower ∷ []) ++ (cut.upper ∷ drop (at + 1) old)
all_later old at new cut =
    cut.all ∙ sym (append_assoc (take at old) (cut.lower ∷ []) (cut.upper ∷ drop (at + 1) old))

front_length : (old : List Block) (at : ℕ) (x : Block) → at < length old → length (take at old ++ x ∷ []) ≡ at + 1
front_length old at x within =
    let short = length-take-le at old (omega arith) in
    let more = length-append (take at old) (x ∷ []) in
    omega arith

pub upper_at : (old : List Block) (at : ℕ) (new : List Block) (d : Block) → at < length old → (cut : IsCut old at new)
    → get_or new (at + 1) d ≡ cut.upper
upper_at old at new d within cut =
    ap (λ all. get_or all (at + 1) d) (all_later old at new cut)
    ∙ get_or_at (take at old ++ cut.lower ∷ []) cut.upper (drop (at + 1) old) d (at + 1) (front_length old at cut.lower within)

pub cut_length : (old : List Block) (at : ℕ) (new : List Block) → at < length old → IsCut old at new
    → length new ≡ length old + 1
cut_length old at new within cut =
    let parts = ap length (all_later old at new cut) in
    let sum = length-append (take at old ++ cut.lower ∷ []) (cut.upper ∷ drop (at + 1) old) in
    let front = front_length old at cut.lower within in
    let rest = length-drop (at + 1) old in
    omega arith

pub cut_lies_low : (old : List Block) (at off : ℕ) (new : List Block) → at < length old → IsCut old at new → off ≤ 256 → LiesIn new at off
cut_lies_low old at off new within cut low =
    let long = cut_length old at new within cut in (
      omega arith,
      λ d. (
          let one = ap (λ (b : Block). length b.items) (lower_at old at new d within cut) in
          let half = cut.halves.0 in
          omega arith),
    )

pub cut_lies_high : (old : List Block) (at off : ℕ) (new : List Block) → at < length old → IsCut old at new → off ≤ 512 → LiesIn new (at + 1) (off - 256)
cut_lies_high old at off new within cut high =
    let long = cut_length old at new within cut in (
      omega arith,
      λ d. (
          let one = ap (λ (b : Block). length b.items) (upper_at old at new d within cut) in
          let half = cut.halves.1 in
          omega arith),
    )

pub cut_room_low : (old : List Block) (at : ℕ) (new : List Block) → at < length old → IsCut old at new → HasRoom new at
cut_room_low old at new within cut d =
    let half = cut.halves.0 in
    subst (λ (b : Block). (vec_len b < vec_capacity b) × (length b.items < 512)) (sym (lower_at old at new d within cut))
    (cut.first_room, omega arith)

pub cut_room_high : (old : List Block) (at : ℕ) (new : List Block) → at < length old → IsCut old at new → HasRoom new (at + 1)
cut_room_high old at new within cut d =
    let half = cut.halves.1 in
    subst (λ (b : Block). (vec_len b < vec_capacity b) × (length b.items < 512)) (sym (upper_at old at new d within cut))
    (cut.second_room, omega arith)

pub cut_position_low : (old : List Block) (at off : ℕ) (new : List Block) → at < length old → IsCut old at new
    → position new at off ≡ position old at off
cut_position_low old at off new within cut = ap (λ some. length (joined some) + off) (before_cut old at new within cut)

pub cut_position_high : (old : List Block) (at off : ℕ) (new : List Block) → at < length old → IsCut old at new → 256 < off
    → position new (at + 1) (off - 256) ≡ position old at off
cut_position_high old at off new within cut high =
    let front = ap (λ all. length (joined (take (at + 1) all))) (all_later old at new cut) in
    let some = ap (λ all. length (joined all)) (take_at (take at old ++ cut.lower ∷ []) (cut.upper ∷ drop (at + 1) old) (at + 1) (front_length old at cut.lower within)) in
    let parts = ap length (flat_map-append (λ (b : Block). b.items) (take at old) (cut.lower ∷ [])) in
    let sum = length-append (joined (take at old)) (cut.lower.items ++ []) in
    let last = length-append cut.lower.items [] in
    let half = cut.halves.0 in
    omega arith

pub cut_filled : (old : List Block) (at : ℕ) (new : List Block) → at < length old → IsCut old at new → AreFilled old → AreFilled new
cut_filled old at new within cut filled k d inside = elim (cases_order k at) [
  | inl here ↦
      (let half = cut.halves.0 in
      subst (FilledAt k) (sym (ap (λ n. get_or new n d) here ∙ lower_at old at new d within cut)) (λ _. omega arith, omega arith))
  | inr (inl before) ↦
      (let same : get_or new k d ≡ get_or old k d = ap (λ all. get_or all k d) cut.all
      ∙ get_or_append_left (take at old) (cut.lower ∷ cut.upper ∷ drop (at + 1) old) d k (let short = length-take-le at old (omega arith) in omega arith)
      ∙ get_or-take at old k d before in
      subst (FilledAt k) (sym same) (filled k d (omega arith)))
  | inr (inr after) ↦ elim (cases_eq k (at + 1)) [
    | inl next ↦
        (let half = cut.halves.1 in
        subst (FilledAt k) (sym (ap (λ n. get_or new n d) next ∙ upper_at old at new d within cut)) (λ _. omega arith, omega arith))
    | inr later ↦
        (let long = cut_length old at new within cut in
        let front = front_length old at cut.lower within in
        let rest = k - (at + 2) in
        let count : k - (at + 1) ≡ suc rest = omega arith in
        let back : at + 1 + rest ≡ k - 1 = omega arith in
        let same : get_or new k d ≡ get_or old (k - 1) d = ap (λ all. get_or all k d) (all_later old at new cut)
        ∙ get_or-append_right (take at old ++ cut.lower ∷ []) (cut.upper ∷ drop (at + 1) old) (at + 1) k d front (omega arith)
        ∙ ap (λ n. get_or (cut.upper ∷ drop (at + 1) old) n d) count
        ∙ get_or-drop (at + 1) old rest d
        ∙ ap (λ n. get_or old n d) back in
        let one = filled (k - 1) d (omega arith) in
        subst (FilledAt k) (sym same) (λ some. one.0 (omega arith), one.1))
  ]
]
