-- The words of a table of two parts, or of one that may begin again, by the words of the parts.
use Rattle.std.proofs.Common.{◌≡◌, ◌⊎◌, ◌↔◌, ℕ, ◌<◌, Bool, true, false, ◌||◌, ◌&&◌, List, [], ◌∷◌, ◌++◌, length, inl, inr, sym, ◌∙◌, ap, refl, subst, arith}
use Rattle.std.specs.List.{AllByRecursion, flat_map}
use Rattle.policy_expr.specs.declared.hop.WalkHop.{WalkHop}
use Rattle.policy_expr.specs.declared.ends.Ends.{Ends}
use Rattle.policy_expr.specs.declared.table.Line.{Line}
use Rattle.policy_expr.specs.Sets.{Has}
use Rattle.policy_expr.specs.Language.{Tree}
use Rattle.policy_expr.specs.Table.{MayFollow, MeetsAt, After, Accepts, IsNew, Adds}
use Rattle.policy_expr.specs.inner.Table.{Links, IsThen}

-- ---- tests

and_both : (x y : Bool) → (x && y) ≡ true → (x ≡ true) × (y ≡ true)
and_both true y e = (refl, e)
and_both false y e = absurd (let f : false ≡ true = e in cc)

both_and : (x y : Bool) → x ≡ true → y ≡ true → (x && y) ≡ true
both_and true y d e = e
both_and false y d e = absurd (let f : false ≡ true = d in cc)

or_either : (x y : Bool) → (x || y) ≡ true → (x ≡ true) ⊎ (y ≡ true)
or_either true y e = inl refl
or_either false y e = inr e

or_first : (x y : Bool) → x ≡ true → (x || y) ≡ true
or_first true y e = refl
or_first false y e = absurd (let f : false ≡ true = e in cc)

or_second : (x y : Bool) → y ≡ true → (x || y) ≡ true
or_second true y e = refl
or_second false y e = e

-- ---- going on where each step is one of another table too

-- what goes on from a predicate of a kind that no step leaves
after_map : (lines lines' : List Line) (ends ends' : Ends) (R : ℕ → Type 0)
    → ((k : ℕ) → R k → Has ends.last k → Has ends'.last k)
    → ((k j : ℕ) → R k → MayFollow lines k j → MayFollow lines' k j × R j)
    → ((k : ℕ) (h : WalkHop) → R k → MeetsAt lines k h → MeetsAt lines' k h)
    → (k : ℕ) (w : List WalkHop) → R k → After lines ends k w → After lines' ends' k w
after_map lines lines' ends ends' R last next meets k [] r after = last k r after
after_map lines lines' ends ends' R last next meets k (h ∷ w) r after =
    let n = next k after.0 r after.1 in
    (after.0, n.0, meets after.0 h n.1 after.2, after_map lines lines' ends ends' R last next meets after.0 w n.1 after.3)

-- no predicate is of two parts, one of which was added behind the other
apart : (old mid late : List Line) (k : ℕ) → IsNew old mid k → IsNew mid late k → ⊥
apart old mid late k i j = omega (arith, i.1, j.0)

-- ---- one part and then another

module _ (a b : Tree) (old mid late new : List Line) (x y z : Ends) (front : Adds a old mid x) (back : Adds b mid late y)
    (links : Links late new x.last y.first) (ends : IsThen x y z) where
  -- a step from the first part stays there, or goes from its end to the beginning of the second
  from_front : (j k : ℕ) → IsNew old mid j → MayFollow new j k → (MayFollow mid j k × IsNew old mid k) ⊎ (Has x.last j × Has y.first k)
  from_front j k i m = elim ((links.next j k).0 m) [
    | inl before ↦ (let step = (back.next j k i.1).0 before in inl (step, front.among j k i.0 step))
    | inr over ↦ inr over
  ]

  from_back : (j k : ℕ) → IsNew mid late j → MayFollow new j k → MayFollow late j k × IsNew mid late k
  from_back j k i m = elim ((links.next j k).0 m) [
    | inl before ↦ (before, back.among j k i.0 before)
    | inr over ↦ absurd (apart old mid late j (front.last j over.0) i)
  ]

  meets_front : (k : ℕ) (h : WalkHop) → IsNew old mid k → MeetsAt new k h ↔ MeetsAt mid k h
  meets_front k h i = (
    λ m. (back.meets k h i.1).0 ((links.meets k h).0 m),
    λ m. (links.meets k h).1 ((back.meets k h i.1).1 m),
  )

  back_after : (k : ℕ) (w : List WalkHop) → IsNew mid late k → After new z k w → After late y k w
  back_after = after_map new late z y (IsNew mid late)
      (λ k i last. elim ((ends.last k).0 last) [
        | inl mine ↦ mine
        | inr over ↦ absurd (apart old mid late k (front.last k over.1) i)
      ])
      (λ k j i next. from_back k j i next) (λ k h i meets. (links.meets k h).0 meets)

  after_back : (k : ℕ) (w : List WalkHop) → After late y k w → After new z k w
  after_back k w after = after_map late new y z (λ _. Unit {0})
      (λ m _ last. (ends.last m).1 (inl last)) (λ m j _ next. ((links.next m j).1 (inl next), tt)) (λ m h _ meets. (links.meets m h).1 meets) k w tt after

  -- what goes on from the first part ends a word of it, and then a word of the second comes
  abbrev Parts : (List WalkHop → Type 0) → List WalkHop → Type 0
  Parts P w = (u : List WalkHop) × (v : List WalkHop) × (w ≡ u ++ v) × P u × Accepts late y v

  parts_after : (w : List WalkHop) (k : ℕ) → IsNew old mid k → After new z k w → Parts (λ u. After mid x k u) w
  parts_after [] k i last = elim ((ends.last k).0 last) [
    | inl mine ↦ absurd (apart old mid late k i (back.last k mine))
    | inr over ↦ ([], [], refl, over.1, over.0)
  ]
  parts_after (h ∷ w) k i after = elim (from_front k after.0 i after.1) [
    | inl step ↦ (let p = parts_after w after.0 step.1 after.3 in
        (h ∷ p.0, p.1, ap (λ (r : List WalkHop). h ∷ r) p.2, (after.0, step.0, (meets_front after.0 h step.1).0 after.2, p.3), p.4))
    | inr over ↦ (
      [],
      h ∷ w,
      refl,
      over.0,
      (after.0, over.1, (links.meets after.0 h).0 after.2, back_after after.0 w (back.first after.0 over.1) after.3),
    )
  ]

  after_parts : (u : List WalkHop) (k : ℕ) (v : List WalkHop) → IsNew old mid k → After mid x k u → Accepts late y v → After new z k (u ++ v)
  after_parts [] k [] i after word = (ends.last k).1 (inr (word, after))
  after_parts [] k (h ∷ v) i after word =
      (word.0, (links.next k word.0).1 (inr (after, word.1)), (links.meets word.0 h).1 word.2, after_back word.0 v word.3)
  after_parts (h ∷ u) k v i after word =
      let j = front.among k after.0 i.0 after.1 in (
        after.0,
        (links.next k after.0).1 (inl ((back.next k after.0 i.1).1 after.1)),
        (meets_front after.0 h j).1 after.2,
        after_parts u after.0 v j after.3 word,
      )

  parts_of_word : (w : List WalkHop) → Accepts new z w → Parts (Accepts mid x) w
  parts_of_word [] word = let both = and_both x.has_empty y.has_empty (sym ends.empty ∙ word) in ([], [], refl, both.0, both.1)
  parts_of_word (h ∷ w) word = elim ((ends.first word.0).0 word.1) [
    | inl mine ↦ (let i = front.first word.0 mine in let p = parts_after w word.0 i word.3 in
        (h ∷ p.0, p.1, ap (λ (r : List WalkHop). h ∷ r) p.2, (word.0, mine, (meets_front word.0 h i).0 word.2, p.3), p.4))
    | inr over ↦ (
      [],
      h ∷ w,
      refl,
      over.0,
      (word.0, over.1, (links.meets word.0 h).0 word.2, back_after word.0 w (back.first word.0 over.1) word.3),
    )
  ]

  word_of_parts : (u v : List WalkHop) → Accepts mid x u → Accepts late y v → Accepts new z (u ++ v)
  word_of_parts [] [] one other = ends.empty ∙ both_and x.has_empty y.has_empty one other
  word_of_parts [] (h ∷ v) one other =
      (other.0, (ends.first other.0).1 (inr (one, other.1)), (links.meets other.0 h).1 other.2, after_back other.0 v other.3)
  word_of_parts (h ∷ u) v one other =
      let i = front.first one.0 one.1 in
      (one.0, (ends.first one.0).1 (inl one.1), (meets_front one.0 h i).1 one.2, after_parts u one.0 v i one.3 other)

  pub followed_words : (w : List WalkHop)
      → Accepts new z w ↔ ((u : List WalkHop) × (v : List WalkHop) × (w ≡ u ++ v) × Accepts mid x u × Accepts late y v)
  followed_words w = (parts_of_word w, λ p. subst (Accepts new z) (sym p.2) (word_of_parts p.0 p.1 p.3 p.4))

-- ---- one part or another

-- the ends of a part or another
pub record IsEither (one other ends : Ends) : Type 0 where
  pub first : (k : ℕ) → Has ends.first k ↔ (Has one.first k ⊎ Has other.first k)
  pub last : (k : ℕ) → Has ends.last k ↔ (Has one.last k ⊎ Has other.last k)
  pub empty : ends.has_empty ≡ (one.has_empty || other.has_empty)

module _ (a b : Tree) (old mid late : List Line) (x y z : Ends) (one : Adds a old mid x) (other : Adds b mid late y) (ends : IsEither x y z) where
  one_after : (k : ℕ) (w : List WalkHop) → IsNew old mid k → After late z k w → After mid x k w
  one_after = after_map late mid z x (IsNew old mid)
      (λ k i last. elim ((ends.last k).0 last) [
        | inl mine ↦ mine
        | inr yours ↦ absurd (apart old mid late k i (other.last k yours))
      ])
      (λ k j i next. let step = (other.next k j i.1).0 next in (step, one.among k j i.0 step))
      (λ k h i meets. (other.meets k h i.1).0 meets)

  after_one : (k : ℕ) (w : List WalkHop) → IsNew old mid k → After mid x k w → After late z k w
  after_one = after_map mid late x z (IsNew old mid) (λ k i last. (ends.last k).1 (inl last))
      (λ k j i next. ((other.next k j i.1).1 next, one.among k j i.0 next)) (λ k h i meets. (other.meets k h i.1).1 meets)

  other_after : (k : ℕ) (w : List WalkHop) → IsNew mid late k → After late z k w → After late y k w
  other_after = after_map late late z y (IsNew mid late)
      (λ k i last. elim ((ends.last k).0 last) [
        | inl yours ↦ absurd (apart old mid late k (one.last k yours) i)
        | inr mine ↦ mine
      ])
      (λ k j i next. (next, other.among k j i.0 next)) (λ k h i meets. meets)

  after_other : (k : ℕ) (w : List WalkHop) → After late y k w → After late z k w
  after_other k w after = after_map late late y z (λ _. Unit {0})
      (λ m _ last. (ends.last m).1 (inr last)) (λ m j _ next. (next, tt)) (λ m h _ meets. meets) k w tt after

  either_of_word : (w : List WalkHop) → Accepts late z w → Accepts mid x w ⊎ Accepts late y w
  either_of_word [] word = or_either x.has_empty y.has_empty (sym ends.empty ∙ word)
  either_of_word (h ∷ w) word = elim ((ends.first word.0).0 word.1) [
    | inl mine ↦ (let i = one.first word.0 mine in
        inl (word.0, mine, (other.meets word.0 h i.1).0 word.2, one_after word.0 w i word.3))
    | inr yours ↦ inr (word.0, yours, word.2, other_after word.0 w (other.first word.0 yours) word.3)
  ]

  word_of_either : (w : List WalkHop) → Accepts mid x w ⊎ Accepts late y w → Accepts late z w
  word_of_either [] word = ends.empty ∙ elim word [
    | inl mine ↦ or_first x.has_empty y.has_empty mine
    | inr yours ↦ or_second x.has_empty y.has_empty yours
  ]
  word_of_either (h ∷ w) word = elim word [
    | inl mine ↦ (let i = one.first mine.0 mine.1 in
        (mine.0, (ends.first mine.0).1 (inl mine.1), (other.meets mine.0 h i.1).1 mine.2, after_one mine.0 w i mine.3))
    | inr yours ↦ (yours.0, (ends.first yours.0).1 (inr yours.1), yours.2, after_other yours.0 w yours.3)
  ]

  pub either_words : (w : List WalkHop) → Accepts late z w ↔ (Accepts mid x w ⊎ Accepts late y w)
  either_words w = (either_of_word w, word_of_either w)

-- ---- one part or nothing

-- the ends of a part that may be left out
abbrev pub or_nothing : Ends → Ends
or_nothing x = record x { has_empty = true }

module _ (new : List Line) (x : Ends) where
  after_alike : (k : ℕ) (w : List WalkHop) → After new x k w ↔ After new (or_nothing x) k w
  after_alike k [] = (λ last. last, λ last. last)
  after_alike k (h ∷ w) = (
    λ after. (after.0, after.1, after.2, (after_alike after.0 w).0 after.3),
    λ after. (after.0, after.1, after.2, (after_alike after.0 w).1 after.3),
  )

  -- `?` and `*` have the empty word too
  pub or_nothing_words : (w : List WalkHop) → Accepts new (or_nothing x) w ↔ ((w ≡ []) ⊎ Accepts new x w)
  or_nothing_words [] = (λ _. inl refl, λ _. refl)
  or_nothing_words (h ∷ w) = (
    λ word. inr (word.0, word.1, word.2, (after_alike word.0 w).1 word.3),
    λ either. elim either [
      | inl none ↦ absurd (let e : h ∷ w ≡ [] = none in cc)
      | inr word ↦ (word.0, word.1, word.2, (after_alike word.0 w).0 word.3)
    ],
  )

-- ---- one part again and again

module _ (old new : List Line) (x : Ends) (links : Links old new x.last x.first) where
  -- the rest of a word of the part, and then some words of it
  abbrev Rest : ℕ → List WalkHop → Type 0
  Rest k w = (u : List WalkHop) × (words : List (List WalkHop)) × (w ≡ u ++ flat_map (λ one. one) words) × After old x k u × AllByRecursion (Accepts old x) words

  rest_after : (w : List WalkHop) (k : ℕ) → After new x k w → Rest k w
  rest_after [] k last = ([], [], refl, last, tt)
  rest_after (h ∷ w) k after =
      let r = rest_after w after.0 after.3 in
      let meets = (links.meets after.0 h).0 after.2 in
      elim ((links.next k after.0).0 after.1) [
        | inl inside ↦ (h ∷ r.0, r.1, ap (λ (v : List WalkHop). h ∷ v) r.2, (after.0, inside, meets, r.3), r.4)
        | inr again ↦ ([], (h ∷ r.0) ∷ r.1, ap (λ (v : List WalkHop). h ∷ v) r.2, again.0, ((after.0, again.1, meets, r.3), r.4))
      ]

  -- a word is one of the part and then some
  abbrev Some : List WalkHop → Type 0
  Some w = (word : List WalkHop) × (words : List (List WalkHop)) × (w ≡ word ++ flat_map (λ one. one) words) × Accepts old x word × AllByRecursion (Accepts old x) words

  some_of_word : (w : List WalkHop) → Accepts new x w → Some w
  some_of_word [] word = ([], [], refl, word, tt)
  some_of_word (h ∷ w) word =
      let r = rest_after w word.0 word.3 in
      (h ∷ r.0, r.1, ap (λ (v : List WalkHop). h ∷ v) r.2, (word.0, word.1, (links.meets word.0 h).0 word.2, r.3), r.4)

  -- the part may begin again behind its end
  after_again : (u : List WalkHop) (k : ℕ) (v : List WalkHop) → After old x k u → (v ≡ []) ⊎ Accepts new x v → After new x k (u ++ v)
  after_again [] k [] after more = after
  after_again [] k (h ∷ v) after more = elim more [
    | inl none ↦ absurd (let e : h ∷ v ≡ [] = none in cc)
    | inr word ↦ (word.0, (links.next k word.0).1 (inr (after, word.1)), word.2, word.3)
  ]
  after_again (h ∷ u) k v after more =
      (after.0, (links.next k after.0).1 (inl after.1), (links.meets after.0 h).1 after.2, after_again u after.0 v after.3 more)

  word_again : (u v : List WalkHop) → Accepts old x u → (v ≡ []) ⊎ Accepts new x v → Accepts new x (u ++ v)
  word_again [] [] one more = one
  word_again [] (h ∷ v) one more = elim more [ inl none ↦ absurd (let e : h ∷ v ≡ [] = none in cc) | inr word ↦ word ]
  word_again (h ∷ u) v one more = (one.0, one.1, (links.meets one.0 h).1 one.2, after_again u one.0 v one.3 more)

  word_of_all : (words : List (List WalkHop)) → AllByRecursion (Accepts old x) words → (flat_map (λ one. one) words ≡ []) ⊎ Accepts new x (flat_map (λ one. one) words)
  word_of_all [] all = inl refl
  word_of_all (word ∷ words) all = inr (word_again word (flat_map (λ one. one) words) all.0 (word_of_all words all.1))

  word_once : (words : List (List WalkHop)) → 0 < length words → AllByRecursion (Accepts old x) words → Accepts new x (flat_map (λ one. one) words)
  word_once [] some all = absurd (omega arith)
  word_once (word ∷ words) some all = word_again word (flat_map (λ one. one) words) all.0 (word_of_all words all.1)

  -- for `+` there is a first word
  pub once_words : (w : List WalkHop)
      → Accepts new x w ↔ ((words : List (List WalkHop)) × (0 < length words) × (w ≡ flat_map (λ one. one) words) × AllByRecursion (Accepts old x) words)
  once_words w = (
    λ word. let s = some_of_word w word in (s.0 ∷ s.1, omega arith, s.2, (s.3, s.4)),
    λ l. subst (Accepts new x) (sym l.2) (word_once l.0 l.1 l.3),
  )

  -- for `*` there may be no word
  pub repeated_words : (w : List WalkHop)
      → Accepts new (or_nothing x) w ↔ ((words : List (List WalkHop)) × (w ≡ flat_map (λ one. one) words) × AllByRecursion (Accepts old x) words)
  repeated_words w = (
    λ word. elim ((or_nothing_words new x w).0 word) [
      | inl none ↦ ([], none, tt)
      | inr some ↦ (let s = some_of_word w some in (s.0 ∷ s.1, s.2, (s.3, s.4)))
    ],
    λ l. (or_nothing_words new x w).1 (elim (word_of_all l.0 l.2) [
      | inl none ↦ inl (l.1 ∙ none)
      | inr word ↦ inr (subst (Accepts new x) (sym l.1) word)
    ]),
  )
