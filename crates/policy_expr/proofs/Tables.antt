-- Tables are built part by part, with the words of each part of the tree.
use Rattle.std.proofs.Common.{◌≡◌, ◌⊎◌, ◌↔◌, ℕ, zero, suc, ◌+◌, ◌<◌, ◌≤◌, true, false, List, [], ◌∷◌, ◌++◌, length, Some, None, slice_get, inl, inr, sym, ◌∙◌, ap, refl, subst, arith, length-append}
use Rattle.std.proofs.lemmas.Bool.Decides.{leb_tells}
use Rattle.std.specs.List.{AllByRecursion}
use Rattle.policy_expr.specs.declared.hop.HopPred.{HopPred}
use Rattle.policy_expr.specs.declared.hop.WalkHop.{WalkHop}
use Rattle.policy_expr.specs.declared.ends.Ends.{Ends}
use Rattle.policy_expr.specs.declared.table.Line.{Line}
use Rattle.policy_expr.specs.Hop.{Matches}
use Rattle.policy_expr.specs.Language.{Lang, Tree, hop, followed, either}
use Rattle.policy_expr.specs.Reading.{node_count}
use Rattle.policy_expr.specs.Sets.{Has}
use Rattle.policy_expr.specs.Table.{MayFollow, MeetsAt, Accepts, IsNew, Adds}
use Rattle.policy_expr.specs.inner.Table.{Links, IsThen}
use Rattle.policy_expr.proofs.Runs.{IsEither, followed_words, either_words}

-- ---- one line more

-- an element of a list with one more at its end
get_pushed : (lines : List Line) (x y : Line) (k : ℕ) → slice_get (lines ++ x ∷ []) k ≡ Some y → (slice_get lines k ≡ Some y) ⊎ ((k ≡ length lines) × (y ≡ x))
get_pushed [] x y zero e = inr (refl, cc)
get_pushed [] x y (suc k) e = absurd (let f : None ≡ Some y = e in cc)
get_pushed (l ∷ ls) x y zero e = inl e
get_pushed (l ∷ ls) x y (suc k) e = elim (get_pushed ls x y k e) [
  | inl old ↦ inl old
  | inr new ↦ inr (ap suc new.0, new.1)
]

get_old : (lines : List Line) (x y : Line) (k : ℕ) → slice_get lines k ≡ Some y → slice_get (lines ++ x ∷ []) k ≡ Some y
get_old [] x y k e = absurd (let f : None ≡ Some y = e in cc)
get_old (l ∷ ls) x y zero e = e
get_old (l ∷ ls) x y (suc k) e = get_old ls x y k e

get_new : (lines : List Line) (x : Line) → slice_get (lines ++ x ∷ []) (length lines) ≡ Some x
get_new [] x = refl
get_new (l ∷ ls) x = get_new ls x

below : (lines : List Line) (k : ℕ) (x : Line) → slice_get lines k ≡ Some x → k < length lines
below [] k x e = absurd (let f : None ≡ Some x = e in cc)
below (l ∷ ls) zero x e = omega arith
below (l ∷ ls) (suc k) x e = let lt = below ls k x e in omega (arith, lt)

-- ---- one predicate

module _ (pred : HopPred) (old new : List Line) (only next : ℕ) (line : Line)
    (is_line : line ≡ record { pred = pred; next = next }) (is_new : new ≡ old ++ line ∷ [])
    (only_is : (k : ℕ) → Has only k ↔ (k ≡ length old)) (next_is : (k : ℕ) → Has next k → ⊥) where
  abbrev ends : Ends
  ends = record { first = only; last = only; has_empty = false }

  one_more : length new ≡ length old + 1
  one_more = ap (λ (l : List Line). length l) is_new ∙ length-append old (line ∷ [])

  line_at : (k : ℕ) (found : Line) → slice_get new k ≡ Some found → (slice_get old k ≡ Some found) ⊎ ((k ≡ length old) × (found ≡ line))
  line_at k found e = get_pushed old line found k (sym (ap (λ (l : List Line). slice_get l k) is_new) ∙ e)

  line_kept : (k : ℕ) (found : Line) → slice_get old k ≡ Some found → slice_get new k ≡ Some found
  line_kept k found e = ap (λ (l : List Line). slice_get l k) is_new ∙ get_old old line found k e

  line_there : slice_get new (length old) ≡ Some line
  line_there = ap (λ (l : List Line). slice_get l (length old)) is_new ∙ get_new old line

  new_only : (k : ℕ) → Has only k → IsNew old new k
  new_only k has = let is = (only_is k).0 has in (omega (arith, is), omega (arith, is, one_more))

  none_behind : (j k : ℕ) → length old ≤ j → MayFollow new j k → ⊥
  none_behind j k at m = elim (line_at j m.0 m.1) [
    | inl before ↦ (let lt = below old j m.0 before in omega (arith, lt))
    | inr now ↦ next_is k (subst (λ (l : Line). Has l.next k) (now.1 ∙ is_line) m.2)
  ]

  meets_hop : (h : WalkHop) → MeetsAt new (length old) h ↔ Matches pred h
  meets_hop h = (
    λ m. elim (line_at (length old) m.0 m.1) [
      | inl before ↦ absurd (let lt = below old (length old) m.0 before in omega (arith, lt))
      | inr now ↦ subst (λ (l : Line). Matches l.pred h) (now.1 ∙ is_line) m.2
    ],
    λ m. (line, line_there, subst (λ (l : Line). Matches l.pred h) (sym is_line) m),
  )

  hop_word : (w : List WalkHop) → Accepts new ends w → Lang (hop pred) w
  hop_word [] word = absurd (let e : false ≡ true = word in cc)
  hop_word (h ∷ []) word = (h, refl, (meets_hop h).0 (subst (λ k. MeetsAt new k h) ((only_is word.0).0 word.1) word.2))
  hop_word (h ∷ g ∷ w) word = absurd (none_behind word.0 word.3.0 (let is = (only_is word.0).0 word.1 in omega (arith, is)) word.3.1)

  word_hop : (w : List WalkHop) → Lang (hop pred) w → Accepts new ends w
  word_hop w l = subst (Accepts new ends) (sym l.1)
      (length old, (only_is (length old)).1 refl, (meets_hop l.0).1 l.2, (only_is (length old)).1 refl)

  pub adds_hop : Adds (hop pred) old new ends
  adds_hop = record {
    more = omega (arith, one_more);
    few = omega (arith, one_more);
    meets = λ k h lt. (
      λ m. elim (line_at k m.0 m.1) [ inl before ↦ (m.0, before, m.2) | inr now ↦ absurd (omega (arith, now.0)) ],
      λ m. (m.0, line_kept k m.0 m.1, m.2),
    );
    next = λ j k lt. (
      λ m. elim (line_at j m.0 m.1) [ inl before ↦ (m.0, before, m.2) | inr now ↦ absurd (omega (arith, now.0)) ],
      λ m. (m.0, line_kept j m.0 m.1, m.2),
    );
    among = λ j k at m. absurd (none_behind j k at m);
    first = new_only;
    last = new_only;
    words = λ w. (hop_word w, word_hop w);
  }

-- ---- parts

pub iff_trans : {A B C : Type 0} → A ↔ B → B ↔ C → A ↔ C
iff_trans f g = (λ a. g.0 (f.0 a), λ c. f.1 (g.1 c))

all_map : (P Q : List WalkHop → Type 0) → ((w : List WalkHop) → P w → Q w) → (words : List (List WalkHop)) → AllByRecursion P words → AllByRecursion Q words
all_map P Q f [] all = tt
all_map P Q f (word ∷ words) all = (f word all.0, all_map P Q f words all.1)

-- one part and then another
module _ (a b : Tree) (old mid late new : List Line) (x y z : Ends) (front : Adds a old mid x) (back : Adds b mid late y)
    (links : Links late new x.last y.first) (ends : IsThen x y z) where
  in_front : (k : ℕ) → IsNew old mid k → IsNew old new k
  in_front k i = (i.0, omega (arith, i.1, back.more, links.count))

  in_back : (k : ℕ) → IsNew mid late k → IsNew old new k
  in_back k i = (omega (arith, i.0, front.more), omega (arith, i.1, links.count))

  among_both : (j k : ℕ) → length old ≤ j → MayFollow new j k → IsNew old new k
  among_both j k at m = elim ((links.next j k).0 m) [
    | inl before ↦ elim (leb_tells (length mid) j) [
      | inl late_j ↦ in_back k (back.among j k late_j.1 before)
      | inr early ↦ in_front k (front.among j k at ((back.next j k early.1).0 before))
    ]
    | inr over ↦ in_back k (back.first k over.1)
  ]

  both_words : (w : List WalkHop) → Accepts new z w ↔ Lang (followed a b) w
  both_words w = iff_trans (followed_words a b old mid late new x y z front back links ends w) (
    λ p. (p.0, p.1, p.2, (front.words p.0).0 p.3, (back.words p.1).0 p.4),
    λ p. (p.0, p.1, p.2, (front.words p.0).1 p.3, (back.words p.1).1 p.4),
  )

  pub adds_followed : Adds (followed a b) old new z
  adds_followed = record {
    more = omega (arith, front.more, back.more, links.count);
    few = omega (arith, front.few, back.few, links.count);
    meets = λ k h lt. let lt' : k < length mid = omega (arith, lt, front.more) in
        iff_trans (links.meets k h) (iff_trans (back.meets k h lt') (front.meets k h lt));
    next = λ j k lt. let lt' : j < length mid = omega (arith, lt, front.more) in (
      λ m. elim ((links.next j k).0 m) [
        | inl before ↦ (front.next j k lt).0 ((back.next j k lt').0 before)
        | inr over ↦ absurd (let i = front.last j over.0 in omega (arith, i.0, lt))
      ],
      λ m. (links.next j k).1 (inl ((back.next j k lt').1 ((front.next j k lt).1 m))),
    );
    among = among_both;
    first = λ k has. elim ((ends.first k).0 has) [
      | inl mine ↦ in_front k (front.first k mine)
      | inr over ↦ in_back k (back.first k over.1)
    ];
    last = λ k has. elim ((ends.last k).0 has) [
      | inl mine ↦ in_back k (back.last k mine)
      | inr over ↦ in_front k (front.last k over.1)
    ];
    words = both_words;
  }

-- one part or another
module _ (a b : Tree) (old mid new : List Line) (x y z : Ends) (one : Adds a old mid x) (other : Adds b mid new y) (ends : IsEither x y z) where
  in_one : (k : ℕ) → IsNew old mid k → IsNew old new k
  in_one k i = (i.0, omega (arith, i.1, other.more))

  in_other : (k : ℕ) → IsNew mid new k → IsNew old new k
  in_other k i = (omega (arith, i.0, one.more), i.1)

  among_either : (j k : ℕ) → length old ≤ j → MayFollow new j k → IsNew old new k
  among_either j k at m = elim (leb_tells (length mid) j) [
    | inl late ↦ in_other k (other.among j k late.1 m)
    | inr early ↦ in_one k (one.among j k at ((other.next j k early.1).0 m))
  ]

  alternative_words : (w : List WalkHop) → Accepts new z w ↔ Lang (either a b) w
  alternative_words w = iff_trans (either_words a b old mid new x y z one other ends w) (
    λ e. elim e [ inl mine ↦ inl ((one.words w).0 mine) | inr yours ↦ inr ((other.words w).0 yours) ],
    λ e. elim e [ inl mine ↦ inl ((one.words w).1 mine) | inr yours ↦ inr ((other.words w).1 yours) ],
  )

  pub adds_either : Adds (either a b) old new z
  adds_either = record {
    more = omega (arith, one.more, other.more);
    few = omega (arith, one.few, other.few);
    meets = λ k h lt. let lt' : k < length mid = omega (arith, lt, one.more) in iff_trans (other.meets k h lt') (one.meets k h lt);
    next = λ j k lt. let lt' : j < length mid = omega (arith, lt, one.more) in iff_trans (other.next j k lt') (one.next j k lt);
    among = among_either;
    first = λ k has. elim ((ends.first k).0 has) [
      | inl mine ↦ in_one k (one.first k mine)
      | inr yours ↦ in_other k (other.first k yours)
    ];
    last = λ k has. elim ((ends.last k).0 has) [
      | inl mine ↦ in_one k (one.last k mine)
      | inr yours ↦ in_other k (other.last k yours)
    ];
    words = alternative_words;
  }

-- a part that may begin again behind its end
module _ (a : Tree) (old mid new : List Line) (x : Ends) (item : Adds a old mid x) (links : Links mid new x.last x.first) where
  in_again : (k : ℕ) → IsNew old mid k → IsNew old new k
  in_again k i = (i.0, omega (arith, i.1, links.count))

  next_again : (j k : ℕ) → j < length old → MayFollow new j k ↔ MayFollow old j k
  next_again j k lt = (
    λ m. elim ((links.next j k).0 m) [
      | inl before ↦ (item.next j k lt).0 before
      | inr again ↦ absurd (let i = item.last j again.0 in omega (arith, i.0, lt))
    ],
    λ m. (links.next j k).1 (inl ((item.next j k lt).1 m)),
  )

  among_again : (j k : ℕ) → length old ≤ j → MayFollow new j k → IsNew old new k
  among_again j k at m = elim ((links.next j k).0 m) [
    | inl before ↦ in_again k (item.among j k at before)
    | inr again ↦ in_again k (item.first k again.1)
  ]

  -- the words of the part are the item's
  pub all_item : (words : List (List WalkHop)) → AllByRecursion (Accepts mid x) words ↔ AllByRecursion (Lang a) words
  all_item words = (
    all_map (Accepts mid x) (Lang a) (λ w. (item.words w).0) words,
    all_map (Lang a) (Accepts mid x) (λ w. (item.words w).1) words,
  )

  -- whichever words its ends give it
  pub adds_again : (t : Tree) (z : Ends) → node_count t ≡ node_count a + 1 → ((k : ℕ) → Has z.first k → Has x.first k) → ((k : ℕ) → Has z.last k → Has x.last k)
      → ((w : List WalkHop) → Accepts new z w ↔ Lang t w) → Adds t old new z
  adds_again t z size first last words = record {
    more = omega (arith, item.more, links.count);
    few = omega (arith, item.few, links.count, size);
    meets = λ k h lt. iff_trans (links.meets k h) (item.meets k h lt);
    next = next_again;
    among = among_again;
    first = λ k has. in_again k (item.first k (first k has));
    last = λ k has. in_again k (item.last k (last k has));
    words = words;
  }
