-- One pass over the hops of a walk: what is wanted behind each hop, and what the visits of a set
-- find.
use Rattle.std.proofs.Common.{◌≡◌, ◌⊎◌, ◌↔◌, ℕ, ◌+◌, ◌<◌, List, [], ◌∷◌, ◌++◌, length, get_or, drop, suc, add-one, Some, slice_get, inl, inr, sym, ◌∙◌, ap, refl, subst}
use Rattle.std.proofs.lemmas.Bool.Decides.{eqb_tells}
use Rattle.std.proofs.Math.Seq.{drop-cons}
use Rattle.policy_expr.specs.declared.hop.WalkHop.{WalkHop}
use Rattle.policy_expr.specs.declared.ends.Ends.{Ends}
use Rattle.policy_expr.specs.declared.table.Line.{Line}
use Rattle.policy_expr.specs.Hop.{Matches}
use Rattle.policy_expr.specs.Sets.{Has}
use Rattle.policy_expr.specs.inner.Sets.{IsSplit}
use Rattle.policy_expr.specs.Table.{MayFollow, MeetsAt, After}

-- ---- visits of a set's predicates, one by one

-- a predicate of the set was visited, where the rest is still to be
abbrev pub IsPast : ℕ → ℕ → ℕ → Type 0
IsPast set rest k = Has set k × (Has rest k → ⊥)

-- what is visited once the next one is
pub past_more : (set rest number others k : ℕ) → IsSplit rest number others → ((j : ℕ) → Has rest j → Has set j)
    → IsPast set others k ↔ (IsPast set rest k ⊎ (k ≡ number))
past_more set rest number others k split sub = (
  λ p. elim (eqb_tells k number) [
    | inl same ↦ inr same.1
    | inr apart ↦ inl (p.0, λ has. p.1 ((split.rest k).1 (has, apart.1)))
  ],
  λ either. elim either [
    | inl before ↦ (before.0, λ has. before.1 ((split.rest k).0 has).0)
    | inr same ↦ (sub k (subst (Has rest) (sym same) split.there), λ has. ((split.rest k).0 has).1 same)
  ],
)

-- the rest is part of the set all along
pub sub_more : (set rest number others : ℕ) → IsSplit rest number others → ((j : ℕ) → Has rest j → Has set j) → (j : ℕ) → Has others j → Has set j
sub_more set rest number others split sub j has = sub j ((split.rest j).0 has).0

-- ---- what is wanted behind a hop

-- a predicate of the set matches the hop, and this one may follow it
abbrev StepsTo : List Line → ℕ → WalkHop → ℕ → Type 0
StepsTo lines set h j = (k : ℕ) × Has set k × MeetsAt lines k h × MayFollow lines k j

module _ (lines : List Line) (wanted : ℕ) (hop : WalkHop) where
  -- so far: of the visited predicates that match, those that may follow
  pub record WantsSoFar (rest next : ℕ) : Type 0 where
    pub sub : (k : ℕ) → Has rest k → Has wanted k
    pub found : (j : ℕ) → Has next j ↔ ((k : ℕ) × IsPast wanted rest k × MeetsAt lines k hop × MayFollow lines k j)

  pub wants_more : (rest number others next more : ℕ) → WantsSoFar rest next → IsSplit rest number others
      → ((j : ℕ) → Has more j ↔ (Has next j ⊎ (MeetsAt lines number hop × MayFollow lines number j))) → WantsSoFar others more
  wants_more rest number others next more so_far split joins = record {
    sub = sub_more wanted rest number others split so_far.sub;
    found = λ j. (
      λ has. elim ((joins j).0 has) [
        | inl before ↦ (let r = (so_far.found j).0 before in (r.0, (past_more wanted rest number others r.0 split so_far.sub).1 (inl r.1), r.2, r.3))
        | inr now ↦ (number, (past_more wanted rest number others number split so_far.sub).1 (inr refl), now.0, now.1)
      ],
      λ r. elim ((past_more wanted rest number others r.0 split so_far.sub).0 r.1) [
        | inl before ↦ (joins j).1 (inl ((so_far.found j).1 (r.0, before, r.2, r.3)))
        | inr same ↦ (joins j).1 (inr (subst (λ k. MeetsAt lines k hop × MayFollow lines k j) same (r.2, r.3)))
      ],
    );
  }

  -- ---- whether one matches the hop

  -- none did so far
  pub record NoneSoFar (rest : ℕ) : Type 0 where
    pub sub : (k : ℕ) → Has rest k → Has wanted k
    pub none : (k : ℕ) → IsPast wanted rest k → MeetsAt lines k hop → ⊥

  pub none_first : NoneSoFar wanted
  none_first = record { sub = λ k has. has; none = λ k past _. past.1 past.0 }

  pub none_passed : (rest number others : ℕ) (line : Line) → NoneSoFar rest → IsSplit rest number others
      → slice_get lines number ≡ Some line → (Matches line.pred hop → ⊥) → NoneSoFar others
  none_passed rest number others line so_far split there not = record {
    sub = sub_more wanted rest number others split so_far.sub;
    none = λ k past meets. elim ((past_more wanted rest number others k split so_far.sub).0 past) [
      | inl before ↦ so_far.none k before meets
      | inr same ↦ (let e : Some meets.0 ≡ Some line = sym meets.1 ∙ ap (slice_get lines) same ∙ there in
          let e' : meets.0 ≡ line = cc in not (subst (λ (l : Line). Matches l.pred hop) e' meets.2))
    ];
  }

-- ---- the pass

-- the hop at a place, and those behind it
pub next_hop : (before : List WalkHop) (i : ℕ) (h : WalkHop) → i < length before → h ≡ get_or before i h → drop i before ≡ h ∷ drop (i + 1) before
next_hop before i h within here = rw add-one (drop-cons before i h within ∙ ap (λ (x : WalkHop). x ∷ drop (suc i) before) (sym here))

module _ (lines : List Line) (ends : Ends) where
  -- the hops end a word that goes on with one of these predicates
  abbrev pub Goes : ℕ → List WalkHop → Type 0
  Goes wanted [] = ⊥
  Goes wanted (h ∷ w) =
      (k : ℕ) × Has wanted k × MeetsAt lines k h × After lines ends k w

  goes_on : (wanted next : ℕ) (h g : WalkHop) (w : List WalkHop) → ((j : ℕ) → Has next j ↔ StepsTo lines wanted h j)
      → Goes wanted (h ∷ (g ∷ w)) ↔ Goes next (g ∷ w)
  goes_on wanted next h g w steps = (
    λ r. (r.3.0, (steps r.3.0).1 (r.0, r.1, r.2, r.3.1), r.3.2, r.3.3),
    λ r. let s = (steps r.0).0 r.1 in (s.0, s.1, s.2, (r.0, s.3, r.2, r.3)),
  )

  -- one hop before the last
  pub goes_further : (wanted next : ℕ) (h end : WalkHop) (w : List WalkHop) → ((j : ℕ) → Has next j ↔ StepsTo lines wanted h j)
      → Goes wanted (h ∷ (w ++ end ∷ [])) ↔ Goes next (w ++ end ∷ [])
  goes_further wanted next h end [] steps = goes_on wanted next h end [] steps
  goes_further wanted next h end (g ∷ w) steps = goes_on wanted next h g (w ++ end ∷ []) steps
