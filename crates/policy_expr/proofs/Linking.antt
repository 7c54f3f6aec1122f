-- Letting each of some predicates be followed by each of others.
use Rattle.std.proofs.Common.{◌≡◌, ◌≢◌, ◌⊎◌, ◌↔◌, ℕ, zero, suc, ◌<◌, List, [], ◌∷◌, length, Some, slice_get, set, inl, inr, sym, ◌∙◌, ap, refl, subst, arith}
use Rattle.std.proofs.lemmas.Bool.Decides.{eqb_tells}
use Rattle.std.proofs.Math.ListN.{length-set}
use Rattle.policy_expr.specs.declared.hop.WalkHop.{WalkHop}
use Rattle.policy_expr.specs.declared.table.Line.{Line}
use Rattle.policy_expr.specs.Hop.{Matches}
use Rattle.policy_expr.specs.Sets.{Has}
use Rattle.policy_expr.specs.inner.Sets.{IsSplit}
use Rattle.policy_expr.specs.Table.{MayFollow, MeetsAt}
use Rattle.policy_expr.specs.inner.Table.{Links}
use Rattle.policy_expr.proofs.Passes.{IsPast, past_more, sub_more}

-- ---- a list with one line written

get_set_same : (lines : List Line) (i : ℕ) (x : Line) → i < length lines → slice_get (set lines i x) i ≡ Some x
get_set_same [] i x within = absurd (omega arith)
get_set_same (l ∷ ls) zero x within = refl
get_set_same (l ∷ ls) (suc i) x within = get_set_same ls i x (omega arith)

get_set_other : (lines : List Line) (i k : ℕ) (x : Line) → k ≢ i → slice_get (set lines i x) k ≡ slice_get lines k
get_set_other [] i k x apart = refl
get_set_other (l ∷ ls) zero zero x apart = absurd (apart refl)
get_set_other (l ∷ ls) zero (suc k) x apart = refl
get_set_other (l ∷ ls) (suc i) zero x apart = refl
get_set_other (l ∷ ls) (suc i) (suc k) x apart = get_set_other ls i k x (λ e. apart (ap suc e))

-- ---- the loop over a set's predicates

module _ (old : List Line) (last first : ℕ) where
  -- so far: those that were visited
  pub record LinksSoFar (rest : ℕ) (now : List Line) : Type 0 where
    pub sub : (k : ℕ) → Has rest k → Has last k
    pub count : length now ≡ length old
    pub meets : (k : ℕ) (h : WalkHop) → MeetsAt now k h ↔ MeetsAt old k h
    pub next : (j k : ℕ) → MayFollow now j k ↔ (MayFollow old j k ⊎ (IsPast last rest j × Has first k))

  pub links_all : (rest : ℕ) (now : List Line) → LinksSoFar rest now → ((k : ℕ) → Has rest k → ⊥) → Links old now last first
  links_all rest now so_far none = record {
    count = so_far.count;
    meets = so_far.meets;
    next = λ j k. (
      λ m. elim ((so_far.next j k).0 m) [ inl before ↦ inl before | inr past ↦ inr (past.0.0, past.1) ],
      λ either. (so_far.next j k).1 (elim either [ inl before ↦ inl before | inr linked ↦ inr ((linked.0, none j), linked.1) ]),
    );
  }

  module _ (rest number others more : ℕ) (now new : List Line) (line written : Line) (so_far : LinksSoFar rest now) (split : IsSplit rest number others)
      (there : slice_get now number ≡ Some line) (within : number < length now)
      (is_more : (k : ℕ) → Has more k ↔ (Has line.next k ⊎ Has first k))
      (is_written : written ≡ record line { next = more }) (is_new : new ≡ set now number written) where
    at_number : slice_get new number ≡ Some written
    at_number = rw is_new (get_set_same now number written within)

    elsewhere : (k : ℕ) → k ≢ number → slice_get new k ≡ slice_get now k
    elsewhere k apart = rw is_new (get_set_other now number k written apart)

    one_line : (x y : Line) (lines : List Line) (k : ℕ) → slice_get lines k ≡ Some x → slice_get lines k ≡ Some y → x ≡ y
    one_line x y lines k a b = let e : Some x ≡ Some y = sym a ∙ b in cc

    step_meets : (k : ℕ) (h : WalkHop) → MeetsAt new k h ↔ MeetsAt now k h
    step_meets k h = elim (eqb_tells k number) [
      | inl same ↦ (
        λ m. (let e = one_line m.0 written new number (sym (ap (slice_get new) same.1) ∙ m.1) at_number in
            (line, ap (slice_get now) same.1 ∙ there, subst (λ (l : Line). Matches l.pred h) (e ∙ is_written) m.2)),
        λ m. (let e = one_line m.0 line now number (sym (ap (slice_get now) same.1) ∙ m.1) there in (
          written,
          ap (slice_get new) same.1 ∙ at_number,
          subst (λ (l : Line). Matches l.pred h) (sym is_written) (subst (λ (l : Line). Matches l.pred h) e m.2),
        )),
      )
      | inr apart ↦ (
        λ m. (m.0, sym (elsewhere k apart.1) ∙ m.1, m.2),
        λ m. (m.0, elsewhere k apart.1 ∙ m.1, m.2),
      )
    ]

    step_next : (j k : ℕ) → MayFollow new j k ↔ (MayFollow now j k ⊎ ((j ≡ number) × Has first k))
    step_next j k = elim (eqb_tells j number) [
      | inl same ↦ (
        λ h. (let e = one_line h.0 written new number (sym (ap (slice_get new) same.1) ∙ h.1) at_number in
            let has : Has more k = subst (λ (l : Line). Has l.next k) (e ∙ is_written) h.2 in
            elim ((is_more k).0 has) [
              | inl before ↦ inl (line, ap (slice_get now) same.1 ∙ there, before)
              | inr linked ↦ inr (same.1, linked)
            ]),
        λ h. (
          written,
          ap (slice_get new) same.1 ∙ at_number,
          subst (λ (l : Line). Has l.next k) (sym is_written) ((is_more k).1 (elim h [
            | inl before ↦ inl (let e = one_line before.0 line now number (sym (ap (slice_get now) same.1) ∙ before.1) there in
                subst (λ (l : Line). Has l.next k) e before.2)
            | inr linked ↦ inr linked.1
          ])),
        ),
      )
      | inr apart ↦ (
        λ h. inl (h.0, sym (elsewhere j apart.1) ∙ h.1, h.2),
        λ h. elim h [
          | inl before ↦ (before.0, elsewhere j apart.1 ∙ before.1, before.2)
          | inr linked ↦ absurd (apart.1 linked.0)
        ],
      )
    ]

    pub links_more : LinksSoFar others new
    links_more = record {
      sub = sub_more last rest number others split so_far.sub;
      count = ap (λ (l : List Line). length l) is_new ∙ length-set now number written ∙ so_far.count;
      meets = λ k h. (λ m. (so_far.meets k h).0 ((step_meets k h).0 m), λ m. (step_meets k h).1 ((so_far.meets k h).1 m));
      next = λ j k. (
        λ h. elim ((step_next j k).0 h) [
          | inl before ↦ elim ((so_far.next j k).0 before) [
            | inl old ↦ inl old
            | inr past ↦ inr ((past_more last rest number others j split so_far.sub).1 (inl past.0), past.1)
          ]
          | inr now ↦ inr ((past_more last rest number others j split so_far.sub).1 (inr now.0), now.1)
        ],
        λ h. (step_next j k).1 (elim h [
          | inl old ↦ inl ((so_far.next j k).1 (inl old))
          | inr past ↦ elim ((past_more last rest number others j split so_far.sub).0 past.0) [
            | inl before ↦ inl ((so_far.next j k).1 (inr (before, past.1)))
            | inr same ↦ inr (same, past.1)
          ]
        ]),
      );
    }
