-- Each kind of step keeps the order.
use Rattle.std.proofs.Common.{◌≡◌, ◌≢◌, ◌⊎◌, ℕ, zero, suc, ◌==◌, Bool, true, false, true≢false, if◌then◌else◌, List, [], ◌∷◌, ◌++◌, length, set, refl, sym, ap, ◌∙◌, subst, ⊎_elim, inl, inr, append_assoc}
use mathlib.Core.Option.{some, some-ne-none}
use lib.ListN.{get_elem?}
use Rattle.crossbeam_queue.specs.Fifo.{Pushes, Pops, Forks, Merges, Learns}
use Rattle.crossbeam_queue.proofs.Lists.{at_set, at_snoc, set_again}
use Rattle.inbox.specs.declared.account.Roles.{Roles}
use Rattle.inbox.specs.Roles.{those_of, values, roles, tag, Fits, Ordered, put_by, gives_second, keeps_of, gives_of, sends_of, takes_of, has, both_of, no_roles}

is_or_not : (b : Bool) → (b ≡ true) ⊎ (b ≢ true)
is_or_not true = inl refl
is_or_not false = inr (λ e. true≢false (sym e))

has_second : (one two : Bool) → (if one then two else false) ≡ true → two ≡ true
has_second true two e = e
has_second false two e = absurd (true≢false (sym e))

module _ {T : Type 0} where
  values-snoc : (ts : List (ℕ × T)) (n : ℕ) (x : T) → values (ts ++ (n, x) ∷ []) ≡ values ts ++ x ∷ []
  values-snoc [] n x = refl
  values-snoc (t ∷ ts) n x = ap (λ xs. t.1 ∷ xs) (values-snoc ts n x)

  pick : (b : Bool) (y : T) (xs ys : List T) (z : List T) → xs ≡ ys ++ z → (if b then y ∷ xs else xs) ≡ (if b then y ∷ ys else ys) ++ z
  pick true y xs ys z e = ap (λ l. y ∷ l) e
  pick false y xs ys z e = e

  those-snoc : (p n : ℕ) (ts : List (ℕ × T)) (x : T) → those_of p (ts ++ (n, x) ∷ []) ≡ those_of p ts ++ (if p == n then x ∷ [] else [])
  those-snoc p n [] x = refl
  those-snoc p n (t ∷ ts) x = pick (p == t.0) t.1 (those_of p (ts ++ (n, x) ∷ [])) (those_of p ts) (if p == n then x ∷ [] else []) (those-snoc p n ts x)

  nil : (xs : List T) → xs ++ [] ≡ xs
  nil [] = refl
  nil (x ∷ xs) = ap (λ l. x ∷ l) (nil xs)

  module _ (ts : List (ℕ × T)) (x : T) where
    keeps_first : (one two : Bool) → one ≢ true → those_of 0 ts ≡ those_of 0 (ts ++ (tag one two, x) ∷ [])
    keeps_first true two n = absurd (n refl)
    keeps_first false true n = sym (those-snoc 0 1 ts x ∙ nil (those_of 0 ts))
    keeps_first false false n = sym (those-snoc 0 2 ts x ∙ nil (those_of 0 ts))

    keeps_second : (one two : Bool) → (one ≡ true) ⊎ (two ≢ true) → those_of 1 ts ≡ those_of 1 (ts ++ (tag one two, x) ∷ [])
    keeps_second true two h = sym (those-snoc 1 0 ts x ∙ nil (those_of 1 ts))
    keeps_second false true h = absurd (⊎_elim (λ (e : false ≡ true). true≢false (sym e)) (λ (n : true ≢ true). n refl) h)
    keeps_second false false h = sym (those-snoc 1 2 ts x ∙ nil (those_of 1 ts))

    adds_first : (one two : Bool) (own : List T) → one ≡ true → own ≡ those_of 0 ts → (if one then own ++ x ∷ [] else own) ≡ those_of 0 (ts ++ (tag one two, x) ∷ [])
    adds_first true two own h e = ap (λ l. l ++ x ∷ []) e ∙ sym (those-snoc 0 0 ts x)
    adds_first false two own h e = absurd (true≢false (sym h))

    adds_second : (one two : Bool) (own : List T) → two ≡ true → own ≡ those_of 1 ts → (if one then own else (if two then own ++ x ∷ [] else own)) ≡ those_of 1 (ts ++ (tag one two, x) ∷ [])
    adds_second true two own h e = e ∙ sym (those-snoc 1 0 ts x ∙ nil (those_of 1 ts))
    adds_second false true own h e = ap (λ l. l ++ x ∷ []) e ∙ sym (those-snoc 1 1 ts x)
    adds_second false false own h e = absurd (true≢false (sym h))

  -- a sender puts in
  pub puts : (n port : ℕ) (v : Roles T) (x : T) → Pushes Ordered n port v x (λ w. w ≡ put_by v x)
  puts n port v x items views room h at =
      let a = h.0 in
      let b = h.1 in
      let r = h.2 in
      let ts = h.3 in
      let got = h.4 in
      let mine = h.6 port v at in
      let ts' : List (ℕ × T) = ts ++ (tag v.one v.two, x) ∷ [] in
      let w : Roles T = put_by v x in (
        w,
        (
          a,
          b,
          r,
          ts',
          got,
          values-snoc ts (tag v.one v.two) x ∙ (ap (λ l. l ++ x ∷ []) h.5 ∙ append_assoc got items (x ∷ [])),
          λ j u e. ⊎_elim
              (λ (t : (j ≡ port) × (w ≡ u)).
              subst (λ (y : ℕ × Roles T). Fits a b r ts' got y.0 y.1) (λ i. (sym t.0 i, t.1 i)) (
                (λ p. ((mine.0 p).0, adds_first ts x v.one v.two v.first p (mine.0 p).1)),
                (λ p. ((mine.1 p).0, adds_second ts x v.one v.two v.second p (mine.1 p).1)),
                mine.2,
              ))
              (λ (t : (j ≢ port) × (get_elem? views j ≡ some u)).
              let theirs = h.6 j u t.1 in (
                (λ p. ((theirs.0 p).0, (theirs.0 p).1 ∙ keeps_first ts x v.one v.two (λ q. t.0 ((theirs.0 p).0 ∙ sym (mine.0 q).0)))),
                (λ p. (
                  (theirs.1 p).0,
                  (theirs.1 p).1
                      ∙ keeps_second ts x v.one v.two (⊎_elim (λ (q : v.one ≡ true). inl q) (λ (q : v.one ≢ true). inr (λ s. t.0 ((theirs.1 p).0 ∙ sym (mine.1 s).0))) (is_or_not v.one)),
                )),
                theirs.2,
              ))
              (at_set views port j w u e),
        ),
        refl,
      )

  -- the receiver takes out
  pub takes : (port : ℕ) (v : Roles T) → v.takes ≡ true → Pops Ordered port v (λ x w. w ≡ roles v.one v.two v.takes v.first v.second (v.taken ++ x ∷ []))
  takes port v may x items views h at =
      let a = h.0 in
      let b = h.1 in
      let r = h.2 in
      let ts = h.3 in
      let got : List T = h.4 ++ x ∷ [] in
      let mine = h.6 port v at in
      let w : Roles T = roles v.one v.two v.takes v.first v.second (v.taken ++ x ∷ []) in (
        w,
        (
          a,
          b,
          r,
          ts,
          got,
          h.5 ∙ sym (append_assoc h.4 (x ∷ []) items),
          λ j u e. ⊎_elim
              (λ (t : (j ≡ port) × (w ≡ u)).
              subst (λ (y : ℕ × Roles T). Fits a b r ts got y.0 y.1) (λ i. (sym t.0 i, t.1 i)) (mine.0, mine.1, λ p. ((mine.2 p).0, ap (λ l. l ++ x ∷ []) (mine.2 p).1)))
              (λ (t : (j ≢ port) × (get_elem? views j ≡ some u)).
              let theirs = h.6 j u t.1 in (theirs.0, theirs.1, λ p. absurd (t.0 ((theirs.2 p).0 ∙ sym (mine.2 may).0))))
              (at_set views port j w u e),
        ),
        refl,
      )

  -- who has all three roles knows the order
  pub learns : (port : ℕ) (v : Roles T) → Learns Ordered port v
      (λ items. v.one ≡ true → v.two ≡ true → v.takes ≡ true → (tagged : List (ℕ × T)) × (values tagged ≡ v.taken ++ items) × (those_of 0 tagged ≡ v.first) × (those_of 1 tagged ≡ v.second))
  learns port v items views h at one two takes =
      let mine = h.6 port v at in (h.3, h.5 ∙ ap (λ l. l ++ items) (sym (mine.2 takes).1), sym (mine.0 one).1, sym (mine.1 two).1)

  at_end : (l : List (Roles T)) (x y : Roles T) (j : ℕ) → get_elem? l j ≢ some y → get_elem? (l ++ x ∷ []) j ≡ some y → j ≡ length l
  at_end [] x y zero n e = refl
  at_end [] x y (suc j) n e = absurd (some-ne-none y (sym e))
  at_end (z ∷ zs) x y zero n e = absurd (n e)
  at_end (z ∷ zs) x y (suc j) n e = ap suc (at_end zs x y j n e)

  -- the second sender's role goes to the further pass
  hands_second : (port : ℕ) (v : Roles T) → v.two ≡ true → Forks Ordered port v (roles v.one false v.takes v.first [] v.taken) (roles false true false [] v.second [])
  hands_second port v q items views h at =
      let a = h.0 in
      let r = h.2 in
      let ts = h.3 in
      let got = h.4 in
      let mine = h.6 port v at in
      let left : Roles T = roles v.one false v.takes v.first [] v.taken in
      let right : Roles T = roles false true false [] v.second [] in
      let vs : List (Roles T) = set views port left in
      let Old : ℕ → Roles T → Type 0 = λ j u. (u.one ≡ true → (j ≡ a) × (u.first ≡ those_of 0 ts)) × (u.two ≢ true) × (u.takes ≡ true → (j ≡ r) × (u.taken ≡ got)) in
      let old : (j : ℕ) (u : Roles T) → get_elem? vs j ≡ some u → Old j u =
      λ j u e. ⊎_elim
      (λ (t : (j ≡ port) × (left ≡ u)). subst (λ (y : ℕ × Roles T). Old y.0 y.1) (λ i. (sym t.0 i, t.1 i)) (mine.0, (λ p. true≢false (sym p)), mine.2))
      (λ (t : (j ≢ port) × (get_elem? views j ≡ some u)).
      let theirs = h.6 j u t.1 in (theirs.0, (λ p. t.0 ((theirs.1 p).0 ∙ sym (mine.1 q).0)), theirs.2))
      (at_set views port j left u e) in (
        a,
        length vs,
        r,
        ts,
        got,
        h.5,
        λ j u e. ⊎_elim
            (λ (t : get_elem? vs j ≡ some u). let o = old j u t in (o.0, (λ p. absurd (o.1 p)), o.2))
            (λ (same : right ≡ u). (
              (λ p. absurd (true≢false (sym (ap (λ (y : Roles T). y.one) same ∙ p)))),
              (λ p. (at_end vs right u j (λ t. (old j u t).1 p) e, ap (λ (y : Roles T). y.second) (sym same) ∙ (mine.1 q).1)),
              (λ p. absurd (true≢false (sym (ap (λ (y : Roles T). y.takes) same ∙ p)))),
            ))
            (at_snoc vs right u j e),
      )

  -- a further pass without a role
  hands_none : (port : ℕ) (v : Roles T) → Forks Ordered port v v no_roles
  hands_none port v items views h at = (
    h.0,
    h.1,
    h.2,
    h.3,
    h.4,
    h.5,
    λ j u e. ⊎_elim
        (λ (t : get_elem? (set views port v) j ≡ some u). h.6 j u (subst (λ (l : List (Roles T)). get_elem? l j ≡ some u) (set_again views port v at) t))
        (λ (same : no_roles ≡ u). (
          (λ p. absurd (true≢false (sym (ap (λ (y : Roles T). y.one) same ∙ p)))),
          (λ p. absurd (true≢false (sym (ap (λ (y : Roles T). y.two) same ∙ p)))),
          (λ p. absurd (true≢false (sym (ap (λ (y : Roles T). y.takes) same ∙ p)))),
        ))
        (at_snoc (set views port v) no_roles u j e),
  )

  -- either of them
  hands : (port : ℕ) (v : Roles T) (b : Bool) → (b ≡ true → v.two ≡ true)
      → Forks Ordered port v (if b then roles v.one false v.takes v.first [] v.taken else v) (if b then roles false true false [] v.second [] else no_roles)
  hands port v true has_it = hands_second port v (has_it refl)
  hands port v false has_it = hands_none port v

  -- a further sender's pass
  pub splits : (port : ℕ) (v : Roles T) → Forks Ordered port v (keeps_of v) (gives_of v)
  splits port v = hands port v (gives_second v) (has_second v.one v.two)

  -- the receiver's pass
  pub cuts : (port : ℕ) (v : Roles T) → v.takes ≡ true → Forks Ordered port v (sends_of v) (takes_of v)
  cuts port v q items views h at =
      let a = h.0 in
      let b = h.1 in
      let ts = h.3 in
      let got = h.4 in
      let mine = h.6 port v at in
      let vs : List (Roles T) = set views port (sends_of v) in
      let Old : ℕ → Roles T → Type 0 = λ j u. (u.one ≡ true → (j ≡ a) × (u.first ≡ those_of 0 ts)) × (u.two ≡ true → (j ≡ b) × (u.second ≡ those_of 1 ts)) × (u.takes ≢ true) in
      let old : (j : ℕ) (u : Roles T) → get_elem? vs j ≡ some u → Old j u =
      λ j u e. ⊎_elim
      (λ (t : (j ≡ port) × (sends_of v ≡ u)). subst (λ (y : ℕ × Roles T). Old y.0 y.1) (λ i. (sym t.0 i, t.1 i)) (mine.0, mine.1, (λ p. true≢false (sym p))))
      (λ (t : (j ≢ port) × (get_elem? views j ≡ some u)).
      let theirs = h.6 j u t.1 in (theirs.0, theirs.1, (λ p. t.0 ((theirs.2 p).0 ∙ sym (mine.2 q).0))))
      (at_set views port j (sends_of v) u e) in (
        a,
        b,
        length vs,
        ts,
        got,
        h.5,
        λ j u e. ⊎_elim
            (λ (t : get_elem? vs j ≡ some u). let o = old j u t in (o.0, o.1, (λ p. absurd (o.2 p))))
            (λ (same : takes_of v ≡ u). (
              (λ p. absurd (true≢false (sym (ap (λ (y : Roles T). y.one) same ∙ p)))),
              (λ p. absurd (true≢false (sym (ap (λ (y : Roles T). y.two) same ∙ p)))),
              (λ p. (at_end vs (takes_of v) u j (λ t. (old j u t).2 p) e, ap (λ (y : Roles T). y.taken) (sym same) ∙ (mine.2 q).1)),
            ))
            (at_snoc vs (takes_of v) u j e),
      )

  -- one role, after a pass took in another
  joined : (port other a : ℕ) (v1 w1 : Bool) (vx wx X : List T) → (v1 ≡ true → (port ≡ a) × (vx ≡ X)) → (w1 ≡ true → (other ≡ a) × (wx ≡ X))
      → (a' : ℕ) × (has v1 w1 ≡ true → (port ≡ a') × ((if w1 then wx else vx) ≡ X))
      × ((j : ℕ) (b : Bool) (x : List T) → j ≢ other → (b ≡ true → (j ≡ a) × (x ≡ X)) → b ≡ true → (j ≡ a') × (x ≡ X))
  joined port other a v1 true vx wx X p q = (port, (λ _. (refl, (q refl).1)), λ j b x no f e. absurd (no ((f e).0 ∙ sym (q refl).0)))
  joined port other a v1 false vx wx X p q = (a, p, λ j b x no f e. f e)

  -- a pass takes in another
  pub merges : (port : ℕ) (v : Roles T) (other : ℕ) (w : Roles T) → Merges Ordered port v other w (both_of v w) no_roles
  merges port v other w items views h at apart there =
      let ts = h.3 in
      let got = h.4 in
      let mine = h.6 port v at in
      let m = both_of v w in
      let vs : List (Roles T) = set views port m in
      let was : get_elem? views other ≡ some w =
      ⊎_elim (λ (t : (other ≡ port) × (m ≡ w)). absurd (apart t.0)) (λ (t : (other ≢ port) × (get_elem? views other ≡ some w)). t.1) (at_set views port other m w there) in
      let theirs = h.6 other w was in
      let one = joined port other h.0 v.one w.one v.first w.first (those_of 0 ts) mine.0 theirs.0 in
      let two = joined port other h.1 v.two w.two v.second w.second (those_of 1 ts) mine.1 theirs.1 in
      let out = joined port other h.2 v.takes w.takes v.taken w.taken got mine.2 theirs.2 in (
        one.0,
        two.0,
        out.0,
        ts,
        got,
        h.5,
        λ j u e. ⊎_elim
            (λ (t : (j ≡ other) × (no_roles ≡ u)). (
              (λ p. absurd (true≢false (sym (ap (λ (y : Roles T). y.one) t.1 ∙ p)))),
              (λ p. absurd (true≢false (sym (ap (λ (y : Roles T). y.two) t.1 ∙ p)))),
              (λ p. absurd (true≢false (sym (ap (λ (y : Roles T). y.takes) t.1 ∙ p)))),
            ))
            (λ (t : (j ≢ other) × (get_elem? vs j ≡ some u)).
            ⊎_elim (λ (s : (j ≡ port) × (m ≡ u)). subst (λ (y : ℕ × Roles T). Fits one.0 two.0 out.0 ts got y.0 y.1) (λ i. (sym s.0 i, s.1 i)) (one.1, two.1, out.1))
            (λ (s : (j ≢ port) × (get_elem? views j ≡ some u)).
            let f = h.6 j u s.1 in (one.2 j u.one u.first t.0 f.0, two.2 j u.two u.second t.0 f.1, out.2 j u.takes u.taken t.0 f.2))
            (at_set views port j m u t.1))
            (at_set vs other j no_roles u e),
      )

  -- the first pass has every role
  pub begins : Ordered {T = T} [] (roles true true true [] [] [] ∷ [])
  begins = (
    0,
    0,
    0,
    [],
    [],
    refl,
    λ j u e. ⊎_elim (λ (t : get_elem? [] j ≡ some u). absurd (some-ne-none u (sym t)))
        (λ (same : roles true true true [] [] [] ≡ u).
        let here : j ≡ 0 = at_end [] (roles true true true [] [] []) u j (λ t. some-ne-none u (sym t)) e in (
          (λ _. (here, ap (λ (y : Roles T). y.first) (sym same))),
          (λ _. (here, ap (λ (y : Roles T). y.second) (sym same))),
          (λ _. (here, ap (λ (y : Roles T). y.taken) (sym same))),
        ))
        (at_snoc [] (roles true true true [] [] []) u j e),
  )
