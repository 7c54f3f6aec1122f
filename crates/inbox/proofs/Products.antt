-- Each kind of step keeps both rules.
use Rattle.std.proofs.Common.{◌≡◌, ℕ, zero, suc, ◌<◌, true, List, [], ◌∷◌, ◌++◌, map, set, refl, sym, ap, ◌∙◌, subst}
use mathlib.Core.Option.{some}
use lib.ListN.{get_elem?}
use Rattle.crossbeam_queue.specs.Fifo.{Pushes, Pops, Forks, Merges, Learns}
use Rattle.crossbeam_queue.proofs.Lists.{at_map}
use Rattle.inbox.specs.declared.account.Tally.{Tally}
use Rattle.inbox.specs.declared.account.Roles.{Roles}
use Rattle.inbox.specs.declared.account.Account.{Account}
use Rattle.inbox.specs.Tally.{Balanced}
use Rattle.inbox.specs.Roles.{Ordered, keeps_of, gives_of, sends_of, takes_of}
use Rattle.inbox.specs.Account.{tally_of, roles_of, account, Keeps, everything, with_half, other_half, with_put, with_taken, joined, spent, AddsUp}
use Rattle.inbox.proofs.Balance as balance
use Rattle.inbox.proofs.Orders as orders

map-set : {A B : Type 0} (f : A → B) (xs : List A) (i : ℕ) (x : A) → set (map f xs) i (f x) ≡ map f (set xs i x)
map-set f [] i x = refl
map-set f (y ∷ ys) zero x = refl
map-set f (y ∷ ys) (suc i) x = ap (λ zs. f y ∷ zs) (map-set f ys i x)

map-snoc : {A B : Type 0} (f : A → B) (xs : List A) (x : A) → map f xs ++ f x ∷ [] ≡ map f (xs ++ x ∷ [])
map-snoc f [] x = refl
map-snoc f (y ∷ ys) x = ap (λ zs. f y ∷ zs) (map-snoc f ys x)

module _ {T : Type 0} where
  -- the rules after one view became w
  turned : (items : List T) (views : List (Account T)) (port : ℕ) (w : Account T) → Balanced items (set (map tally_of views) port w.tally) → Ordered items (set (map roles_of views) port w.roles) → Keeps items (set views port w)
  turned items views port w p q = (
    subst (λ (l : List (Tally T)). Balanced items l) (map-set tally_of views port w) p,
    subst (λ (l : List (Roles T)). Ordered items l) (map-set roles_of views port w) q,
  )

  pub puts : (n port : ℕ) (v : Account T) (x : T) → 0 < v.tally.share.pieces → Pushes Keeps n port v x (λ w. w ≡ with_put v x)
  puts n port v x some_part items views room h at =
      let p = balance.puts n port v.tally x some_part items (map tally_of views) room h.0 (at_map tally_of views port v at) in
      let q = orders.puts n port v.roles x items (map roles_of views) room h.1 (at_map roles_of views port v at) in
      (account p.0 q.0, turned (items ++ x ∷ []) views port (account p.0 q.0) p.1 q.1, λ i. account (p.2 i) (q.2 i))

  pub takes : (port : ℕ) (v : Account T) → 0 < v.tally.share.pieces → v.roles.takes ≡ true → Pops Keeps port v (λ x w. w ≡ with_taken v x)
  takes port v some_part may x items views h at =
      let p = balance.takes port v.tally some_part x items (map tally_of views) h.0 (at_map tally_of views port v at) in
      let q = orders.takes port v.roles may x items (map roles_of views) h.1 (at_map roles_of views port v at) in
      (account p.0 q.0, turned items views port (account p.0 q.0) p.1 q.1, λ i. account (p.2 i) (q.2 i))

  forked : (items : List T) (views : List (Account T)) (port : ℕ) (l r : Account T) → Balanced items (set (map tally_of views) port l.tally ++ r.tally ∷ []) → Ordered items (set (map roles_of views) port l.roles ++ r.roles ∷ [])
      → Keeps items (set views port l ++ r ∷ [])
  forked items views port l r p q = (
    subst (λ (z : List (Tally T)). Balanced items z) (ap (λ z. z ++ r.tally ∷ []) (map-set tally_of views port l) ∙ map-snoc tally_of (set views port l) r) p,
    subst (λ (z : List (Roles T)). Ordered items z) (ap (λ z. z ++ r.roles ∷ []) (map-set roles_of views port l) ∙ map-snoc roles_of (set views port l) r) q,
  )

  pub splits : (port : ℕ) (v : Account T) → 0 < v.tally.share.pieces → Forks Keeps port v (account (with_half v.tally) (keeps_of v.roles)) (account (other_half v.tally) (gives_of v.roles))
  splits port v parts items views h at =
      forked items views port (account (with_half v.tally) (keeps_of v.roles)) (account (other_half v.tally) (gives_of v.roles))
      (balance.forks port v.tally parts items (map tally_of views) h.0 (at_map tally_of views port v at))
      (orders.splits port v.roles items (map roles_of views) h.1 (at_map roles_of views port v at))

  pub cuts : (port : ℕ) (v : Account T) → 0 < v.tally.share.pieces → v.roles.takes ≡ true → Forks Keeps port v (account (with_half v.tally) (sends_of v.roles)) (account (other_half v.tally) (takes_of v.roles))
  cuts port v parts may items views h at =
      forked items views port (account (with_half v.tally) (sends_of v.roles)) (account (other_half v.tally) (takes_of v.roles))
      (balance.forks port v.tally parts items (map tally_of views) h.0 (at_map tally_of views port v at))
      (orders.cuts port v.roles may items (map roles_of views) h.1 (at_map roles_of views port v at))

  pub merges : (port : ℕ) (v : Account T) (other : ℕ) (w : Account T) → 0 < v.tally.share.pieces → Merges Keeps port v other w (joined v w) spent
  merges port v other w parts items views h at apart there =
      let m = joined v w in
      let z : Account T = spent in
      let vs : List (Account T) = set views port m in
      let here : get_elem? (set (map tally_of views) port m.tally) other ≡ some w.tally =
      subst (λ (l : List (Tally T)). get_elem? l other ≡ some w.tally) (sym (map-set tally_of views port m)) (at_map tally_of vs other w there) in
      let there' : get_elem? (set (map roles_of views) port m.roles) other ≡ some w.roles =
      subst (λ (l : List (Roles T)). get_elem? l other ≡ some w.roles) (sym (map-set roles_of views port m)) (at_map roles_of vs other w there) in
      let p = balance.merges port v.tally other w.tally parts items (map tally_of views) h.0 (at_map tally_of views port v at) apart here in
      let q = orders.merges port v.roles other w.roles items (map roles_of views) h.1 (at_map roles_of views port v at) apart there' in
      turned items vs other z (subst (λ (l : List (Tally T)). Balanced items (set l other z.tally)) (map-set tally_of views port m) p)
      (subst (λ (l : List (Roles T)). Ordered items (set l other z.roles)) (map-set roles_of views port m) q)

  pub learns : (port : ℕ) (v : Account T) → Learns Keeps port v (AddsUp v)
  learns port v items views h at = record {
    as_often = balance.learns port v.tally items (map tally_of views) h.0 (at_map tally_of views port v at);
    in_order = orders.learns port v.roles items (map roles_of views) h.1 (at_map roles_of views port v at);
  }

  pub begins : Keeps {T = T} [] (everything ∷ [])
  begins = (balance.begins, orders.begins)
