-- A link that goes up or down changes the two tables that it stands in, and nothing that a network
-- is judged by.
use Rattle.std.proofs.Common.{◌≡◌, ℕ, zero, suc, ◌+◌, ◌<◌, Bool, true, false, cond, eqb, not, List, [], ◌∷◌, length, Option, Some, None, refl, sym, ap, ◌∙◌, arith, inl, inr, ◌||◌, option_map, get_or}
use Rattle.std.proofs.lemmas.Option.{slice_get-get_or}
use Rattle.std.specs.Prelude.{is_some, position, slice_get, slice_set}
use Rattle.std.specs.List.{list_all, list_any, cons_option}
use Rattle.std.proofs.lemmas.Bool.{cases_Bool, eq-eqb, eqb-true, ne_eqb, and_parts}
use Rattle.std.specs.Ordering.{nat_cmp}
use Rattle.std.specs.BTreeMap.{is_at}
use Rattle.std.proofs.lemmas.Bool.Decides.{nat_tests}
use Rattle.scion_topology.specs.declared.entry.IfEntry.{IfEntry}
use Rattle.scion_topology.specs.declared.network.AsEntry.{AsEntry}
use Rattle.scion_topology.specs.declared.network.Link.{Link}
use Rattle.scion_topology.specs.Network.{has_end, interface_of, table_of}
use Rattle.scion_topology.specs.Causes.{has_unknown_end, has_no_router, is_ill_joined, stands, joins_twice, cause_of}
use Rattle.scion_topology.specs.inner.Causes.{is_link}
use Rattle.scion_topology.specs.Topology.{with_up}
use Rattle.scion_topology.specs.inner.Table.{marked_table}
use Rattle.scion_topology.specs.Index.{places_of}
use Rattle.scion_topology.specs.inner.Index.{set_from}
use Rattle.scion_topology.proofs.Places.{are_apart, is_numbered, ends_there}
use Rattle.scion_topology.proofs.Tables.{position-cons, place_zero, place_suc}

-- an interface with the link's new state, where it is that link's
abbrev restated : Bool → Bool → IfEntry → IfEntry
restated here up e = cond here (record e { up = up }) e

interface_of-restated : (here up : Bool) (x : ℕ) (link : Link) → interface_of x (cond here (record link { up = up }) link) ≡ option_map (restated here up) (interface_of x link)
interface_of-restated true up x link = go (eqb link.a.ia x) (eqb link.b.ia x) _ _
  where
    go : (p q : Bool) (a b : IfEntry) → cond p (Some (record a { up = up })) (cond q (Some (record b { up = up })) None) ≡ option_map (restated true up) (cond p (Some a) (cond q (Some b) None))
    go true q a b = refl
    go false true a b = refl
    go false false a b = refl
interface_of-restated false up x link = go (interface_of x link)
  where
    go : (o : Option IfEntry) → o ≡ option_map (restated false up) o
    go None = refl
    go (Some e) = refl

is_some-restated : (here up : Bool) (o : Option IfEntry) → is_some (option_map (restated here up) o) ≡ is_some o
is_some-restated here up None = refl
is_some-restated here up (Some e) = refl

-- the places of links stay
pub places_of-set_from : (base x place count : ℕ) (up : Bool) (links : List Link) → places_of base x (set_from count place up links) ≡ places_of base x links
places_of-set_from base x place count up [] = refl
places_of-set_from base x place count up (link ∷ links) =
    rw (interface_of-restated (eqb count place) up x link, is_some-restated (eqb count place) up (interface_of x link), places_of-set_from (base + 1) x place (count + 1) up links) refl

-- the link at this place, counted from base, does not end in an AS
abbrev pub Misses : ℕ → ℕ → ℕ → List Link → Type 0
Misses base x place links = (k : ℕ) (link : Link) → slice_get links k ≡ Some link → base + k ≡ place → interface_of x link ≡ None

miss_step : (here up : Bool) (o : Option IfEntry) → (here ≡ true → o ≡ None) → option_map (restated here up) o ≡ o
miss_step here up None misses = refl
miss_step true up (Some e) misses = absurd (let none = misses refl in cc)
miss_step false up (Some e) misses = refl

-- an AS in which the link does not end keeps its table
pub table_of-misses : (base x place : ℕ) (up : Bool) (links : List Link) → Misses base x place links → table_of x (set_from base place up links) ≡ table_of x links
table_of-misses base x place up [] misses = refl
table_of-misses base x place up (link ∷ links) misses =
    rw (
      interface_of-restated (eqb base place) up x link,
      miss_step (eqb base place) up (interface_of x link) (λ here. misses 0 link refl (omega (arith, eqb-true base place here))),
      table_of-misses (base + 1) x place up links (λ k other found at. misses (suc k) other found (omega (arith, at))),
    ) refl

-- ---- the interface of a number is that of the link which ends there

here_step : (number : ℕ) (up : Bool) (o : Option IfEntry) (table : List IfEntry) → is_numbered number o ≡ true → cons_option (option_map (restated true up) o) table ≡ marked_table number up (cons_option o table)
here_step number up None table here = absurd cc
here_step number up (Some e) table here = rw here refl

other_step : (number : ℕ) (up : Bool) (o : Option IfEntry) (table : List IfEntry) → is_numbered number o ≡ false → cons_option o (marked_table number up table) ≡ marked_table number up (cons_option o table)
other_step number up None table other = refl
other_step number up (Some e) table other = rw other refl

pub table_of-with_up : (x number : ℕ) (up : Bool) (links : List Link) → are_apart links ≡ true → table_of x (with_up up x number links) ≡ marked_table number up (table_of x links)
table_of-with_up x number up [] apart = refl
table_of-with_up x number up (link ∷ links) apart =
    let parts = and_parts (not (eqb link.a.ia link.b.ia)) (are_apart links) apart in
    let is = ends_there x number link parts.0 in
    elim (cases_Bool (has_end link x number)) [
      | inl here ↦ rw (here, interface_of-restated true up x link) (here_step number up (interface_of x link) (table_of x links) (sym is ∙ here))
      | inr other ↦ rw (other, table_of-with_up x number up links parts.1) (other_step number up (interface_of x link) (table_of x links) (sym is ∙ other))
    ]

-- ---- the first link with an end

pub set_from-past : (base place : ℕ) (up : Bool) (links : List Link) → place < base → set_from base place up links ≡ links
set_from-past base place up [] past = refl
set_from-past base place up (link ∷ links) past =
    rw (ne_eqb base place (λ e. omega arith), set_from-past (base + 1) place up links (omega arith)) refl

pub with_up-set_from : (base ia number k : ℕ) (up : Bool) (links : List Link) → position (λ link. has_end link ia number) links ≡ Some k → with_up up ia number links ≡ set_from base (base + k) up links
with_up-set_from base ia number k up [] found = absurd cc
with_up-set_from base ia number k up (link ∷ links) found =
    let first = sym (position-cons (λ l. has_end l ia number) link links) ∙ found in
    elim (cases_Bool (has_end link ia number)) [
      | inl here ↦ (
          let zero_place : 0 ≡ k = place_zero (option_map (λ (i : ℕ). 1 + i) (position (λ l. has_end l ia number) links)) k (rw here at first) in
          let at : eqb base (base + k) ≡ true = eq-eqb base (base + k) (omega arith) in
          rw (here, at, set_from-past (base + 1) (base + k) up links (omega arith)) refl)
      | inr other ↦ (
          let later = place_suc (position (λ l. has_end l ia number) links) k (rw other at first) in
          let after : eqb base (base + k) ≡ false = ne_eqb base (base + k) (λ e. omega (arith, later.2)) in
          let same : base + 1 + later.0 ≡ base + k = omega (arith, later.2) in
          rw (other, after) (ap (λ (ls : List Link). link ∷ ls) (rw same at (with_up-set_from (base + 1) ia number later.0 up links later.1))))
    ]

-- the link at a place, written anew
pub set_from-slice_set : (base k : ℕ) (up : Bool) (links : List Link) (link : Link) → slice_get links k ≡ Some link → slice_set links k (record link { up = up }) ≡ set_from base (base + k) up links
set_from-slice_set base k up [] link found = absurd cc
set_from-slice_set base zero up (first ∷ links) link found =
    let same : first ≡ link = cc in
    let at : eqb base (base + 0) ≡ true = eq-eqb base (base + 0) (omega arith) in
    rw (at, set_from-past (base + 1) (base + 0) up links (omega arith), same) refl
set_from-slice_set base (suc k) up (first ∷ links) link found =
    let after : eqb base (base + suc k) ≡ false = ne_eqb base (base + suc k) (λ e. omega arith) in
    let same : base + 1 + k ≡ base + suc k = omega arith in
    rw after (ap (λ (ls : List Link). first ∷ ls) (rw same at (set_from-slice_set (base + 1) k up links link found)))

-- ---- what a network is judged by

same_here : (f : Link → Bool) → ((link : Link) (up : Bool) → f (record link { up = up }) ≡ f link) → (here up : Bool) (link : Link) → f (cond here (record link { up = up }) link) ≡ f link
same_here f same true up link = same link up
same_here f same false up link = refl

same_any : (f : Link → Bool) → ((link : Link) (up : Bool) → f (record link { up = up }) ≡ f link) → (base place : ℕ) (up : Bool) (links : List Link) → list_any f (set_from base place up links) ≡ list_any f links
same_any f same base place up [] = refl
same_any f same base place up (link ∷ links) = rw (same_here f same (eqb base place) up link, same_any f same (base + 1) place up links) refl

same_all : (f : Link → Bool) → ((link : Link) (up : Bool) → f (record link { up = up }) ≡ f link) → (base place : ℕ) (up : Bool) (links : List Link) → list_all f (set_from base place up links) ≡ list_all f links
same_all f same base place up [] = refl
same_all f same base place up (link ∷ links) = rw (same_here f same (eqb base place) up link, same_all f same (base + 1) place up links) refl

length-set_from : (base place : ℕ) (up : Bool) (links : List Link) → length (set_from base place up links) ≡ length links
length-set_from base place up [] = refl
length-set_from base place up (link ∷ links) = ap suc (length-set_from (base + 1) place up links)

joins_step : (here up : Bool) (link : Link) (links rest : List Link) → (stands rest link.a || (stands rest link.b || joins_twice rest)) ≡ (stands links link.a || (stands links link.b || joins_twice links)) → joins_twice (cond here (record link { up = up }) link ∷ rest) ≡ joins_twice (link ∷ links)
unfolding joins_twice
joins_step true up link links rest same = same
joins_step false up link links rest same = same

joins_twice-set_from : (base place : ℕ) (up : Bool) (links : List Link) → joins_twice (set_from base place up links) ≡ joins_twice links
joins_twice-set_from base place up [] = refl
joins_twice-set_from base place up (link ∷ links) =
    joins_step (eqb base place) up link links (set_from (base + 1) place up links)
    (rw (
      same_any (λ l. has_end l link.a.ia link.a.number) (λ l b. refl) (base + 1) place up links,
      same_any (λ l. has_end l link.b.ia link.b.number) (λ l b. refl) (base + 1) place up links,
      joins_twice-set_from (base + 1) place up links,
    ) refl)

pub cause_of-set_from : (ases : List AsEntry) (base place : ℕ) (up : Bool) (links : List Link) → cause_of ases (set_from base place up links) ≡ cause_of ases links
unfolding cause_of
cause_of-set_from ases base place up links =
    rw (
      length-set_from base place up links,
      same_any (λ l. has_unknown_end ases l) (λ l b. refl) base place up links,
      same_any (λ l. has_no_router ases l) (λ l b. refl) base place up links,
      same_any (λ l. is_ill_joined ases l) (λ l b. refl) base place up links,
      joins_twice-set_from base place up links,
    ) refl

pub is_link-set_from : (base place : ℕ) (up : Bool) (links : List Link) → list_all is_link (set_from base place up links) ≡ list_all is_link links
is_link-set_from base place up links = same_all is_link (λ l b. refl) base place up links

-- ---- the code's steps

pub put_up-is : (place : ℕ) (up : Bool) (links : List Link) (link : Link) → place < length links → link ≡ get_or links place link → slice_set links place (record link { up = up }) ≡ set_from 0 place up links
put_up-is place up links link below is =
    let found : slice_get links place ≡ Some link = slice_get-get_or links place link below ∙ ap Some (sym is) in
    let at : 0 + place ≡ place = omega arith in
    rw at at (set_from-slice_set 0 place up links link found)

-- a query for a number finds that number
pub is_at-nat_cmp : (x y : ℕ) → is_at (nat_cmp y) x ≡ eqb x y
is_at-nat_cmp x y = grind (arith, nat_tests)
