-- The link at an interface is the one whose place stands beside the interface in its AS's table.
use Rattle.std.proofs.Common.{◌≡◌, ℕ, ◌+◌, ◌<◌, Bool, true, false, cond, eqb, ltb, not, List, [], ◌∷◌, length, Option, Some, None, Result, Ok, Err, refl, sym, ap, ◌∙◌, arith, inl, inr, ◌&&◌, ◌||◌, find, option_map, get_or, IfOk}
use Rattle.std.specs.Prelude.{is_some, position}
use Rattle.std.specs.List.{position_or_len, list_all, list_any, cons_option}
use Rattle.std.specs.Option.{ok_or}
use Rattle.std.proofs.lemmas.Bool.{cases_Bool, lt-ltb, le-ltb, cases_lt, or_parts, and_parts, eqb-true, eq-eqb, not-true}
use Rattle.std.proofs.lemmas.List.Folds.{find_at}
use Rattle.scion_topology.specs.declared.entry.IfEntry.{IfEntry}
use Rattle.scion_topology.specs.declared.fault.TopologyFault.{TopologyFault}
use Rattle.scion_topology.specs.declared.fault.TopologyFault.TheVariants as faults
use Rattle.scion_topology.specs.declared.network.AsEntry.{AsEntry}
use Rattle.scion_topology.specs.declared.network.Link.{Link}
use Rattle.scion_topology.specs.Network.{Network, has_end, link_named, interface_of, table_of}
use Rattle.scion_topology.specs.Causes.{is_ill_joined}
use Rattle.refusal.specs.Refusal.{◌>>=◌}
use Rattle.scion_topology.specs.Topology.{IsNetwork, known_as, known_link}
use Rattle.scion_topology.specs.Index.{IndexValue, places_of, index_at}
use Rattle.scion_topology.specs.inner.Index.{place_beside, index_in, place_in}
use Rattle.std.proofs.lemmas.Option.{slice_get-get_or}
use Rattle.scion_topology.proofs.Indexes.{slice_get-past}
use Rattle.scion_topology.proofs.Tables.{position-cons, place_beside-cons}
use Rattle.refusal.proofs.Steps.{bind_ok, ok_is, ok_or_ok}
use Rattle.scion_topology.proofs.Judging.{IsFree-IsNetwork}

-- no link joins an AS to itself
abbrev pub are_apart : List Link → Bool
are_apart links = list_all (λ link. not (eqb link.a.ia link.b.ia)) links

-- ---- one link

abbrev pub is_numbered : ℕ → Option IfEntry → Bool
is_numbered number None = false
is_numbered number (Some e) = eqb e.number number

both_ends : (x y m n : Bool) → (x ≡ true → y ≡ true → ⊥) → ((x && m) || (y && n)) ≡ cond x m (cond y n false)
both_ends true true m n h = absurd (h refl refl)
both_ends true false true n h = refl
both_ends true false false n h = refl
both_ends false true m n h = refl
both_ends false false m n h = refl

numbered_by : (x y : Bool) (number : ℕ) (a b : IfEntry) → is_numbered number (cond x (Some a) (cond y (Some b) None)) ≡ cond x (eqb a.number number) (cond y (eqb b.number number) false)
numbered_by true y number a b = refl
numbered_by false true number a b = refl
numbered_by false false number a b = refl

-- a link ends at an interface exactly where the interface of the AS has its number
pub ends_there : (ia number : ℕ) (link : Link) → not (eqb link.a.ia link.b.ia) ≡ true → has_end link ia number ≡ is_numbered number (interface_of ia link)
ends_there ia number link apart =
    let x = eqb link.a.ia ia in
    let y = eqb link.b.ia ia in
    let one_only : x ≡ true → y ≡ true → ⊥ = λ at_a at_b. (
    let a-is = eqb-true link.a.ia ia at_a in
    let b-is = eqb-true link.b.ia ia at_b in
    let same : eqb link.a.ia link.b.ia ≡ true = eq-eqb link.a.ia link.b.ia (a-is ∙ sym b-is) in
    let not_same : eqb link.a.ia link.b.ia ≡ false = not-true _ apart in
    absurd cc) in
    both_ends x y (eqb link.a.number number) (eqb link.b.number number) one_only ∙ sym (numbered_by x y number _ _)

-- ---- all links

moved : (base : ℕ) (o : Option ℕ) → option_map (λ (k : ℕ). base + 1 + k) o ≡ option_map (λ (k : ℕ). base + k) (option_map (λ (k : ℕ). 1 + k) o)
moved base None = refl
moved base (Some k) = ap Some (omega arith)

place_step : (number base : ℕ) (o : Option IfEntry) (h : Bool) (table : List IfEntry) (places : List ℕ) (first : Option ℕ) → h ≡ is_numbered number o → place_beside number table places ≡ option_map (λ k. base + 1 + k) first → place_beside number (cons_option o table) (cond (is_some o) (base ∷ places) places) ≡ option_map (λ k. base + k) (cond h (Some 0) (option_map (λ k. 1 + k) first))
place_step number base None h table places first is rest = rw is (rest ∙ moved base first)
place_step number base (Some e) h table places first is rest = elim (cases_Bool (eqb e.number number)) [
  | inl here ↦ (let at : base + 0 ≡ base = omega arith in rw (place_beside-cons number e table base places, is, here, at) refl)
  | inr other ↦ rw (place_beside-cons number e table base places, is, other) (rest ∙ moved base first)
]

pub place_beside-position : (number base ia : ℕ) (links : List Link) → are_apart links ≡ true → place_beside number (table_of ia links) (places_of base ia links) ≡ option_map (λ k. base + k) (position (λ link. has_end link ia number) links)
place_beside-position number base ia [] apart = refl
place_beside-position number base ia (link ∷ links) apart =
    let parts = and_parts (not (eqb link.a.ia link.b.ia)) (are_apart links) apart in
    rw (position-cons (λ l. has_end l ia number) link links)
    (place_step number base (interface_of ia link) (has_end link ia number) (table_of ia links) (places_of (base + 1) ia links) (position (λ l. has_end l ia number) links)
    (ends_there ia number link parts.0) (place_beside-position number (base + 1) ia links parts.1))

-- ---- in a network

pub are_apart-ill : (ases : List AsEntry) (links : List Link) → list_any (λ link. is_ill_joined ases link) links ≡ false → are_apart links ≡ true
are_apart-ill ases [] none = refl
are_apart-ill ases (link ∷ links) none =
    let parts = or_parts (is_ill_joined ases link) (list_any (λ l. is_ill_joined ases l) links) none in
    let apart = or_parts (eqb link.a.ia link.b.ia) _ parts.0 in
    rw apart.0 (are_apart-ill ases links parts.1)

-- no link of a network joins an AS to itself
pub network_apart : (n : Network) → IsNetwork n → are_apart n.links ≡ true
network_apart n network = are_apart-ill n.ases n.links (IsFree-IsNetwork n network).classes

-- ---- what the index says of a link

zero_moved : (o : Option ℕ) → option_map (λ (k : ℕ). 0 + k) o ≡ o
zero_moved None = refl
zero_moved (Some k) = ap Some (omega arith)

-- the index that was found is what the definitions say of the AS
pub record IsIndex (n : Network) (ia : ℕ) (one : AsEntry) (index : IndexValue) : Type 0 where
  pub known : known_as n ia ≡ Ok one
  pub table : index.table ≡ table_of ia n.links
  pub places : index.places ≡ places_of 0 ia n.links

pub IsIndex-index_in : (n : Network) (ia : ℕ) (one : AsEntry) (index : IndexValue) → index_in n ia ≡ Ok (one, index) → IsIndex n ia one index
IsIndex-index_in n ia one index found =
    let at = bind_ok (known_as n ia) _ (one, index) found in
    let pair = ok_is (at.0, index_at (position_or_len (λ other. eqb other.ia ia) n.ases) ia n.links) (one, index) at.2 in
    let same : at.0 ≡ one = ap (λ (p : AsEntry × IndexValue). p.0) pair in
    let is : index_at (position_or_len (λ other. eqb other.ia ia) n.ases) ia n.links ≡ index = ap (λ (p : AsEntry × IndexValue). p.1) pair in
    record {
      known = rw (← same) at.1;
      table = ap (λ (s : IndexValue). s.table) (sym is);
      places = ap (λ (s : IndexValue). s.places) (sym is);
    }

pub place_in-index : (n : Network) (ia number : ℕ) (one : AsEntry) (index : IndexValue) → IsNetwork n → index_in n ia ≡ Ok (one, index) → ok_or (place_beside number index.table index.places) faults.NoLink ≡ place_in n ia number
place_in-index n ia number one index network found =
    let is = IsIndex-index_in n ia one index found in
    let apart = network_apart n network in
    rw (is.table, is.places, is.known, place_beside-position number 0 ia n.links apart, zero_moved (position (λ link. has_end link ia number) n.links)) refl

-- a first place is within, and the element there is the one that is found
pub record IsFirst {A : Type 0} (p : A → Bool) (xs : List A) (k : ℕ) : Type 0 where
  pub within : k < length xs
  pub found : (x : A) → x ≡ get_or xs k x → find p xs ≡ Some x

first_at : {A : Type 0} (p : A → Bool) (xs : List A) (k : ℕ) → cond (ltb (position_or_len p xs) (length xs)) (Some (position_or_len p xs)) None ≡ Some k → IsFirst p xs k
first_at p xs k e = elim (cases_lt (position_or_len p xs) (length xs)) [
  | inl below ↦ (
      let at : position_or_len p xs ≡ k = (let f : cond true (Some (position_or_len p xs)) None ≡ Some k = rw (lt-ltb _ _ below) at e in cc) in
      record {
        within = rw (← at) below;
        found = λ x is. find_at p xs ∙ slice_get-get_or xs (position_or_len p xs) x below ∙ ap (λ i. Some (get_or xs i x)) at ∙ ap Some (sym is);
      })
  | inr past ↦ absurd (let f : cond false (Some (position_or_len p xs)) None ≡ Some k = rw (le-ltb _ _ past) at e in cc)
]

pub IsFirst-position : {A : Type 0} (p : A → Bool) (xs : List A) (k : ℕ) → position p xs ≡ Some k → IsFirst p xs k
IsFirst-position p xs k e = first_at p xs k e

none_at : {A : Type 0} (p : A → Bool) (xs : List A) → cond (ltb (position_or_len p xs) (length xs)) (Some (position_or_len p xs)) None ≡ None → find p xs ≡ None
none_at p xs e = elim (cases_lt (position_or_len p xs) (length xs)) [
  | inl below ↦ absurd (let f : cond true (Some (position_or_len p xs)) None ≡ None = rw (lt-ltb _ _ below) at e in cc)
  | inr past ↦ find_at p xs ∙ slice_get-past xs (position_or_len p xs) past
]

-- the place of a link, and the link
pub IsFirst-place_in : (n : Network) (ia number k : ℕ) → place_in n ia number ≡ Ok k → IsFirst (λ link. has_end link ia number) n.links k
IsFirst-place_in n ia number k e =
    let at = bind_ok (known_as n ia) _ k e in
    IsFirst-position (λ link. has_end link ia number) n.links k (ok_or_ok (position (λ link. has_end link ia number) n.links) faults.NoLink k at.2)

pub known_link-place_in : (n : Network) (ia number k : ℕ) (link : Link) → place_in n ia number ≡ Ok k → link ≡ get_or n.links k link → known_link n ia number ≡ Ok link
known_link-place_in n ia number k link e is =
    let at = bind_ok (known_as n ia) _ k e in
    let first = IsFirst-place_in n ia number k e in
    let found : link_named n.links ia number ≡ Some link = first.found link is in
    rw (at.1, found) refl

-- what was not there is refused so
ok_or_err : {A : Type 0} (o : Option A) (f d : TopologyFault) → ok_or o f ≡ Err d → (o ≡ None) × (f ≡ d)
ok_or_err (Some y) f d e = absurd cc
ok_or_err None f d e = (refl, cc)

joined_err : (r : Result AsEntry TopologyFault) (links : List Link) (ia number : ℕ) (d : TopologyFault) → (r >>= λ _. ok_or (position (λ link. has_end link ia number) links) faults.NoLink) ≡ Err d → (r >>= λ _. ok_or (link_named links ia number) faults.NoLink) ≡ Err d
joined_err (Ok x) links ia number d e =
    let none = ok_or_err (position (λ link. has_end link ia number) links) faults.NoLink d e in
    let absent : link_named links ia number ≡ None = none_at (λ link. has_end link ia number) links none.0 in
    rw absent (ap (λ (f : TopologyFault). Err f) none.1)
joined_err (Err f) links ia number d e = cc

pub known_link-place_in_err : (n : Network) (ia number : ℕ) (d : TopologyFault) → place_in n ia number ≡ Err d → known_link n ia number ≡ Err d
known_link-place_in_err n ia number d e = joined_err (known_as n ia) n.links ia number d e

pub place_in-bound : (n : Network) (ia number : ℕ) (r : Result ℕ TopologyFault) → r ≡ place_in n ia number → IfOk r (λ k. k < length n.links)
place_in-bound n ia number (Ok k) e = (IsFirst-place_in n ia number k (sym e)).within
place_in-bound n ia number (Err f) e = tt
