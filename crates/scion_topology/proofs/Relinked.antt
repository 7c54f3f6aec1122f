-- A topology after one of its links went up or down.
use Rattle.std.proofs.Common.{◌≡◌, ◌≢◌, ℕ, zero, suc, ◌+◌, Bool, true, false, cond, eqb, not, List, [], ◌∷◌, get_or, Option, Some, None, Ok, Err, refl, sym, ap, ◌∙◌, arith, inl, inr, ◌||◌, option_map}
use Rattle.std.specs.Prelude.{position, slice_get}
use Rattle.std.specs.List.{list_any}
use Rattle.std.proofs.lemmas.Bool.{cases_Bool, cases_eq, eq-eqb, ne_eqb, and_parts, or_parts, or_left, or_right, not-true, true≢false}
use Rattle.scion_topology.specs.declared.entry.IfEntry.{IfEntry}
use Rattle.scion_topology.specs.declared.fault.TopologyFault.{TopologyFault}
use Rattle.scion_topology.specs.declared.fault.TopologyFault.TheVariants as faults
use Rattle.scion_topology.specs.declared.network.AsEntry.{AsEntry}
use Rattle.scion_topology.specs.declared.network.Link.{Link}
use Rattle.scion_topology.specs.Network.{Network, has_end, table_of}
use Rattle.scion_topology.specs.Causes.{stands, joins_twice}
use Rattle.scion_topology.specs.Topology.{IsNetwork, known_as, set_up, with_up}
use Rattle.scion_topology.specs.inner.Table.{marked_table}
use Rattle.scion_topology.specs.Index.{IndexValue, index_at, index_from, places_of}
use Rattle.scion_topology.specs.inner.Index.{place_in, with_state, set_from}
use Rattle.refusal.proofs.Steps.{bind_ok, ok_or_ok}
use Rattle.scion_topology.proofs.Judging.{IsFree-IsNetwork, judged, rules_from}
use Rattle.scion_topology.proofs.Places.{network_apart, are_apart, known_link-place_in, known_link-place_in_err}
use Rattle.scion_topology.proofs.Marking.{places_of-set_from, table_of-misses, table_of-with_up, Misses, with_up-set_from, cause_of-set_from, is_link-set_from}
use Rattle.scion_topology.proofs.Tables.{position-cons}
use Rattle.scion_topology.proofs.Ends.{ends_stand, ends_at_a, ends_at_b}

-- where there is no such link, nothing is changed
pub set_up-none : (up : Bool) (ia number : ℕ) (n : Network) (d : TopologyFault) → place_in n ia number ≡ Err d → set_up up ia number n ≡ Err d
unfolding set_up
set_up-none up ia number n d none = rw (known_link-place_in_err n ia number d none) refl

-- the network with the link at its place up, or down
abbrev pub relinked : ℕ → Bool → Network → Network
relinked place up n = record { ases = n.ases; links = set_from 0 place up n.links }

pub set_up-place_in : (up : Bool) (ia number place : ℕ) (n : Network) (link : Link) → place_in n ia number ≡ Ok place → link ≡ get_or n.links place link → set_up up ia number n ≡ Ok (relinked place up n)
unfolding set_up
set_up-place_in up ia number place n link found is =
    let at = bind_ok (known_as n ia) _ place found in
    let first = ok_or_ok (position (λ l. has_end l ia number) n.links) faults.NoLink place at.2 in
    let zero_place : 0 + place ≡ place = omega arith in
    let same : with_up up ia number n.links ≡ set_from 0 place up n.links = rw zero_place at (with_up-set_from 0 ia number place up n.links first) in
    rw (known_link-place_in n ia number place link found is, same) refl

pub IsNetwork-relinked : (place : ℕ) (up : Bool) (n : Network) → IsNetwork n → IsNetwork (relinked place up n)
IsNetwork-relinked place up n network = let passed = judged n network in rules_from (relinked place up n) (record {
  ases = passed.ases;
  links = is_link-set_from 0 place up n.links ∙ passed.links;
  cause = cause_of-set_from n.ases 0 place up n.links ∙ passed.cause;
})

-- ---- the index

-- what is said of the index of an AS wherever it stands in the list is said of the one that is found
index_from-same : (base x : ℕ) (f : IndexValue → IndexValue) (ases : List AsEntry) (links others : List Link) → ((position : ℕ) → index_at position x others ≡ f (index_at position x links)) → index_from base ases others x ≡ option_map f (index_from base ases links x)
index_from-same base x f [] links others same = refl
index_from-same base x f (one ∷ rest) links others same = go (eqb one.ia x) (index_from-same (base + 1) x f rest links others same)
  where
    go : (here : Bool) → index_from (base + 1) rest others x ≡ option_map f (index_from (base + 1) rest links x) → cond here (Some (index_at base x others)) (index_from (base + 1) rest others x) ≡ option_map f (cond here (Some (index_at base x links)) (index_from (base + 1) rest links x))
    go true later = ap Some (same base)
    go false later = later

abbrev index_value : ℕ → List IfEntry → List ℕ → IndexValue
index_value position table places = record { position = position; table = table; places = places }

index_at-table : (position x place : ℕ) (up : Bool) (links : List Link) (table : List IfEntry) → table_of x (set_from 0 place up links) ≡ table → index_at position x (set_from 0 place up links) ≡ index_value position table (places_of 0 x links)
index_at-table position x place up links table is =
    ap (λ (t : List IfEntry). index_value position t (places_of 0 x (set_from 0 place up links))) is
    ∙ ap (λ (p : List ℕ). index_value position table p) (places_of-set_from 0 x place 0 up links)

-- ---- the first link at an end

any_at : (f : Link → Bool) (links : List Link) (k : ℕ) (link : Link) → slice_get links k ≡ Some link → f link ≡ true → list_any f links ≡ true
any_at f [] k link found passes = absurd cc
any_at f (first ∷ links) zero link found passes = let same : first ≡ link = cc in or_left (f first) (list_any f links) (rw same passes)
any_at f (first ∷ links) (suc k) link found passes = or_right (f first) (list_any f links) (any_at f links k link found passes)

-- a link that ends at an interface is the first to do so
first_at_end : (links : List Link) (k x m : ℕ) (link : Link) → joins_twice links ≡ false → slice_get links k ≡ Some link → has_end link x m ≡ true → position (λ l. has_end l x m) links ≡ Some k
unfolding joins_twice
first_at_end [] k x m link once found ends = absurd cc
first_at_end (first ∷ rest) zero x m link once found ends =
    let same : first ≡ link = cc in
    let here : has_end first x m ≡ true = rw same ends in
    rw (position-cons (λ l. has_end l x m) first rest, here) refl
first_at_end (first ∷ rest) (suc k) x m link once found ends =
    let at_a = or_parts (stands rest first.a) (stands rest first.b || joins_twice rest) once in
    let at_b = or_parts (stands rest first.b) (joins_twice rest) at_a.1 in
    let there = any_at (λ l. has_end l x m) rest k link found ends in
    elim (cases_Bool (has_end first x m)) [
      | inl hit ↦ elim (ends_stand first rest x m hit there) [
        | inl twice ↦ absurd (true≢false (sym twice ∙ at_a.0))
        | inr twice ↦ absurd (true≢false (sym twice ∙ at_b.0))
      ]
      | inr miss ↦ (
          let next : 1 + k ≡ suc k = omega arith in
          rw (position-cons (λ l. has_end l x m) first rest, miss, first_at_end rest k x m link at_b.1 found ends, next) refl)
    ]

-- the table of an AS at an end of the link is the one before with the interface there marked
table_at_end : (n : Network) (place x m : ℕ) (up : Bool) (link : Link) → IsNetwork n → slice_get n.links place ≡ Some link → has_end link x m ≡ true → table_of x (set_from 0 place up n.links) ≡ marked_table m up (table_of x n.links)
table_at_end n place x m up link network found ends =
    let first = first_at_end n.links place x m link (IsFree-IsNetwork n network).interfaces found ends in
    let zero_place : 0 + place ≡ place = omega arith in
    let same : with_up up x m n.links ≡ set_from 0 place up n.links = rw zero_place at (with_up-set_from 0 x m place up n.links first) in
    rw (← same) (table_of-with_up x m up n.links (network_apart n network))

pub index_at_end : (n : Network) (place x m : ℕ) (up : Bool) (link : Link) → IsNetwork n → slice_get n.links place ≡ Some link → has_end link x m ≡ true → index_from 0 n.ases (set_from 0 place up n.links) x ≡ option_map (with_state m up) (index_from 0 n.ases n.links x)
index_at_end n place x m up link network found ends =
    index_from-same 0 x (with_state m up) n.ases n.links (set_from 0 place up n.links)
    (λ position. index_at-table position x place up n.links (marked_table m up (table_of x n.links)) (table_at_end n place x m up link network found ends))

as_it_is : (o : Option IndexValue) → option_map (λ (index : IndexValue). index) o ≡ o
as_it_is None = refl
as_it_is (Some index) = refl

index_elsewhere : (n : Network) (place x : ℕ) (up : Bool) → Misses 0 x place n.links → index_from 0 n.ases (set_from 0 place up n.links) x ≡ index_from 0 n.ases n.links x
index_elsewhere n place x up misses =
    index_from-same 0 x (λ index. index) n.ases n.links (set_from 0 place up n.links)
    (λ position. index_at-table position x place up n.links (table_of x n.links) (table_of-misses 0 x place up n.links misses))
    ∙ as_it_is (index_from 0 n.ases n.links x)

-- a link is not between an AS and itself
apart_at : (links : List Link) (k : ℕ) (link : Link) → are_apart links ≡ true → slice_get links k ≡ Some link → eqb link.a.ia link.b.ia ≡ false
apart_at [] k link apart found = absurd cc
apart_at (first ∷ links) zero link apart found =
    let parts = and_parts (not (eqb first.a.ia first.b.ia)) (are_apart links) apart in
    let same : first ≡ link = cc in
    rw (← same) (not-true _ parts.0)
apart_at (first ∷ links) (suc k) link apart found =
    let parts = and_parts (not (eqb first.a.ia first.b.ia)) (are_apart links) apart in
    apart_at links k link parts.1 found

misses_others : (place x : ℕ) (links : List Link) (link : Link) → slice_get links place ≡ Some link → x ≢ link.a.ia → x ≢ link.b.ia → Misses 0 x place links
misses_others place x links link found not_a not_b k other at same =
    let place_is : k ≡ place = omega arith in
    let also : slice_get links place ≡ Some other = rw (← place_is) at in
    let is : other ≡ link = cc in
    rw (is, ne_eqb link.a.ia x (λ e. not_a (sym e)), ne_eqb link.b.ia x (λ e. not_b (sym e))) refl

-- the indexes after the two ends of the link were marked are those of the network with the link
-- changed
pub marked_twice : (place : ℕ) (up : Bool) (n : Network) (link : Link) (first second third : ℕ → Option IndexValue)
    → IsNetwork n → slice_get n.links place ≡ Some link
    → ((x : ℕ) → first x ≡ index_from 0 n.ases n.links x)
    → ((x : ℕ) → second x ≡ cond (eqb x link.a.ia) (option_map (with_state link.a.number up) (first x)) (first x))
    → ((x : ℕ) → third x ≡ cond (eqb x link.b.ia) (option_map (with_state link.b.number up) (second x)) (second x))
    → (x : ℕ) → third x ≡ index_from 0 n.ases (set_from 0 place up n.links) x
marked_twice place up n link first second third network found at_first at_second at_third x =
    let apart = apart_at n.links place link (network_apart n network) found in
    elim (cases_eq x link.a.ia) [
      | inl is_a ↦ (
          let hit = eq-eqb x link.a.ia is_a in
          let miss : eqb x link.b.ia ≡ false = ap (λ y. eqb y link.b.ia) is_a ∙ apart in
          let ends : has_end link x link.a.number ≡ true = rw is_a (ends_at_a link) in
          at_third x ∙ rw (miss, at_second x, hit, at_first x) (sym (index_at_end n place x link.a.number up link network found ends)))
      | inr not_a ↦ elim (cases_eq x link.b.ia) [
        | inl is_b ↦ (
            let hit = eq-eqb x link.b.ia is_b in
            let ends : has_end link x link.b.number ≡ true = rw is_b (ends_at_b link) in
            at_third x ∙ rw (hit, at_second x, ne_eqb x link.a.ia not_a, at_first x) (sym (index_at_end n place x link.b.number up link network found ends)))
        | inr not_b ↦ at_third x ∙ rw (ne_eqb x link.b.ia not_b, at_second x, ne_eqb x link.a.ia not_a, at_first x) (sym (index_elsewhere n place x up (misses_others place x n.links link found not_a not_b)))
      ]
    ]
