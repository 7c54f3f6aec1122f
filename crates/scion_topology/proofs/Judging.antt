-- The rules of a network hold exactly where its tests find no cause against it.
use Rattle.std.proofs.Common.{◌≡◌, ◌≢◌, ℕ, zero, suc, ◌/◌, ◌%◌, ◌^◌, ◌<◌, ◌≤◌, Bool, true, false, cond, eqb, ltb, leb, not, ◌||◌, List, [], ◌∷◌, length, get_or, All, AllPairs, Contains, Option, Some, None, refl, sym, ap, ◌∙◌, arith, inl, inr}
use Rattle.std.specs.List.{list_all, list_any}
use Rattle.std.specs.Option.{option_map_or}
use Rattle.std.proofs.lemmas.Bool.{cases_Bool, or_parts, or_from, and_parts, and_from, not-true, not-false, not_from_true, not_from_false, eqb-true, eq-eqb, ne_eqb, ltb-true, ltb-false, lt-ltb, le-ltb, leb-true, leb-false, le-leb, lt-leb, true≢false, false_from_ne_true}
use Rattle.std.proofs.lemmas.List.Folds.{list_any_none}
use Rattle.std.proofs.lemmas.List.Kept.{AllPairs-cons}
use Rattle.scion_topology.specs.declared.fault.TopologyFault.{TopologyFault}
use Rattle.scion_topology.specs.declared.network.AsEntry.{AsEntry}
use Rattle.scion_topology.specs.declared.network.End.{End}
use Rattle.scion_topology.specs.declared.network.Link.{Link}
use Rattle.scion_topology.specs.declared.network.LinkClass.{LinkClass}
use Rattle.scion_topology.specs.declared.network.LinkClass.TheVariants.{Core, Child}
use Rattle.scion_topology.specs.inner.Keys.{are_keys}
use Rattle.scion_topology.specs.Network.{Network, IsPlain, is_wildcard, as_named, has_end, is_end}
use Rattle.scion_topology.specs.Rules.{IsAs, Joins, IsLink, ends_of, AreTwo, IsNetwork, IsNumbered}
use Rattle.scion_topology.specs.Causes.{is_too_many, is_listed, lists_twice, has_unknown_end, lacks_router, has_no_router, is_core, is_ill_classed, is_ill_joined, stands, joins_twice, cause_of}
use Rattle.scion_topology.specs.inner.Causes.{is_as, is_link}
use Rattle.scion_topology.proofs.Deciding.{apart, apart_test, each_fails, All-cons, All-rest, All-first, All-from_list_all, list_all-from_All}
use Rattle.scion_topology.proofs.KeyTests.{AreKeys-are_keys, are_keys-AreKeys}

guard_none : (b : Bool) (f : TopologyFault) (r : Option TopologyFault) → cond b (Some f) r ≡ None → (b ≡ false) × (r ≡ None)
guard_none true f r e = absurd cc
guard_none false f r e = (refl, e)

-- what a network is free of
pub record IsFree (ases : List AsEntry) (links : List Link) : Type 0 where
  pub few : is_too_many ases links ≡ false
  pub once : lists_twice ases ≡ false
  pub known_ends : list_any (λ link. has_unknown_end ases link) links ≡ false
  pub routers : list_any (λ link. has_no_router ases link) links ≡ false
  pub classes : list_any (λ link. is_ill_joined ases link) links ≡ false
  pub interfaces : joins_twice links ≡ false

pub IsFree-cause_of : (ases : List AsEntry) (links : List Link) → cause_of ases links ≡ None → IsFree ases links
unfolding cause_of
IsFree-cause_of ases links none =
    let a = guard_none (is_too_many ases links) _ _ none in
    let b = guard_none (lists_twice ases) _ _ a.1 in
    let c = guard_none (list_any (λ link. has_unknown_end ases link) links) _ _ b.1 in
    let d = guard_none (list_any (λ link. has_no_router ases link) links) _ _ c.1 in
    let e = guard_none (list_any (λ link. is_ill_joined ases link) links) _ _ d.1 in
    let f = guard_none (joins_twice links) _ _ e.1 in
    record { few = a.0; once = b.0; known_ends = c.0; routers = d.0; classes = e.0; interfaces = f.0 }

pub cause_of-IsFree : (ases : List AsEntry) (links : List Link) → IsFree ases links → cause_of ases links ≡ None
unfolding cause_of
cause_of-IsFree ases links free =
    rw (free.few, free.once, free.known_ends, free.routers, free.classes, free.interfaces) refl

-- what the tests say of a network
pub record IsJudged (n : Network) : Type 0 where
  pub ases : list_all is_as n.ases ≡ true
  pub links : list_all is_link n.links ≡ true
  pub cause : cause_of n.ases n.links ≡ None

-- ---- an AS, and a link by itself

pub IsPlain-is_wildcard : (ia : ℕ) → is_wildcard ia ≡ false → IsPlain ia
IsPlain-is_wildcard ia plain =
    let parts = or_parts (eqb (ia / 2 ^ 48) 0) (eqb (ia % 2 ^ 48) 0) plain in
    (apart _ _ parts.0, apart _ _ parts.1)

pub is_wildcard-IsPlain : (ia : ℕ) → IsPlain ia → is_wildcard ia ≡ false
is_wildcard-IsPlain ia plain = or_from _ _ (apart_test _ _ plain.0) (apart_test _ _ plain.1)

pub IsAs-is_as : (one : AsEntry) → is_as one ≡ true → IsAs one
IsAs-is_as one passed =
    let a = and_parts (not (is_wildcard one.ia)) _ passed in
    let b = and_parts (leb 1 one.routers) _ a.1 in
    let c = and_parts (leb one.routers 64) (are_keys one.keys) b.1 in
    record {
      plain = IsPlain-is_wildcard one.ia (not-true _ a.0);
      some_router = leb-true 1 one.routers b.0;
      few_routers = leb-true one.routers 64 c.0;
      keys = AreKeys-are_keys one.keys c.1;
    }

pub is_as-IsAs : (one : AsEntry) → IsAs one → is_as one ≡ true
is_as-IsAs one is =
    and_from _ _ (not_from_false _ (is_wildcard-IsPlain one.ia is.plain))
    (and_from _ _ (le-leb 1 one.routers is.some_router)
    (and_from _ _ (le-leb one.routers 64 is.few_routers) (are_keys-AreKeys one.keys is.keys)))

pub IsNumbered-is_link : (link : Link) → is_link link ≡ true → IsNumbered link
IsNumbered-is_link link passed =
    let parts = and_parts (ltb 0 link.a.number) (ltb 0 link.b.number) passed in
    let a = ltb-true 0 link.a.number parts.0 in
    let b = ltb-true 0 link.b.number parts.1 in
    (λ e. omega arith, λ e. omega arith)

pub is_link-IsNumbered : (link : Link) → IsNumbered link → is_link link ≡ true
is_link-IsNumbered link some =
    let not_a : link.a.number ≢ 0 = some.0 in
    let not_b : link.b.number ≢ 0 = some.1 in
    and_from _ _ (lt-ltb 0 link.a.number (omega arith)) (lt-ltb 0 link.b.number (omega arith))

-- ---- the AS of an address

pub ia_of_named : (ases : List AsEntry) (ia : ℕ) (one : AsEntry) → as_named ases ia ≡ Some one → one.ia ≡ ia
ia_of_named [] ia one found = absurd cc
ia_of_named (first ∷ rest) ia one found = elim (cases_Bool (eqb first.ia ia)) [
  | inl here ↦ (let now : cond true (Some first) (as_named rest ia) ≡ Some one = rw here at found in let same : first ≡ one = cc in rw (← same) (eqb-true first.ia ia here))
  | inr other ↦ (let later : cond false (Some first) (as_named rest ia) ≡ Some one = rw other at found in ia_of_named rest ia one later)
]

pub listed_of_named : (ases : List AsEntry) (ia : ℕ) (one : AsEntry) → as_named ases ia ≡ Some one → Contains ases one
listed_of_named [] ia one found = absurd cc
listed_of_named (first ∷ rest) ia one found = elim (cases_Bool (eqb first.ia ia)) [
  | inl here ↦ (let now : cond true (Some first) (as_named rest ia) ≡ Some one = rw here at found in let same : first ≡ one = cc in (zero, omega arith, same))
  | inr other ↦ (
      let later : cond false (Some first) (as_named rest ia) ≡ Some one = rw other at found in
      let r = listed_of_named rest ia one later in
      let below : r.0 < length rest = r.1 in
      (suc r.0, omega arith, r.2))
]

pub listed_known : (ases : List AsEntry) (ia : ℕ) → is_listed ases ia ≡ true → (one : AsEntry) × (as_named ases ia ≡ Some one)
listed_known [] ia listed = absurd cc
listed_known (first ∷ rest) ia listed = elim (cases_Bool (eqb first.ia ia)) [
  | inl here ↦ (first, rw here refl)
  | inr other ↦ (let later : (false || is_listed rest ia) ≡ true = rw other at listed in let r = listed_known rest ia later in (r.0, rw other r.1))
]

-- an AS of a list in which each stands once is the one of its address
named_at : (ases : List AsEntry) (one : AsEntry) (k : ℕ) → AllPairs (λ x y. x.ia ≢ y.ia) ases → k < length ases → get_or ases k one ≡ one → as_named ases one.ia ≡ Some one
named_at [] one k once below at = absurd (omega arith)
named_at (first ∷ rest) one zero once below at =
    let same : eqb first.ia one.ia ≡ true = eq-eqb first.ia one.ia (ap (λ (x : AsEntry). x.ia) at) in
    rw same (ap Some at)
named_at (first ∷ rest) one (suc k) once below at =
    let other : first.ia ≢ one.ia = λ same. once zero (suc k) one (omega arith) below (same ∙ ap (λ (x : AsEntry). x.ia) (sym at)) in
    rw (apart_test first.ia one.ia other)
    (named_at rest one k (λ i j d before inside. once (suc i) (suc j) d (omega arith) (omega arith)) (omega arith) at)

pub named_listed : (ases : List AsEntry) (one : AsEntry) → AllPairs (λ x y. x.ia ≢ y.ia) ases → Contains ases one → as_named ases one.ia ≡ Some one
named_listed ases one once there = named_at ases one there.0 once there.1 there.2

-- ---- each AS once, and each interface

once_of : (ases : List AsEntry) → lists_twice ases ≡ false → AllPairs (λ one other. one.ia ≢ other.ia) ases
unfolding lists_twice
once_of [] none = λ i j d before below. absurd (omega arith)
once_of (one ∷ rest) none =
    let parts = or_parts (is_listed rest one.ia) (lists_twice rest) none in
    let others : All (λ other. one.ia ≢ other.ia) rest = λ k d below same. apart _ _ (each_fails (λ other. eqb other.ia one.ia) rest parts.0 k d below) (sym same) in
    AllPairs-cons (λ one other. one.ia ≢ other.ia) one rest others (once_of rest parts.1)

not_twice : (ases : List AsEntry) → AllPairs (λ one other. one.ia ≢ other.ia) ases → lists_twice ases ≡ false
unfolding lists_twice
not_twice [] once = refl
not_twice (one ∷ rest) once =
    or_from (is_listed rest one.ia) (lists_twice rest)
    (list_any_none (λ other. eqb other.ia one.ia) rest (λ k d below. apart_test _ _ (λ same. once zero (suc k) d (omega arith) (omega arith) (sym same))))
    (not_twice rest (λ i j d before below. once (suc i) (suc j) d (omega arith) (omega arith)))

-- an end at which no link of the list ends is none of theirs
not_end : (end : End) (ia number : ℕ) → is_end end ia number ≡ false → ¬ ((ia ≡ end.ia) × (number ≡ end.number))
not_end end ia number not both = true≢false (sym (and_from _ _ (eq-eqb end.ia ia (sym both.0)) (eq-eqb end.number number (sym both.1))) ∙ not)

two_from : (end : End) (links : List Link) → stands links end ≡ false → All (AreTwo end) (ends_of links)
two_from end [] none = λ k d below. absurd (omega arith)
two_from end (link ∷ links) none =
    let parts = or_parts (has_end link end.ia end.number) (stands links end) none in
    let ends = or_parts (is_end link.a end.ia end.number) (is_end link.b end.ia end.number) parts.0 in
    All-cons (AreTwo end) link.a (link.b ∷ ends_of links) (not_end link.a end.ia end.number ends.0)
    (All-cons (AreTwo end) link.b (ends_of links) (not_end link.b end.ia end.number ends.1) (two_from end links parts.1))

pub interfaces_of : (links : List Link) → All (λ link. link.a.ia ≢ link.b.ia) links → joins_twice links ≡ false → AllPairs AreTwo (ends_of links)
unfolding joins_twice
interfaces_of [] apart none = λ i j d before below. absurd (omega arith)
interfaces_of (link ∷ links) apart none =
    let first = or_parts (stands links link.a) (stands links link.b || joins_twice links) none in
    let second = or_parts (stands links link.b) (joins_twice links) first.1 in
    let not_loop : link.a.ia ≢ link.b.ia = All-first (λ l. l.a.ia ≢ l.b.ia) link links apart in
    AllPairs-cons AreTwo link.a (link.b ∷ ends_of links)
    (All-cons (AreTwo link.a) link.b (ends_of links) (λ both. not_loop both.0) (two_from link.a links first.0))
    (AllPairs-cons AreTwo link.b (ends_of links) (two_from link.b links second.0) (interfaces_of links (All-rest (λ l. l.a.ia ≢ l.b.ia) link links apart) second.1))

no_end : (end : End) (ia number : ℕ) → ¬ ((ia ≡ end.ia) × (number ≡ end.number)) → is_end end ia number ≡ false
no_end end ia number two = false_from_ne_true _ (λ is. let parts = and_parts (eqb end.ia ia) (eqb end.number number) is in two (sym (eqb-true end.ia ia parts.0), sym (eqb-true end.number number parts.1)))

none_from : (end : End) (links : List Link) → All (AreTwo end) (ends_of links) → stands links end ≡ false
none_from end [] two = refl
none_from end (link ∷ links) two =
    let after = All-rest (AreTwo end) link.a (link.b ∷ ends_of links) two in
    or_from (has_end link end.ia end.number) (stands links end)
    (or_from _ _ (no_end link.a end.ia end.number (All-first (AreTwo end) link.a (link.b ∷ ends_of links) two)) (no_end link.b end.ia end.number (All-first (AreTwo end) link.b (ends_of links) after)))
    (none_from end links (All-rest (AreTwo end) link.b (ends_of links) after))

rest_pairs : {X : Type 0} (R : X → X → Type 0) (x : X) (xs : List X) → AllPairs R (x ∷ xs) → AllPairs R xs
rest_pairs R x xs all = λ i j d before below. all (suc i) (suc j) d (omega arith) (omega arith)

first_pairs : {X : Type 0} (R : X → X → Type 0) (x : X) (xs : List X) → AllPairs R (x ∷ xs) → All (R x) xs
first_pairs R x xs all = λ k d below. all zero (suc k) d (omega arith) (omega arith)

not_joined_twice : (links : List Link) → AllPairs AreTwo (ends_of links) → joins_twice links ≡ false
unfolding joins_twice
not_joined_twice [] two = refl
not_joined_twice (link ∷ links) two =
    let later = rest_pairs AreTwo link.a (link.b ∷ ends_of links) two in
    let of_a = All-rest (AreTwo link.a) link.b (ends_of links) (first_pairs AreTwo link.a (link.b ∷ ends_of links) two) in
    or_from (stands links link.a) (stands links link.b || joins_twice links) (none_from link.a links of_a)
    (or_from (stands links link.b) (joins_twice links) (none_from link.b links (first_pairs AreTwo link.b (ends_of links) later))
    (not_joined_twice links (rest_pairs AreTwo link.b (ends_of links) later)))

-- ---- a link

pub has_router : (ases : List AsEntry) (end : End) (ia : ℕ) (one : AsEntry) → lacks_router ases end ≡ false → end.ia ≡ ia → as_named ases ia ≡ Some one → end.router < one.routers
has_router ases end ia one lacks at named =
    let test : leb one.routers end.router ≡ false = (let f : option_map_or (λ (o : AsEntry). leb o.routers end.router) (as_named ases ia) false ≡ false = rw at at lacks in rw named at f) in
    leb-false one.routers end.router test

core_is : (ases : List AsEntry) (ia : ℕ) (one : AsEntry) → as_named ases ia ≡ Some one → is_core ases ia ≡ one.core
core_is ases ia one named = rw named refl

joins_from : (ases : List AsEntry) (class : LinkClass) (a b : ℕ) (one other : AsEntry) → as_named ases a ≡ Some one → as_named ases b ≡ Some other → is_ill_classed ases class a b ≡ false → Joins class one other
joins_from ases Core a b one other at_a at_b well =
    let parts = or_parts (not (is_core ases a)) (not (is_core ases b)) well in
    (sym (core_is ases a one at_a) ∙ not-false _ parts.0, sym (core_is ases b other at_b) ∙ not-false _ parts.1)
joins_from ases Child a b one other at_a at_b well =
    let parts = or_parts (not (eqb (a / 2 ^ 48) (b / 2 ^ 48))) (is_core ases b) well in (
      ap (λ x. x / 2 ^ 48) (ia_of_named ases a one at_a) ∙ eqb-true _ _ (not-false _ parts.0) ∙ ap (λ x. x / 2 ^ 48) (sym (ia_of_named ases b other at_b)),
      sym (core_is ases b other at_b) ∙ parts.1,
    )

well_classed : (ases : List AsEntry) (class : LinkClass) (a b : ℕ) (one other : AsEntry) → as_named ases a ≡ Some one → as_named ases b ≡ Some other → Joins class one other → is_ill_classed ases class a b ≡ false
well_classed ases Core a b one other at_a at_b joins =
    or_from _ _ (not_from_true _ (core_is ases a one at_a ∙ joins.0)) (not_from_true _ (core_is ases b other at_b ∙ joins.1))
well_classed ases Child a b one other at_a at_b joins =
    let isd : a / 2 ^ 48 ≡ b / 2 ^ 48 = ap (λ x. x / 2 ^ 48) (sym (ia_of_named ases a one at_a)) ∙ joins.0 ∙ ap (λ x. x / 2 ^ 48) (ia_of_named ases b other at_b) in
    or_from _ _ (not_from_true _ (eq-eqb _ _ isd)) (core_is ases b other at_b ∙ joins.1)

link_from : (ases : List AsEntry) (link : Link) → is_link link ≡ true → has_unknown_end ases link ≡ false → has_no_router ases link ≡ false → is_ill_joined ases link ≡ false → IsLink ases link
link_from ases link numbered known routed known_link =
    let some = IsNumbered-is_link link numbered in
    let ends = or_parts (not (is_listed ases link.a.ia)) (not (is_listed ases link.b.ia)) known in
    let a = listed_known ases link.a.ia (not-false _ ends.0) in
    let b = listed_known ases link.b.ia (not-false _ ends.1) in
    let routers = or_parts (lacks_router ases link.a) (lacks_router ases link.b) routed in
    let classed = or_parts (eqb link.a.ia link.b.ia) (is_ill_classed ases link.class link.a.ia link.b.ia) known_link in
    record {
      one = a.0;
      other = b.0;
      one_listed = listed_of_named ases link.a.ia a.0 a.1;
      other_listed = listed_of_named ases link.b.ia b.0 b.1;
      a = record { of = sym (ia_of_named ases link.a.ia a.0 a.1); numbered = some.0; router = has_router ases link.a link.a.ia a.0 routers.0 refl a.1 };
      b = record { of = sym (ia_of_named ases link.b.ia b.0 b.1); numbered = some.1; router = has_router ases link.b link.b.ia b.0 routers.1 refl b.1 };
      apart = apart _ _ classed.0;
      joins = joins_from ases link.class link.a.ia link.b.ia a.0 b.0 a.1 b.1 classed.1;
    }

-- the two ASes of a link, found by its ends
pub record AreNamed (ases : List AsEntry) (link : Link) (is : IsLink ases link) : Type 0 where
  pub a : as_named ases link.a.ia ≡ Some is.one
  pub b : as_named ases link.b.ia ≡ Some is.other

pub are_named : (ases : List AsEntry) (link : Link) (is : IsLink ases link) → AllPairs (λ x y. x.ia ≢ y.ia) ases → AreNamed ases link is
are_named ases link is once = record {
  a = ap (as_named ases) is.a.of ∙ named_listed ases is.one once is.one_listed;
  b = ap (as_named ases) is.b.of ∙ named_listed ases is.other once is.other_listed;
}

listed_is : (ases : List AsEntry) (ia : ℕ) (one : AsEntry) → as_named ases ia ≡ Some one → is_listed ases ia ≡ true
listed_is [] ia one named = absurd cc
listed_is (first ∷ rest) ia one named = elim (cases_Bool (eqb first.ia ia)) [
  | inl here ↦ rw here refl
  | inr other ↦ (let later : cond false (Some first) (as_named rest ia) ≡ Some one = rw other at named in rw other (listed_is rest ia one later))
]

not_lacking : (ases : List AsEntry) (end : End) (one : AsEntry) → as_named ases end.ia ≡ Some one → end.router < one.routers → lacks_router ases end ≡ false
not_lacking ases end one named below = rw named (lt-leb one.routers end.router below)

-- ---- both

at_each : (links : List Link) (f : Link → Bool) → list_any f links ≡ false → (k : ℕ) (d : Link) → k < length links → f (get_or links k d) ≡ false
at_each links f none k d below = each_fails f links none k d below

links_from : (ases : List AsEntry) (links : List Link) → list_all is_link links ≡ true → IsFree ases links → All (IsLink ases) links
links_from ases links numbered free = λ k d below.
    link_from ases (get_or links k d) (All-from_list_all is_link (λ l. is_link l ≡ true) (λ l e. e) links numbered k d below)
    (at_each links (λ l. has_unknown_end ases l) free.known_ends k d below)
    (at_each links (λ l. has_no_router ases l) free.routers k d below)
    (at_each links (λ l. is_ill_joined ases l) free.classes k d below)

-- what passes the tests keeps the rules
pub rules_from : (n : Network) → IsJudged n → IsNetwork n
rules_from n judged =
    let free = IsFree-cause_of n.ases n.links judged.cause in
    let some = or_parts (eqb (length n.ases) 0) (ltb 1024 (length n.ases) || ltb 4096 (length n.links)) free.few in
    let few = or_parts (ltb 1024 (length n.ases)) (ltb 4096 (length n.links)) some.1 in
    let not_none : length n.ases ≢ 0 = apart _ _ some.0 in
    let links = links_from n.ases n.links judged.links free in
    record {
      some_as = omega arith;
      few_ases = ltb-false 1024 (length n.ases) few.0;
      few_links = ltb-false 4096 (length n.links) few.1;
      ases = All-from_list_all is_as IsAs IsAs-is_as n.ases judged.ases;
      once = once_of n.ases free.once;
      links = links;
      interfaces = interfaces_of n.links (λ k d below. (links k d below).apart) free.interfaces;
    }

-- and what keeps the rules passes the tests
pub IsFree-IsNetwork : (n : Network) → IsNetwork n → IsFree n.ases n.links
IsFree-IsNetwork n network =
    let some : 1 ≤ length n.ases = network.some_as in
    record {
      few = or_from _ _ (ne_eqb (length n.ases) 0 (λ e. omega arith)) (or_from _ _ (le-ltb 1024 (length n.ases) network.few_ases) (le-ltb 4096 (length n.links) network.few_links));
      once = not_twice n.ases network.once;
      known_ends = list_any_none (λ link. has_unknown_end n.ases link) n.links (λ k d below. (
          let named = are_named n.ases (get_or n.links k d) (network.links k d below) network.once in
          or_from _ _ (not_from_true _ (listed_is n.ases _ _ named.a)) (not_from_true _ (listed_is n.ases _ _ named.b))));
      routers = list_any_none (λ link. has_no_router n.ases link) n.links (λ k d below. (
          let link = get_or n.links k d in
          let is = network.links k d below in
          let named = are_named n.ases link is network.once in
          or_from _ _ (not_lacking n.ases link.a is.one named.a is.a.router) (not_lacking n.ases link.b is.other named.b is.b.router)));
      classes = list_any_none (λ link. is_ill_joined n.ases link) n.links (λ k d below. (
          let link = get_or n.links k d in
          let is = network.links k d below in
          let named = are_named n.ases link is network.once in
          or_from _ _ (apart_test _ _ is.apart) (well_classed n.ases link.class link.a.ia link.b.ia is.one is.other named.a named.b is.joins)));
      interfaces = not_joined_twice n.links network.interfaces;
    }

pub judged : (n : Network) → IsNetwork n → IsJudged n
judged n network = record {
  ases = list_all-from_All is_as IsAs is_as-IsAs n.ases network.ases;
  links = list_all-from_All is_link IsNumbered is_link-IsNumbered n.links (λ k d below. ((network.links k d below).a.numbered, (network.links k d below).b.numbered));
  cause = cause_of-IsFree n.ases n.links (IsFree-IsNetwork n network);
}

-- ---- the law

pub no_cause : (n : Network) → IsNetwork n → cause_of n.ases n.links ≡ None
no_cause n network = (judged n network).cause

pub rules_kept : (n : Network) → All IsAs n.ases → All IsNumbered n.links → cause_of n.ases n.links ≡ None → IsNetwork n
rules_kept n ases links cause = rules_from n (record {
  ases = list_all-from_All is_as IsAs is_as-IsAs n.ases ases;
  links = list_all-from_All is_link IsNumbered is_link-IsNumbered n.links links;
  cause = cause;
})
