-- What a router sees of a network is a view: no wildcard, and each interface named once, none 0.
use Rattle.std.proofs.Common.{◌≡◌, ℕ, Bool, true, false, cond, eqb, ltb, not, List, [], ◌∷◌, Option, Some, None, Ok, refl, sym, ap, ◌∙◌, subst, arith, inl, inr, ◌⊎◌, ◌||◌}
use Rattle.std.specs.List.{list_all, list_any, cons_option}
use Rattle.std.proofs.lemmas.Bool.{cases_Bool, or_parts, or_from, and_parts, not-true, eqb-true, ltb-true, ne_eqb}
use Rattle.scion_topology.specs.declared.entry.IfEntry.{IfEntry}
use Rattle.scion_topology.specs.declared.network.AsEntry.{AsEntry}
use Rattle.scion_topology.specs.declared.network.Link.{Link}
use Rattle.scion_topology.specs.Building.{is_named, numbers_twice}
use Rattle.scion_topology.specs.Keys.{AreKeys}
use Rattle.scion_topology.specs.Rules.{IsAs}
use Rattle.scion_topology.specs.Network.{Network, is_wildcard, as_named, has_end, interface_of, table_of}
use Rattle.scion_topology.specs.Causes.{stands, joins_twice}
use Rattle.scion_topology.specs.inner.Causes.{is_as, is_link}
use Rattle.scion_topology.specs.Topology.{IsNetwork, known_as}
use Rattle.refusal.proofs.Steps.{ok_or_ok}
use Rattle.scion_topology.proofs.Judging.{IsFree-IsNetwork, judged, listed_of_named}
use Rattle.scion_topology.proofs.Places.{are_apart, is_numbered, ends_there, network_apart}

-- the address of an AS that was found is no wildcard
plain_found : (ases : List AsEntry) (ia : ℕ) (one : AsEntry) → list_all is_as ases ≡ true → as_named ases ia ≡ Some one → is_wildcard ia ≡ false
plain_found [] ia one all found = absurd cc
plain_found (first ∷ rest) ia one all found =
    let parts = and_parts (is_as first) (list_all is_as rest) all in
    elim (cases_Bool (eqb first.ia ia)) [
      | inl here ↦ (let same = eqb-true first.ia ia here in (let own = and_parts (not (is_wildcard first.ia)) _ parts.0 in rw (← same) (not-true (is_wildcard first.ia) own.0)))
      | inr other ↦ (let later : cond false (Some first) (as_named rest ia) ≡ Some one = rw other at found in plain_found rest ia one parts.1 later)
    ]

-- an interface of a link whose interfaces are not 0
some_number : (ia : ℕ) (link : Link) → is_link link ≡ true → is_numbered 0 (interface_of ia link) ≡ false
some_number ia link some =
    let parts = and_parts (ltb 0 link.a.number) (ltb 0 link.b.number) some in
    let above_a = ltb-true 0 link.a.number parts.0 in
    let above_b = ltb-true 0 link.b.number parts.1 in
    go (eqb link.a.ia ia) (eqb link.b.ia ia) _ _ (ne_eqb link.a.number 0 (λ e. omega arith)) (ne_eqb link.b.number 0 (λ e. omega arith))
  where
    go : (x y : Bool) (a b : IfEntry) → eqb a.number 0 ≡ false → eqb b.number 0 ≡ false → is_numbered 0 (cond x (Some a) (cond y (Some b) None)) ≡ false
    go true y a b p q = p
    go false true a b p q = q
    go false false a b p q = refl

named_first : (number : ℕ) (o : Option IfEntry) (table : List IfEntry) → is_numbered number o ≡ false → is_named number table ≡ false → is_named number (cons_option o table) ≡ false
named_first number None table a b = b
named_first number (Some e) table a b = or_from (eqb e.number number) (is_named number table) a b

none_zero : (ia : ℕ) (links : List Link) → list_all is_link links ≡ true → is_named 0 (table_of ia links) ≡ false
none_zero ia [] all = refl
none_zero ia (link ∷ links) all =
    let parts = and_parts (is_link link) (list_all is_link links) all in
    named_first 0 (interface_of ia link) (table_of ia links) (some_number ia link parts.0) (none_zero ia links parts.1)

-- an interface at which no link ends is in no table
none_there : (ia number : ℕ) (links : List Link) → are_apart links ≡ true → list_any (λ link. has_end link ia number) links ≡ false → is_named number (table_of ia links) ≡ false
none_there ia number [] apart none = refl
none_there ia number (link ∷ links) apart none =
    let parts = and_parts (not (eqb link.a.ia link.b.ia)) (are_apart links) apart in
    let ends = or_parts (has_end link ia number) (list_any (λ l. has_end l ia number) links) none in
    named_first number (interface_of ia link) (table_of ia links) (sym (ends_there ia number link parts.0) ∙ ends.0) (none_there ia number links parts.1 ends.1)

-- one more interface, which is not in the table yet
once_more : (o : Option IfEntry) (table : List IfEntry) → ((e : IfEntry) → o ≡ Some e → is_named e.number table ≡ false) → numbers_twice table ≡ false → numbers_twice (cons_option o table) ≡ false
unfolding numbers_twice
once_more None table new once = once
once_more (Some e) table new once = or_from (is_named e.number table) (numbers_twice table) (new e refl) once

pub entry_is : (x y : Bool) (a b e : IfEntry) → cond x (Some a) (cond y (Some b) None) ≡ Some e → ((x ≡ true) × (a ≡ e)) ⊎ ((y ≡ true) × (b ≡ e))
entry_is true y a b e h = inl (refl, cc)
entry_is false true a b e h = inr (refl, cc)
entry_is false false a b e h = absurd cc

none_twice : (ia : ℕ) (links : List Link) → are_apart links ≡ true → joins_twice links ≡ false → numbers_twice (table_of ia links) ≡ false
unfolding numbers_twice joins_twice
none_twice ia [] apart once = refl
none_twice ia (link ∷ links) apart once =
    let parts = and_parts (not (eqb link.a.ia link.b.ia)) (are_apart links) apart in
    let first = or_parts (stands links link.a) (stands links link.b || joins_twice links) once in
    let second = or_parts (stands links link.b) (joins_twice links) first.1 in
    let new : (e : IfEntry) → interface_of ia link ≡ Some e → is_named e.number (table_of ia links) ≡ false = λ e is. elim (entry_is (eqb link.a.ia ia) (eqb link.b.ia ia) _ _ e is) [
      | inl at ↦ (
          let same = eqb-true link.a.ia ia at.0 in
          let number : link.a.number ≡ e.number = ap (λ (i : IfEntry). i.number) at.1 in
          none_there ia e.number links parts.1 (rw (same, number) at first.0))
      | inr at ↦ (
          let same = eqb-true link.b.ia ia at.0 in
          let number : link.b.number ≡ e.number = ap (λ (i : IfEntry). i.number) at.1 in
          none_there ia e.number links parts.1 (rw (same, number) at second.0))
    ] in
    once_more (interface_of ia link) (table_of ia links) new (none_twice ia links parts.1 second.1)

-- what a view of a known AS is made of
pub record IsSeen (n : Network) (ia : ℕ) (one : AsEntry) : Type 0 where
  pub plain : is_wildcard ia ≡ false
  pub keys : AreKeys one.keys
  pub numbered : is_named 0 (table_of ia n.links) ≡ false
  pub once : numbers_twice (table_of ia n.links) ≡ false

pub IsSeen-known : (n : Network) (ia : ℕ) (one : AsEntry) → IsNetwork n → known_as n ia ≡ Ok one → IsSeen n ia one
IsSeen-known n ia one network found =
    let free = IsFree-IsNetwork n network in
    let apart = network_apart n network in
    let named = ok_or_ok (as_named n.ases ia) _ one found in
    record {
      plain = plain_found n.ases ia one (judged n network).ases named;
      keys = (let there = listed_of_named n.ases ia one named in (subst IsAs there.2 (network.ases there.0 one there.1)).keys);
      numbered = none_zero ia n.links (judged n network).links;
      once = none_twice ia n.links apart free.interfaces;
    }
