-- What a network shows of its links: each at both ends, and each interface as an end of one.
use Rattle.std.proofs.Common.{◌≡◌, ℕ, zero, suc, ◌<◌, Bool, true, false, cond, eqb, ◌||◌, List, [], ◌∷◌, length, get_or, Contains, Option, Some, None, Ok, refl, sym, ap, ◌∙◌, subst, inl, inr, ◌⊎◌, arith}
use Rattle.std.specs.List.{list_any, cons_option}
use Rattle.std.proofs.lemmas.Bool.{cases_Bool, or_parts, or_cases, and_parts, and_from, eqb-true, eq-eqb, true≢false}
use Rattle.std.proofs.lemmas.Option.{same_Some}
use Rattle.std.proofs.lemmas.List.Folds.{list_any-from_Any}
use Rattle.scion_topology.specs.declared.entry.IfEntry.{IfEntry}
use Rattle.scion_topology.specs.declared.fault.TopologyFault.TheVariants as faults
use Rattle.scion_topology.specs.declared.network.AsEntry.{AsEntry}
use Rattle.scion_topology.specs.declared.network.Link.{Link}
use Rattle.scion_topology.specs.Network.{Network, as_named, is_end, has_end, link_named, interface_of, table_of, interface_in}
use Rattle.scion_topology.specs.Rules.{IsAs, IsLink}
use Rattle.scion_topology.specs.Causes.{stands, joins_twice}
use Rattle.scion_topology.specs.Topology.{IsNetwork, known_as, known_link, far_end, interface_at, far_end_in, owner_in}
use Rattle.scion_topology.specs.Ends.{IsAt, ShowsBothEnds, AreJoined, IsEndOf, at_a, at_b}
use Rattle.refusal.proofs.Steps.{bind_ok, ok_is, ok_or_ok}
use Rattle.scion_topology.proofs.Judging.{IsFree-IsNetwork, are_named, listed_of_named, ia_of_named}
use Rattle.scion_topology.proofs.Seeing.{entry_is}
use Rattle.scion_topology.proofs.Deciding.{apart_test}
use Rattle.scion_topology.proofs.Places.{network_apart}
use Rattle.scion_topology.proofs.Ends.{IsJoined-known_link, interface_in-table_of, seen_at_a, seen_at_b, sides, ends_at_a, ends_at_b}

stands_there : (links : List Link) (k : ℕ) (link : Link) (ia number : ℕ) → k < length links → get_or links k link ≡ link → has_end link ia number ≡ true → list_any (λ l. has_end l ia number) links ≡ true
stands_there links k link ia number within at ends = list_any-from_Any (λ l. has_end l ia number) links (k, link, within, at, ends)

not_both : (b : Bool) → b ≡ true → b ≡ false → ⊥
not_both b is is_not = true≢false (sym is ∙ is_not)

-- a link of the list is the one that is found at each of its ends
pub found_at : (links : List Link) (k : ℕ) (link : Link) (ia number : ℕ) → joins_twice links ≡ false → k < length links → get_or links k link ≡ link → has_end link ia number ≡ true → link_named links ia number ≡ Some link
unfolding joins_twice
found_at [] k link ia number once within at ends = absurd (omega arith)
found_at (first ∷ rest) zero link ia number once within at ends = let first_ends : has_end first ia number ≡ true = ap (λ (l : Link). has_end l ia number) at ∙ ends in rw first_ends (ap Some at)
found_at (first ∷ rest) (suc k) link ia number once within at ends =
    let inside : k < length rest = omega arith in
    let parts = or_parts (stands rest first.a) (stands rest first.b || joins_twice rest) once in
    let more = or_parts (stands rest first.b) (joins_twice rest) parts.1 in
    elim (cases_Bool (has_end first ia number)) [
      | inl here ↦ absurd (elim (or_cases (is_end first.a ia number) (is_end first.b ia number) here) [
        | inl side ↦ (
            let same = and_parts (eqb first.a.ia ia) (eqb first.a.number number) side in
            let a = eqb-true _ _ same.0 in
            let b = eqb-true _ _ same.1 in
            not_both (stands rest first.a) (ap (λ x. list_any (λ l. has_end l x first.a.number) rest) a ∙ ap (λ x. list_any (λ l. has_end l ia x) rest) b ∙ stands_there rest k link ia number inside at ends) parts.0)
        | inr side ↦ (
            let same = and_parts (eqb first.b.ia ia) (eqb first.b.number number) side in
            let a = eqb-true _ _ same.0 in
            let b = eqb-true _ _ same.1 in
            not_both (stands rest first.b) (ap (λ x. list_any (λ l. has_end l x first.b.number) rest) a ∙ ap (λ x. list_any (λ l. has_end l ia x) rest) b ∙ stands_there rest k link ia number inside at ends) more.0)
      ])
      | inr other ↦ rw other (found_at rest k link ia number more.1 inside at ends)
    ]

-- a link of a network keeps the rules of one
pub is_link_there : (n : Network) (link : Link) → IsNetwork n → Contains n.links link → IsLink n.ases link
is_link_there n link network there = subst (IsLink n.ases) there.2 (network.links there.0 link there.1)

-- every link of a network shows itself at both ends
pub shows_both_ends : (n : Network) (link : Link) → IsNetwork n → Contains n.links link → ShowsBothEnds n link
unfolding far_end_in owner_in
shows_both_ends n link network there =
    let free = IsFree-IsNetwork n network in
    let apart = network_apart n network in
    let is = is_link_there n link network there in
    let ones = are_named n.ases link is network.once in
    let named_a = found_at n.links there.0 link link.a.ia link.a.number free.interfaces there.1 there.2 (ends_at_a link) in
    let named_b = found_at n.links there.0 link link.b.ia link.b.number free.interfaces there.1 there.2 (ends_at_b link) in
    let two : eqb link.a.ia link.b.ia ≡ false = apart_test _ _ is.apart in
    let same_a : is_end link.a link.a.ia link.a.number ≡ true = and_from _ _ (eq-eqb link.a.ia link.a.ia refl) (eq-eqb link.a.number link.a.number refl) in
    let not_a : is_end link.a link.b.ia link.b.number ≡ false = rw two refl in
    let shown_a : interface_in (table_of link.a.ia n.links) link.a.number ≡ Some (at_a link) = interface_in-table_of link.a.ia link.a.number n.links link apart named_a ∙ seen_at_a link in
    let shown_b : interface_in (table_of link.b.ia n.links) link.b.number ≡ Some (at_b link) = interface_in-table_of link.b.ia link.b.number n.links link apart named_b ∙ seen_at_b link two in
    record {
      a = record { shown = rw (ones.a, shown_a) refl; owner = rw (ones.a, named_a, same_a) refl; leads = rw (ones.a, named_a, same_a) refl };
      b = record { shown = rw (ones.b, shown_b) refl; owner = rw (ones.b, named_b, not_a) refl; leads = rw (ones.b, named_b, not_a) refl };
    }

-- ---- a far end

pub listed_of_found : (links : List Link) (ia number : ℕ) (link : Link) → link_named links ia number ≡ Some link → Contains links link
listed_of_found [] ia number link found = absurd cc
listed_of_found (first ∷ rest) ia number link found = elim (cases_Bool (has_end first ia number)) [
  | inl here ↦ (let now : cond true (Some first) (link_named rest ia number) ≡ Some link = rw here at found in let same : first ≡ link = cc in (zero, omega arith, same))
  | inr other ↦ (
      let later : cond false (Some first) (link_named rest ia number) ≡ Some link = rw other at found in
      let r = listed_of_found rest ia number link later in
      let below : r.0 < length rest = r.1 in
      (suc r.0, omega arith, r.2))
]

pub are_joined : (n : Network) (ia number far_ia far_number : ℕ) → IsNetwork n → far_end_in n ia number ≡ Ok (far_ia, far_number) → AreJoined n ia number far_ia far_number
unfolding far_end_in
are_joined n ia number far_ia far_number network found =
    let at = bind_ok (known_link n ia number) _ (far_ia, far_number) found in
    let link = at.0 in
    let pair = ok_is ((far_end link ia number).ia, (far_end link ia number).number) (far_ia, far_number) at.2 in
    let ia_is : (far_end link ia number).ia ≡ far_ia = ap (λ (p : ℕ × ℕ). p.0) pair in
    let number_is : (far_end link ia number).number ≡ far_number = ap (λ (p : ℕ × ℕ). p.1) pair in
    let is = IsJoined-known_link n ia number link network at.1 in
    let side = sides link ia number is.ends in
    let sides_are : (IsAt link.a ia number × IsAt link.b far_ia far_number) ⊎ (IsAt link.b ia number × IsAt link.a far_ia far_number) = elim (cases_Bool (is_end link.a ia number)) [
      | inl here ↦ (
          let far : link.b.ia ≡ far_ia = (let f : (cond true link.b link.a).ia ≡ far_ia = rw here at ia_is in f) in
          let far_is : link.b.number ≡ far_number = (let f : (cond true link.b link.a).number ≡ far_number = rw here at number_is in f) in
          inl (side.at_a here, (far, far_is)))
      | inr other ↦ (
          let far : link.a.ia ≡ far_ia = (let f : (cond false link.b link.a).ia ≡ far_ia = rw other at ia_is in f) in
          let far_is : link.a.number ≡ far_number = (let f : (cond false link.b link.a).number ≡ far_number = rw other at number_is in f) in
          inr (side.at_b other, (far, far_is)))
    ] in
    record { link = link; listed = listed_of_found n.links ia number link is.named; ends = sides_are }

-- ---- an interface

-- an interface of a table is one by which a link ends
record IsOf (links : List Link) (ia number : ℕ) (entry : IfEntry) : Type 0 where
  pub link : Link
  pub listed : Contains links link
  pub by : interface_of ia link ≡ Some entry
  pub number_is : entry.number ≡ number

later_of : (first : Link) (rest : List Link) (ia number : ℕ) (entry : IfEntry) → IsOf rest ia number entry → IsOf (first ∷ rest) ia number entry
later_of first rest ia number entry of =
    let below : of.listed.0 < length rest = of.listed.1 in
    record { link = of.link; listed = (suc of.listed.0, omega arith, of.listed.2); by = of.by; number_is = of.number_is }

first_of_two : (first : Link) (rest : List Link) (ia number : ℕ) (entry : IfEntry) (o : Option IfEntry) → interface_of ia first ≡ o → interface_in (cons_option o (table_of ia rest)) number ≡ Some entry → (interface_in (table_of ia rest) number ≡ Some entry → IsOf rest ia number entry) → IsOf (first ∷ rest) ia number entry
first_of_two first rest ia number entry None is shown later = later_of first rest ia number entry (later shown)
first_of_two first rest ia number entry (Some e) is shown later = elim (cases_Bool (eqb e.number number)) [
  | inl here ↦ (
      let now : cond true (Some e) (interface_in (table_of ia rest) number) ≡ Some entry = rw here at shown in
      let same : e ≡ entry = same_Some e entry now in
      record { link = first; listed = (zero, omega arith, refl); by = is ∙ now; number_is = ap (λ (i : IfEntry). i.number) (sym same) ∙ eqb-true e.number number here })
  | inr other ↦ (let past : cond false (Some e) (interface_in (table_of ia rest) number) ≡ Some entry = rw other at shown in later_of first rest ia number entry (later past))
]

shown_by : (links : List Link) (ia number : ℕ) (entry : IfEntry) → interface_in (table_of ia links) number ≡ Some entry → IsOf links ia number entry
shown_by [] ia number entry shown = absurd cc
shown_by (first ∷ rest) ia number entry shown = first_of_two first rest ia number entry (interface_of ia first) refl shown (shown_by rest ia number entry)

pub is_end_of : (n : Network) (ia number : ℕ) (entry : IfEntry) → interface_at n ia number ≡ Ok entry → IsEndOf n ia number entry
is_end_of n ia number entry found =
    let step = bind_ok (known_as n ia) _ entry found in
    let of = shown_by n.links ia number entry (ok_or_ok _ faults.NoLink entry step.2) in
    let link = of.link in
    record {
      link = link;
      listed = of.listed;
      end = elim (entry_is (eqb link.a.ia ia) (eqb link.b.ia ia) (at_a link) (at_b link) entry of.by) [
        | inl at ↦ inl ((eqb-true link.a.ia ia at.0, ap (λ (i : IfEntry). i.number) at.1 ∙ of.number_is), sym at.1)
        | inr at ↦ inr ((eqb-true link.b.ia ia at.0, ap (λ (i : IfEntry). i.number) at.1 ∙ of.number_is), sym at.1)
      ];
    }

-- an AS of a network is right
pub right_as : (n : Network) (ia : ℕ) (one : AsEntry) → IsNetwork n → as_named n.ases ia ≡ Some one → IsAs one × (one.ia ≡ ia)
right_as n ia one network named =
    let there = listed_of_named n.ases ia one named in
    (subst IsAs there.2 (network.ases there.0 one there.1), ia_of_named n.ases ia one named)
