-- The two ends of a link: which is far, who owns them, and as what they see each other.
use Rattle.std.proofs.Common.{◌≡◌, ℕ, zero, suc, ◌<◌, Bool, true, false, cond, eqb, not, List, [], ◌∷◌, get_or, Contains, Option, Some, None, Ok, refl, sym, ap, subst, ◌∙◌, inl, inr, ◌⊎◌, ◌||◌, IfSome, IsSome, arith}
use Rattle.std.specs.List.{list_any, cons_option, position}
use Rattle.std.specs.Prelude.{slice_get}
use Rattle.std.specs.Result.{result_ok}
use Rattle.std.proofs.lemmas.List.Elements.{Contains-get_or}
use Rattle.std.proofs.lemmas.List.Quantifiers.{position-Some}
use Rattle.std.proofs.lemmas.Bool.{cases_Bool, or_parts, or_cases, and_parts, and_from, or_left, or_right, not-false, eqb-true, eq-eqb, true≢false}
use Rattle.scion_topology.specs.declared.entry.IfEntry.{IfEntry}
use Rattle.scion_topology.specs.declared.fault.TopologyFault.TheVariants as faults
use Rattle.scion_topology.specs.declared.network.AsEntry.{AsEntry}
use Rattle.scion_topology.specs.declared.network.End.{End}
use Rattle.scion_topology.specs.declared.network.Link.{Link}
use Rattle.scion_topology.specs.declared.network.LinkClass.{LinkClass}
use Rattle.scion_topology.specs.declared.network.LinkClass.TheVariants.{Core, Child}
use Rattle.scion_topology.specs.Network.{Network, as_named, is_end, has_end, link_named, kind_at_a, kind_at_b, end_as_interface, interface_of, table_of, mirrored_kind, interface_in}
use Rattle.scion_topology.specs.Causes.{is_listed, has_unknown_end, lacks_router, has_no_router, is_ill_joined, stands, joins_twice}
use Rattle.scion_topology.specs.Rules.{IsLink}
use Rattle.scion_topology.specs.inner.Index.{place_in}
use Rattle.scion_topology.specs.Topology.{IsNetwork, known_as, known_link, near_end, far_end, far_end_in, owner_in}
use Rattle.refusal.proofs.Steps.{bind_ok, ok_is, ok_or_ok}
use Rattle.scion_topology.proofs.Judging.{IsFree-IsNetwork, are_named, listed_known, has_router}
use Rattle.scion_topology.proofs.Tables.{position-cons}
use Rattle.scion_topology.proofs.Places.{are_apart, is_numbered, ends_there, network_apart}

-- a link that was found is in the list, and ends where it was looked for
pub found_ends : (links : List Link) (ia number : ℕ) (link : Link) → link_named links ia number ≡ Some link → has_end link ia number ≡ true
found_ends [] ia number link found = absurd cc
found_ends (first ∷ rest) ia number link found = elim (cases_Bool (has_end first ia number)) [
  | inl here ↦ (let now : cond true (Some first) (link_named rest ia number) ≡ Some link = rw here at found in let same : first ≡ link = cc in rw (← same) here)
  | inr other ↦ (let later : cond false (Some first) (link_named rest ia number) ≡ Some link = rw other at found in found_ends rest ia number link later)
]

-- what no link of the list passes, the one that was found does not pass
pub found_fails : (f : Link → Bool) (links : List Link) (ia number : ℕ) (link : Link) → link_named links ia number ≡ Some link → list_any f links ≡ false → f link ≡ false
found_fails f [] ia number link found none = absurd cc
found_fails f (first ∷ rest) ia number link found none =
    let parts = or_parts (f first) (list_any f rest) none in
    elim (cases_Bool (has_end first ia number)) [
      | inl here ↦ (let now : cond true (Some first) (link_named rest ia number) ≡ Some link = rw here at found in let same : first ≡ link = cc in rw (← same) parts.0)
      | inr other ↦ (let later : cond false (Some first) (link_named rest ia number) ≡ Some link = rw other at found in found_fails f rest ia number link later parts.1)
    ]

found_passes : (f : Link → Bool) (links : List Link) (ia number : ℕ) (link : Link) → link_named links ia number ≡ Some link → f link ≡ true → list_any f links ≡ true
found_passes f links ia number link found passes = elim (cases_Bool (list_any f links)) [
  | inl some ↦ some
  | inr none ↦ absurd (true≢false (sym passes ∙ found_fails f links ia number link found none))
]

-- a link that ends at an interface stands there
pub ends_stand : (first : Link) (rest : List Link) (ia number : ℕ) → has_end first ia number ≡ true → list_any (λ l. has_end l ia number) rest ≡ true → (stands rest first.a ≡ true) ⊎ (stands rest first.b ≡ true)
ends_stand first rest ia number here there = elim (or_cases (is_end first.a ia number) (is_end first.b ia number) here) [
  | inl at ↦ (let parts = and_parts (eqb first.a.ia ia) (eqb first.a.number number) at in inl (rw (eqb-true _ _ parts.0, eqb-true _ _ parts.1) there))
  | inr at ↦ (let parts = and_parts (eqb first.b.ia ia) (eqb first.b.number number) at in inr (rw (eqb-true _ _ parts.0, eqb-true _ _ parts.1) there))
]

-- a link is found by each of its ends
pub found_by_end : (links : List Link) (ia number x m : ℕ) (link : Link) → joins_twice links ≡ false → link_named links ia number ≡ Some link → has_end link x m ≡ true → link_named links x m ≡ Some link
unfolding joins_twice
found_by_end [] ia number x m link once found ends = absurd cc
found_by_end (first ∷ rest) ia number x m link once found ends =
    let at_a = or_parts (stands rest first.a) (stands rest first.b || joins_twice rest) once in
    let at_b = or_parts (stands rest first.b) (joins_twice rest) at_a.1 in
    elim (cases_Bool (has_end first ia number)) [
      | inl here ↦ (
          let now : cond true (Some first) (link_named rest ia number) ≡ Some link = rw here at found in
          let same : first ≡ link = cc in
          let hit : has_end first x m ≡ true = rw same ends in
          rw hit (ap Some same))
      | inr other ↦ (
          let later : link_named rest ia number ≡ Some link = (let f : cond false (Some first) (link_named rest ia number) ≡ Some link = rw other at found in f) in
          let there = found_passes (λ l. has_end l x m) rest ia number link later ends in
          elim (cases_Bool (has_end first x m)) [
            | inl hit ↦ elim (ends_stand first rest x m hit there) [
              | inl twice ↦ absurd (true≢false (sym twice ∙ at_a.0))
              | inr twice ↦ absurd (true≢false (sym twice ∙ at_b.0))
            ]
            | inr miss ↦ rw miss (found_by_end rest ia number x m link at_b.1 later ends)
          ])
    ]

-- ---- far and near

pub ends_at_a : (link : Link) → has_end link link.a.ia link.a.number ≡ true
ends_at_a link = or_left _ (is_end link.b link.a.ia link.a.number) (and_from _ _ (eq-eqb link.a.ia link.a.ia refl) (eq-eqb link.a.number link.a.number refl))

pub ends_at_b : (link : Link) → has_end link link.b.ia link.b.number ≡ true
ends_at_b link = or_right (is_end link.a link.b.ia link.b.number) _ (and_from _ _ (eq-eqb link.b.ia link.b.ia refl) (eq-eqb link.b.number link.b.number refl))

-- a link of a network, found by one end, is found by the other
pub joined_by_end : (n : Network) (ia number x m : ℕ) (link : Link) → IsNetwork n → known_link n ia number ≡ Ok link → has_end link x m ≡ true → known_link n x m ≡ Ok link
joined_by_end n ia number x m link network found ends =
    let free = IsFree-IsNetwork n network in
    let at = bind_ok (known_as n ia) _ link found in
    let named = ok_or_ok (link_named n.links ia number) faults.NoLink link at.2 in
    let again = found_by_end n.links ia number x m link free.interfaces named ends in
    let ends_known = or_parts (not (is_listed n.ases link.a.ia)) (not (is_listed n.ases link.b.ia)) (found_fails (λ l. has_unknown_end n.ases l) n.links ia number link named free.known_ends) in
    let one : (one : AsEntry) × (as_named n.ases x ≡ Some one) = elim (or_cases (is_end link.a x m) (is_end link.b x m) ends) [
      | inl side ↦ (let parts = and_parts (eqb link.a.ia x) (eqb link.a.number m) side in listed_known n.ases x (rw (eqb-true _ _ parts.0) at (not-false _ ends_known.0)))
      | inr side ↦ (let parts = and_parts (eqb link.b.ia x) (eqb link.b.number m) side in listed_known n.ases x (rw (eqb-true _ _ parts.0) at (not-false _ ends_known.1)))
    ] in
    rw (one.1, again) refl

-- how an interface and the far one lie in a link
pub record AreSides (link : Link) (ia number : ℕ) : Type 0 where
  pub at_a : is_end link.a ia number ≡ true → (link.a.ia ≡ ia) × (link.a.number ≡ number)
  pub at_b : is_end link.a ia number ≡ false → (link.b.ia ≡ ia) × (link.b.number ≡ number)

pub sides : (link : Link) (ia number : ℕ) → has_end link ia number ≡ true → AreSides link ia number
sides link ia number ends = record {
  at_a = λ here. (let parts = and_parts (eqb link.a.ia ia) (eqb link.a.number number) here in (eqb-true _ _ parts.0, eqb-true _ _ parts.1));
  at_b = λ other. (
      let side : is_end link.b ia number ≡ true = (let f : (false || is_end link.b ia number) ≡ true = rw other at ends in f) in
      let parts = and_parts (eqb link.b.ia ia) (eqb link.b.number number) side in (eqb-true _ _ parts.0, eqb-true _ _ parts.1));
}

-- what was found of a link in a network
pub record IsJoined (n : Network) (ia number : ℕ) (link : Link) : Type 0 where
  pub named : link_named n.links ia number ≡ Some link
  pub ends : has_end link ia number ≡ true
  pub apart : eqb link.a.ia link.b.ia ≡ false
  pub routers : has_no_router n.ases link ≡ false

pub IsJoined-known_link : (n : Network) (ia number : ℕ) (link : Link) → IsNetwork n → known_link n ia number ≡ Ok link → IsJoined n ia number link
IsJoined-known_link n ia number link network found =
    let free = IsFree-IsNetwork n network in
    let at = bind_ok (known_as n ia) _ link found in
    let named = ok_or_ok (link_named n.links ia number) faults.NoLink link at.2 in
    record {
      named = named;
      ends = found_ends n.links ia number link named;
      apart = (or_parts (eqb link.a.ia link.b.ia) _ (found_fails (λ l. is_ill_joined n.ases l) n.links ia number link named free.classes)).0;
      routers = found_fails (λ l. has_no_router n.ases l) n.links ia number link named free.routers;
    }

far_at_b : (link : Link) → eqb link.a.ia link.b.ia ≡ false → far_end link link.b.ia link.b.number ≡ link.a
far_at_b link apart = rw apart refl

far_at_a : (link : Link) → far_end link link.a.ia link.a.number ≡ link.b
far_at_a link = rw (and_from (eqb link.a.ia link.a.ia) (eqb link.a.number link.a.number) (eq-eqb _ _ refl) (eq-eqb _ _ refl)) refl

-- the far end of the far end is the end itself
far_back_at : (n : Network) (ia number : ℕ) (link : Link) → IsNetwork n → known_link n ia number ≡ Ok link → far_end_in n (far_end link ia number).ia (far_end link ia number).number ≡ Ok (ia, number)
unfolding far_end_in
far_back_at n ia number link network found =
    let is = IsJoined-known_link n ia number link network found in
    let side = sides link ia number is.ends in
    elim (cases_Bool (is_end link.a ia number)) [
      | inl here ↦ (
          let again = joined_by_end n ia number link.b.ia link.b.number link network found (ends_at_b link) in
          let at = side.at_a here in
          rw (here, again, far_at_b link is.apart, at.0, at.1) refl)
      | inr other ↦ (
          let again = joined_by_end n ia number link.a.ia link.a.number link network found (ends_at_a link) in
          let at = side.at_b other in
          rw (other, again, far_at_a link, at.0, at.1) refl)
    ]

pub far_back : (n : Network) (ia number x m : ℕ) → IsNetwork n → far_end_in n ia number ≡ Ok (x, m) → far_end_in n x m ≡ Ok (ia, number)
unfolding far_end_in
far_back n ia number x m network found =
    let at = bind_ok (known_link n ia number) _ (x, m) found in
    let pair = ok_is ((far_end at.0 ia number).ia, (far_end at.0 ia number).number) (x, m) at.2 in
    let x-is : (far_end at.0 ia number).ia ≡ x = ap (λ (p : ℕ × ℕ). p.0) pair in
    let m-is : (far_end at.0 ia number).number ≡ m = ap (λ (p : ℕ × ℕ). p.1) pair in
    rw (x-is, m-is) at (far_back_at n ia number at.0 network at.1)

-- ---- owners

pub owner_below : (n : Network) (ia number router : ℕ) (one : AsEntry) → IsNetwork n → owner_in n ia number ≡ Ok router → known_as n ia ≡ Ok one → router < one.routers
unfolding owner_in
owner_below n ia number router one network found is_known =
    let at = bind_ok (known_link n ia number) _ router found in
    let link = at.0 in
    let owner : (near_end link ia number).router ≡ router = ok_is _ _ at.2 in
    let is = IsJoined-known_link n ia number link network at.1 in
    let side = sides link ia number is.ends in
    let lacks = or_parts (lacks_router n.ases link.a) (lacks_router n.ases link.b) is.routers in
    let named = ok_or_ok (as_named n.ases ia) faults.UnknownAs one is_known in
    elim (cases_Bool (is_end link.a ia number)) [
      | inl here ↦ (let r : link.a.router ≡ router = (let f : (cond true link.a link.b).router ≡ router = rw here at owner in f) in rw (← r) (has_router n.ases link.a ia one lacks.0 ((side.at_a here).0) named))
      | inr other ↦ (let r : link.b.router ≡ router = (let f : (cond false link.a link.b).router ≡ router = rw other at owner in f) in rw (← r) (has_router n.ases link.b ia one lacks.1 ((side.at_b other).0) named))
    ]

-- ---- as what the two ends see each other

in_table : (number : ℕ) (o : Option IfEntry) (table : List IfEntry) → is_numbered number o ≡ true → interface_in (cons_option o table) number ≡ o
in_table number None table numbered = absurd cc
in_table number (Some e) table numbered = rw numbered refl

past_table : (number : ℕ) (o : Option IfEntry) (table : List IfEntry) → is_numbered number o ≡ false → interface_in (cons_option o table) number ≡ interface_in table number
past_table number None table other = refl
past_table number (Some e) table other = rw other refl

-- the interface of a number in an AS's table is that of its link
pub interface_in-table_of : (ia number : ℕ) (links : List Link) (link : Link) → are_apart links ≡ true → link_named links ia number ≡ Some link → interface_in (table_of ia links) number ≡ interface_of ia link
interface_in-table_of ia number [] link apart found = absurd cc
interface_in-table_of ia number (first ∷ links) link apart found =
    let parts = and_parts (not (eqb first.a.ia first.b.ia)) (are_apart links) apart in
    let says = ends_there ia number first parts.0 in
    elim (cases_Bool (has_end first ia number)) [
      | inl here ↦ (
          let same : first ≡ link = (let f : cond true (Some first) (link_named links ia number) ≡ Some link = rw here at found in cc) in
          in_table number (interface_of ia first) (table_of ia links) (sym says ∙ here) ∙ ap (interface_of ia) same)
      | inr other ↦ (
          let later : link_named links ia number ≡ Some link = (let f : cond false (Some first) (link_named links ia number) ≡ Some link = rw other at found in f) in
          past_table number (interface_of ia first) (table_of ia links) (sym says ∙ other) ∙ interface_in-table_of ia number links link parts.1 later)
    ]

mirrored_b : (class : LinkClass) → kind_at_b class ≡ mirrored_kind (kind_at_a class)
mirrored_b Core = refl
mirrored_b Child = refl

mirrored_a : (class : LinkClass) → kind_at_a class ≡ mirrored_kind (kind_at_b class)
mirrored_a Core = refl
mirrored_a Child = refl

-- an interface and the far one, as two tables show them
pub record AreMirrored (n : Network) (x m : ℕ) (near : IfEntry) : Type 0 where
  pub far : IfEntry
  pub shown : interface_in (table_of x n.links) m ≡ Some far
  pub kind : far.kind ≡ mirrored_kind near.kind
  pub up : far.up ≡ near.up

pub seen_at_a : (link : Link) → interface_of link.a.ia link ≡ Some (end_as_interface link.a (kind_at_a link.class) link.up)
seen_at_a link = rw (eq-eqb link.a.ia link.a.ia refl) refl

pub seen_at_b : (link : Link) → eqb link.a.ia link.b.ia ≡ false → interface_of link.b.ia link ≡ Some (end_as_interface link.b (kind_at_b link.class) link.up)
seen_at_b link apart = rw (apart, eq-eqb link.b.ia link.b.ia refl) refl

mirrored_at : (n : Network) (ia number x m : ℕ) (near : IfEntry) (link : Link) → IsNetwork n → known_link n ia number ≡ Ok link → (far_end link ia number).ia ≡ x → (far_end link ia number).number ≡ m → interface_in (table_of ia n.links) number ≡ Some near → AreMirrored n x m near
mirrored_at n ia number x m near link network found x-is m-is shown =
    let free = IsFree-IsNetwork n network in
    let apart = network_apart n network in
    let is = IsJoined-known_link n ia number link network found in
    let side = sides link ia number is.ends in
    let near_shown : interface_of ia link ≡ Some near = sym (interface_in-table_of ia number n.links link apart is.named) ∙ shown in
    elim (cases_Bool (is_end link.a ia number)) [
      | inl here ↦ (
          let near_is : end_as_interface link.a (kind_at_a link.class) link.up ≡ near = (let f : interface_of link.a.ia link ≡ Some near = ap (λ (y : ℕ). interface_of y link) (side.at_a here).0 ∙ near_shown in let g = sym (seen_at_a link) ∙ f in cc) in
          let bx : link.b.ia ≡ x = (let f : (cond true link.b link.a).ia ≡ x = rw here at x-is in f) in
          let bm : link.b.number ≡ m = (let f : (cond true link.b link.a).number ≡ m = rw here at m-is in f) in
          let named = found_by_end n.links ia number link.b.ia link.b.number link free.interfaces is.named (ends_at_b link) in
          rw (← bx, ← bm, ← near_is) (record {
            far = end_as_interface link.b (kind_at_b link.class) link.up;
            shown = interface_in-table_of link.b.ia link.b.number n.links link apart named ∙ seen_at_b link is.apart;
            kind = mirrored_b link.class;
            up = refl;
          }))
      | inr other ↦ (
          let near_is : end_as_interface link.b (kind_at_b link.class) link.up ≡ near = (let f : interface_of link.b.ia link ≡ Some near = ap (λ (y : ℕ). interface_of y link) (side.at_b other).0 ∙ near_shown in let g = sym (seen_at_b link is.apart) ∙ f in cc) in
          let ax : link.a.ia ≡ x = (let f : (cond false link.b link.a).ia ≡ x = rw other at x-is in f) in
          let am : link.a.number ≡ m = (let f : (cond false link.b link.a).number ≡ m = rw other at m-is in f) in
          let named = found_by_end n.links ia number link.a.ia link.a.number link free.interfaces is.named (ends_at_a link) in
          rw (← ax, ← am, ← near_is) (record {
            far = end_as_interface link.a (kind_at_a link.class) link.up;
            shown = interface_in-table_of link.a.ia link.a.number n.links link apart named ∙ seen_at_a link;
            kind = mirrored_a link.class;
            up = refl;
          }))
    ]

pub far_is_mirrored : (n : Network) (ia number x m : ℕ) (near : IfEntry) → IsNetwork n → far_end_in n ia number ≡ Ok (x, m) → interface_in (table_of ia n.links) number ≡ Some near → AreMirrored n x m near
unfolding far_end_in
far_is_mirrored n ia number x m near network found shown =
    let at = bind_ok (known_link n ia number) _ (x, m) found in
    let pair = ok_is ((far_end at.0 ia number).ia, (far_end at.0 ia number).number) (x, m) at.2 in
    mirrored_at n ia number x m near at.0 network at.1 (ap (λ (p : ℕ × ℕ). p.0) pair) (ap (λ (p : ℕ × ℕ). p.1) pair) shown

pub far_is_shown : (n : Network) (ia number x m : ℕ) (near : IfEntry) → IsNetwork n → far_end_in n ia number ≡ Ok (x, m) → interface_in (table_of ia n.links) number ≡ Some near → IfSome (interface_in (table_of x n.links) m) (λ far. (far.kind ≡ mirrored_kind near.kind) × (far.up ≡ near.up))
far_is_shown n ia number x m near network found shown =
    let far = far_is_mirrored n ia number x m near network found shown in
    rw far.shown (far.kind, far.up)

-- an interface at which a link ends is in its AS's table
shown_at : (n : Network) (ia number : ℕ) (link : Link) → IsNetwork n → known_link n ia number ≡ Ok link → IsSome (interface_in (table_of ia n.links) number)
shown_at n ia number link network found =
    let free = IsFree-IsNetwork n network in
    let is = IsJoined-known_link n ia number link network found in
    let shown = interface_in-table_of ia number n.links link (network_apart n network) is.named in
    let side = sides link ia number is.ends in
    elim (cases_Bool (is_end link.a ia number)) [
      | inl here ↦ (let value_of_index : interface_of ia link ≡ _ = ap (λ (y : ℕ). interface_of y link) (sym (side.at_a here).0) ∙ seen_at_a link in rw (shown, value_of_index) refl)
      | inr other ↦ (let value_of_index : interface_of ia link ≡ _ = ap (λ (y : ℕ). interface_of y link) (sym (side.at_b other).0) ∙ seen_at_b link is.apart in rw (shown, value_of_index) refl)
    ]

pub near_is_shown : (n : Network) (ia number x m : ℕ) → IsNetwork n → far_end_in n ia number ≡ Ok (x, m) → IsSome (interface_in (table_of ia n.links) number)
unfolding far_end_in
near_is_shown n ia number x m network found = let at = bind_ok (known_link n ia number) _ (x, m) found in shown_at n ia number at.0 network at.1

-- an AS in which a link ends is listed
pub end_is_listed : (n : Network) (x m : ℕ) (link : Link) → IsNetwork n → Contains n.links link → has_end link x m ≡ true
    → (one : AsEntry) × (as_named n.ases x ≡ Some one)
end_is_listed n x m link network there ends =
    let is : IsLink n.ases link = subst (IsLink n.ases) there.2 (network.links there.0 link there.1) in
    let named = are_named n.ases link is network.once in
    elim (or_cases (is_end link.a x m) (is_end link.b x m) ends) [
      | inl side ↦ (is.one, ap (as_named n.ases) (sym (at_end link.a side)) ∙ named.a)
      | inr side ↦ (is.other, ap (as_named n.ases) (sym (at_end link.b side)) ∙ named.b)
    ]
  where
    at_end : (end : End) → is_end end x m ≡ true → end.ia ≡ x
    at_end end side = eqb-true end.ia x (and_parts (eqb end.ia x) (eqb end.number m) side).0

-- where an AS is not listed, no link ends in it
pub place_found : (n : Network) → IsNetwork n → (ia number : ℕ)
    → result_ok (place_in n ia number) ≡ position (λ link. has_end link ia number) n.links
place_found n network ia number = of (as_named n.ases ia) refl n.links refl (position (λ link. has_end link ia number) n.links) refl
  where
    of : (named : Option AsEntry) → as_named n.ases ia ≡ named → (links : List Link) → links ≡ n.links
        → (place : Option ℕ) → position (λ link. has_end link ia number) links ≡ place
        → result_ok (place_in n ia number) ≡ position (λ link. has_end link ia number) n.links
    of (Some one) is links all None at = rw (is, ap (position (λ link. has_end link ia number)) (sym all) ∙ at) refl
    of (Some one) is links all (Some k) at = rw (is, ap (position (λ link. has_end link ia number)) (sym all) ∙ at) refl
    of None is links all None at = rw (is, ap (position (λ link. has_end link ia number)) (sym all) ∙ at) refl
    of None is [] all (Some k) at = absurd cc
    of None is (first ∷ rest) all (Some k) at = absurd (
        let found = position-Some (λ link. has_end link ia number) (first ∷ rest) k first at in
        let one = end_is_listed n ia number (get_or (first ∷ rest) k first) network
        (subst (λ (links : List Link). Contains links (get_or (first ∷ rest) k first)) all
        (Contains-get_or (first ∷ rest) k first found.0)) found.1 in
        let clash : None ≡ Some one.0 = sym is ∙ one.1 in
        cc)

some_ends : (links : List Link) (place : ℕ) (link : Link) (ia number : ℕ) → slice_get links place ≡ Some link
    → has_end link ia number ≡ true → list_any (λ l. has_end l ia number) links ≡ true
some_ends [] place link ia number is ends = absurd cc
some_ends (one ∷ links) zero link ia number is ends =
    let same : one ≡ link = cc in or_left (has_end one ia number) (list_any (λ l. has_end l ia number) links) (rw same ends)
some_ends (one ∷ links) (suc place) link ia number is ends =
    or_right (has_end one ia number) (list_any (λ l. has_end l ia number) links) (some_ends links place link ia number is ends)

-- no link before one of the list ends at an interface of that one
pub place_of_link : (links : List Link) → joins_twice links ≡ false → (place : ℕ) (link : Link) → slice_get links place ≡ Some link
    → (ia number : ℕ) → has_end link ia number ≡ true → position (λ l. has_end l ia number) links ≡ Some place
unfolding joins_twice
place_of_link [] free place link is ia number ends = absurd cc
place_of_link (first ∷ rest) free zero link is ia number ends =
    let same : first ≡ link = cc in
    let here : has_end first ia number ≡ true = rw same ends in
    position-cons (λ l. has_end l ia number) first rest ∙ rw here refl
place_of_link (first ∷ rest) free (suc place) link is ia number ends =
    let once = or_parts (stands rest first.a) (stands rest first.b || joins_twice rest) free in
    let later = or_parts (stands rest first.b) (joins_twice rest) once.1 in
    elim (cases_Bool (has_end first ia number)) [
      | inl here ↦ absurd (elim (ends_stand first rest ia number here (some_ends rest place link ia number is ends)) [
        | inl at ↦ true≢false (sym at ∙ once.0)
        | inr at ↦ true≢false (sym at ∙ later.0)
      ])
      | inr other ↦ position-cons (λ l. has_end l ia number) first rest ∙ rw (other, place_of_link rest later.1 place link is ia number ends) (ap Some (omega arith))
    ]

pub place_in_network : (n : Network) → IsNetwork n → (place : ℕ) (link : Link) → slice_get n.links place ≡ Some link
    → (ia number : ℕ) → has_end link ia number ≡ true → position (λ l. has_end l ia number) n.links ≡ Some place
place_in_network n network = place_of_link n.links (IsFree-IsNetwork n network).interfaces
