-- What outlasts a link that goes up or down, and a new key.
use Rattle.std.proofs.Common.{◌≡◌, ◌≢◌, ℕ, zero, suc, ◌+◌, ◌<◌, Bool, true, false, cond, eqb, not, ◌||◌, List, [], ◌∷◌, length, get_or, Contains, Option, Some, None, Result, Ok, Err, refl, sym, ap, ◌∙◌, subst, arith, inl, inr}
use Rattle.std.specs.Prelude.{position}
use Rattle.std.specs.List.{position_or_len, cons_option}
use Rattle.std.specs.Option.{ok_or}
use Rattle.std.proofs.lemmas.Bool.{cases_Bool, or_cases, and_parts, eqb-true, ne_eqb, true≢false, false_from_ne_true}
use Rattle.std.proofs.lemmas.Option.{same_Some}
use Rattle.refusal.specs.Refusal.{◌>>=◌}
use Rattle.scion_topology.specs.declared.entry.IfEntry.{IfEntry}
use Rattle.scion_topology.specs.declared.fault.TopologyFault.{TopologyFault}
use Rattle.scion_topology.specs.declared.fault.TopologyFault.TheVariants as faults
use Rattle.scion_topology.specs.declared.network.AsEntry.{AsEntry}
use Rattle.scion_topology.specs.declared.network.End.{End}
use Rattle.scion_topology.specs.declared.network.Link.{Link}
use Rattle.scion_topology.specs.Keys.{is_key, key_from, renewed_keys}
use Rattle.scion_topology.specs.Network.{Network, as_named, is_end, has_end, link_named, interface_of, table_of, interface_in}
use Rattle.scion_topology.specs.Topology.{IsNetwork, known_as, known_link, near_end, far_end, interface_at, far_end_in, owner_in, with_up, with_key, set_up, with_rotated_key}
use Rattle.scion_topology.specs.Ends.{IsAt, IsShown, at_a, at_b, IsUp, IsStill, IsSame}
use Rattle.scion_topology.specs.inner.Index.{place_in, set_from}
use Rattle.refusal.proofs.Steps.{bind_ok, ok_is, ok_or_ok}
use Rattle.scion_topology.proofs.Judging.{IsFree-IsNetwork}
use Rattle.scion_topology.proofs.Places.{is_numbered, are_apart, ends_there, network_apart}
use Rattle.scion_topology.proofs.Marking.{with_up-set_from}
use Rattle.scion_topology.proofs.Relinked.{set_up-none, IsNetwork-relinked}
use Rattle.scion_topology.proofs.Keyed.{with_key-keyed_at, IsNetwork-rekeyed}
use Rattle.scion_topology.proofs.KeyTests.{made_key}
use Rattle.scion_topology.proofs.Ends.{IsJoined-known_link, sides}
use Rattle.scion_topology.proofs.Shown.{found_at, shows_both_ends}

-- ---- what a change is

-- a link that went up or down, in a network of the same ASes
pub record IsLinked (up : Bool) (x y : ℕ) (n m : Network) : Type 0 where
  pub link : Link
  pub found : known_link n x y ≡ Ok link
  pub is : record n { links = with_up up x y n.links } ≡ m

pub is_linked : (up : Bool) (x y : ℕ) (n m : Network) → set_up up x y n ≡ Ok m → IsLinked up x y n m
unfolding set_up
is_linked up x y n m change =
    let at = bind_ok (known_link n x y) _ m change in
    record { link = at.0; found = at.1; is = ok_is (record n { links = with_up up x y n.links }) m at.2 }

-- an AS with other keys, in a network of the same links
pub record IsKeyed (x : ℕ) (key : List ℕ) (n m : Network) : Type 0 where
  pub new : List ℕ
  pub made : key_from key ≡ Ok new
  pub is : record n { ases = with_key x new n.ases } ≡ m

pub is_keyed : (x : ℕ) (key : List ℕ) (n m : Network) → with_rotated_key x key n ≡ Ok m → IsKeyed x key n m
unfolding with_rotated_key
is_keyed x key n m change =
    let at = bind_ok (known_as n x) _ m change in
    let made = bind_ok (key_from key) _ m at.2 in
    record { new = made.0; made = made.1; is = ok_is (record n { ases = with_key x made.0 n.ases }) m made.2 }

pub same_ases : (up : Bool) (x y : ℕ) (n m : Network) → set_up up x y n ≡ Ok m → m.ases ≡ n.ases
same_ases up x y n m change = sym (ap (λ (k : Network). k.ases) (is_linked up x y n m change).is)

pub same_links : (x : ℕ) (key : List ℕ) (n m : Network) → with_rotated_key x key n ≡ Ok m → m.links ≡ n.links
same_links x key n m change = sym (ap (λ (k : Network). k.links) (is_keyed x key n m change).is)

-- ---- a network stays one

fitting : (key new : List ℕ) → key_from key ≡ Ok new → is_key new ≡ true
fitting key new made = let is = made_key key new made in subst (λ (k : List ℕ). is_key k ≡ true) is.1 is.0

pub rotated_network : (x : ℕ) (key : List ℕ) (n m : Network) → IsNetwork n → with_rotated_key x key n ≡ Ok m → IsNetwork m
rotated_network x key n m network change =
    let keyed = is_keyed x key n m change in
    let same = with_key-keyed_at x keyed.new n.ases in
    subst IsNetwork (ap (λ (ases : List AsEntry). record n { ases = ases }) (sym same) ∙ keyed.is) (IsNetwork-rekeyed (position_or_len (λ one. eqb one.ia x) n.ases) keyed.new n (fitting key keyed.new keyed.made) network)

abbrev fails : TopologyFault → Result Network TopologyFault
fails f = Err f

abbrev works : Network → Result Network TopologyFault
works m = Ok m

not_both : (f : TopologyFault) (m : Network) → fails f ≡ works m → ⊥
not_both f m e = absurd cc

pub linked_network : (up : Bool) (x y : ℕ) (n m : Network) → IsNetwork n → set_up up x y n ≡ Ok m → IsNetwork m
linked_network up x y n m network change = go (place_in n x y) refl
  where
    go : (place : Result ℕ TopologyFault) → place_in n x y ≡ place → IsNetwork m
    go (Err d) none = absurd (not_both d m (sym (set_up-none up x y n d none) ∙ change))
    go (Ok place) found =
        let first_at = bind_ok (known_as n x) _ place found in
        let first = ok_or_ok (position (λ l. has_end l x y) n.links) faults.NoLink place first_at.2 in
        let zero_place : 0 + place ≡ place = omega arith in
        let same : with_up up x y n.links ≡ set_from 0 place up n.links = rw zero_place at (with_up-set_from 0 x y place up n.links first) in
        subst IsNetwork (ap (λ (ls : List Link). record n { links = ls }) (sym same) ∙ (is_linked up x y n m change).is) (IsNetwork-relinked place up n network)

-- ---- keys

named_elsewhere : (x ia : ℕ) (key : List ℕ) (ases : List AsEntry) → x ≢ ia → as_named (with_key x key ases) ia ≡ as_named ases ia
named_elsewhere x ia key [] other = refl
named_elsewhere x ia key (one ∷ rest) other = elim (cases_Bool (eqb one.ia x)) [
  | inl here ↦ (let not_ia : eqb one.ia ia ≡ false = ne_eqb one.ia ia (λ same. other (sym (eqb-true one.ia x here) ∙ same)) in rw (here, not_ia) refl)
  | inr past ↦ rw past (elim (cases_Bool (eqb one.ia ia)) [
    | inl found ↦ rw found refl
    | inr later ↦ rw later (named_elsewhere x ia key rest other)
  ])
]

-- another AS's new key
pub named_still : (x ia : ℕ) (key : List ℕ) (n m : Network) → with_rotated_key x key n ≡ Ok m → x ≢ ia → as_named m.ases ia ≡ as_named n.ases ia
named_still x ia key n m change other =
    let keyed = is_keyed x key n m change in
    ap (λ (k : Network). as_named k.ases ia) (sym keyed.is) ∙ named_elsewhere x ia keyed.new n.ases other

named_here : (x : ℕ) (key : List ℕ) (ases : List AsEntry) (one : AsEntry) → as_named ases x ≡ Some one → as_named (with_key x key ases) x ≡ Some (record one { keys = renewed_keys key one.keys })
named_here x key [] one named = absurd cc
named_here x key (first ∷ rest) one named = elim (cases_Bool (eqb first.ia x)) [
  | inl here ↦ (
      let now : cond true (Some first) (as_named rest x) ≡ Some one = rw here at named in
      let same : first ≡ one = same_Some first one now in
      rw (here, here) (ap (λ (o : AsEntry). Some (record o { keys = renewed_keys key o.keys })) same))
  | inr past ↦ (let later : cond false (Some first) (as_named rest x) ≡ Some one = rw past at named in rw (past, past) (named_here x key rest one later))
]

-- the AS that took it into use
pub named_renewed : (x : ℕ) (key : List ℕ) (n m : Network) (one : AsEntry) → with_rotated_key x key n ≡ Ok m → as_named n.ases x ≡ Some one → as_named m.ases x ≡ Some (record one { keys = renewed_keys key one.keys })
named_renewed x key n m one change named =
    let keyed = is_keyed x key n m change in
    ap (λ (k : Network). as_named k.ases x) (sym keyed.is) ∙ named_here x keyed.new n.ases one named
    ∙ ap (λ (new : List ℕ). Some (record one { keys = renewed_keys new one.keys })) (sym (made_key key keyed.new keyed.made).1)

-- ---- owners, far ends and presence

-- what a link is asked, whatever its state
abbrev IgnoresState : {A : Type 0} → (Link → A) → Type 0
IgnoresState g = (link : Link) (up : Bool) → g (record link { up = up }) ≡ g link

abbrev asked : {A : Type 0} → (Link → A) → Option Link → Result A TopologyFault
asked g (Some link) = Ok (g link)
asked g None = Err faults.NoLink

abbrev done : {A : Type 0} → A → Result A TopologyFault
done x = Ok x

asked_up : {A : Type 0} (g : Link → A) → IgnoresState g → (up : Bool) (x y ia i : ℕ) (links : List Link) → asked g (link_named (with_up up x y links) ia i) ≡ asked g (link_named links ia i)
asked_up g same up x y ia i [] = refl
asked_up g same up x y ia i (link ∷ links) = elim (cases_Bool (has_end link x y)) [
  | inl here ↦ rw here (elim (cases_Bool (has_end link ia i)) [
    | inl found ↦ rw found (ap done (same link up))
    | inr other ↦ rw other refl
  ])
  | inr past ↦ rw past (elim (cases_Bool (has_end link ia i)) [
    | inl found ↦ rw found refl
    | inr other ↦ rw other (asked_up g same up x y ia i links)
  ])
]

asked_found : {A : Type 0} (g : Link → A) (o : Option Link) → (ok_or o faults.NoLink >>= λ link. Ok (g link)) ≡ asked g o
asked_found g None = refl
asked_found g (Some link) = refl

-- an answer, where the AS is known
abbrev if_known : {A : Type 0} → Result AsEntry TopologyFault → Result A TopologyFault → Result A TopologyFault
if_known (Ok one) r = r
if_known (Err fault) r = Err fault

asked_split : {A : Type 0} (g : Link → A) (a : Result AsEntry TopologyFault) (o : Option Link) → ((a >>= λ _. ok_or o faults.NoLink) >>= λ link. Ok (g link)) ≡ if_known a (asked g o)
asked_split g (Ok one) o = asked_found g o
asked_split g (Err fault) o = refl

asked_at : {A : Type 0} (g : Link → A) (n : Network) (ia i : ℕ) → (known_link n ia i >>= λ link. Ok (g link)) ≡ if_known (known_as n ia) (asked g (link_named n.links ia i))
asked_at g n ia i = asked_split g (known_as n ia) (link_named n.links ia i)

asked_linked : {A : Type 0} (g : Link → A) → IgnoresState g → (up : Bool) (x y ia i : ℕ) (n m : Network) → set_up up x y n ≡ Ok m → (known_link m ia i >>= λ link. Ok (g link)) ≡ (known_link n ia i >>= λ link. Ok (g link))
asked_linked g same up x y ia i n m change =
    ap (λ (k : Network). known_link k ia i >>= λ link. Ok (g link)) (sym (is_linked up x y n m change).is)
    ∙ asked_at g (record n { links = with_up up x y n.links }) ia i
    ∙ ap (if_known (known_as n ia)) (asked_up g same up x y ia i n.links)
    ∙ sym (asked_at g n ia i)

abbrev is_there : Option AsEntry → Bool
is_there None = false
is_there (Some one) = true

there_still : (ia x : ℕ) (key : List ℕ) (ases : List AsEntry) → is_there (as_named (with_key x key ases) ia) ≡ is_there (as_named ases ia)
there_still ia x key [] = refl
there_still ia x key (one ∷ rest) = elim (cases_Bool (eqb one.ia x)) [
  | inl here ↦ rw here (elim (cases_Bool (eqb one.ia ia)) [ inl found ↦ rw found refl | inr other ↦ rw other refl ])
  | inr past ↦ rw past (elim (cases_Bool (eqb one.ia ia)) [ inl found ↦ rw found refl | inr other ↦ rw other (there_still ia x key rest) ])
]

if_there : {A : Type 0} (o p : Option AsEntry) (r : Result A TopologyFault) → is_there o ≡ is_there p → if_known (ok_or o faults.UnknownAs) r ≡ if_known (ok_or p faults.UnknownAs) r
if_there None None r e = refl
if_there None (Some one) r e = absurd cc
if_there (Some one) None r e = absurd cc
if_there (Some one) (Some other) r e = refl

asked_keyed : {A : Type 0} (g : Link → A) (x : ℕ) (key : List ℕ) (ia i : ℕ) (n m : Network) → with_rotated_key x key n ≡ Ok m → (known_link m ia i >>= λ link. Ok (g link)) ≡ (known_link n ia i >>= λ link. Ok (g link))
asked_keyed g x key ia i n m change =
    let keyed = is_keyed x key n m change in
    ap (λ (k : Network). known_link k ia i >>= λ link. Ok (g link)) (sym keyed.is)
    ∙ asked_at g (record n { ases = with_key x keyed.new n.ases }) ia i
    ∙ if_there (as_named (with_key x keyed.new n.ases) ia) (as_named n.ases ia) (asked g (link_named n.links ia i)) (there_still ia x keyed.new n.ases)
    ∙ sym (asked_at g n ia i)

-- an interface, where the AS is known
entry_split : (a : Result AsEntry TopologyFault) (o : Option IfEntry) → (a >>= λ _. ok_or o faults.NoLink) ≡ if_known a (ok_or o faults.NoLink)
entry_split (Ok one) o = refl
entry_split (Err fault) o = refl

-- ---- after a new key

pub same_interfaces : (x : ℕ) (key : List ℕ) (n m : Network) (ia i : ℕ) → with_rotated_key x key n ≡ Ok m → IsSame n m ia i
unfolding owner_in far_end_in
same_interfaces x key n m ia i change =
    let keyed = is_keyed x key n m change in
    let k : Network = record n { ases = with_key x keyed.new n.ases } in
    record {
      owner = asked_keyed (λ link. (near_end link ia i).router) x key ia i n m change;
      leads = asked_keyed (λ link. ((far_end link ia i).ia, (far_end link ia i).number)) x key ia i n m change;
      shown = ap (λ (w : Network). interface_at w ia i) (sym keyed.is)
          ∙ entry_split (known_as k ia) (interface_in (table_of ia n.links) i)
          ∙ if_there (as_named k.ases ia) (as_named n.ases ia) (ok_or (interface_in (table_of ia n.links) i) faults.NoLink) (there_still ia x keyed.new n.ases)
          ∙ sym (entry_split (known_as n ia) (interface_in (table_of ia n.links) i));
    }

-- ---- after a link went up or down

-- some state of the interface
abbrev SomeState : List IfEntry → ℕ → IfEntry → Type 0
SomeState table number entry = (u : Bool) × (interface_in table number ≡ Some (record entry { up = u }))

some_first : (e : IfEntry) (t s : List IfEntry) (number : ℕ) (entry : IfEntry) (up : Bool) → (interface_in t number ≡ Some entry → SomeState s number entry) → interface_in (e ∷ t) number ≡ Some entry → SomeState (record e { up = up } ∷ s) number entry
some_first e t s number entry up later shown = elim (cases_Bool (eqb e.number number)) [
  | inl here ↦ (
      let now : cond true (Some e) (interface_in t number) ≡ Some entry = rw here at shown in
      (up, rw here (ap (λ (i : IfEntry). Some (record i { up = up })) (same_Some e entry now))))
  | inr other ↦ (
      let past : cond false (Some e) (interface_in t number) ≡ Some entry = rw other at shown in
      let r = later past in
      (r.0, rw other r.1))
]

some_here : (up : Bool) (ia number : ℕ) (link : Link) (t : List IfEntry) (entry : IfEntry) → interface_in (cons_option (interface_of ia link) t) number ≡ Some entry → SomeState (cons_option (interface_of ia (record link { up = up })) t) number entry
some_here up ia number link t entry shown = go (eqb link.a.ia ia) (eqb link.b.ia ia) _ _ shown
  where
    same : interface_in t number ≡ Some entry → SomeState t number entry
    same found = (entry.up, found)

    go : (p q : Bool) (a b : IfEntry) → interface_in (cons_option (cond p (Some a) (cond q (Some b) None)) t) number ≡ Some entry → SomeState (cons_option (cond p (Some (record a { up = up })) (cond q (Some (record b { up = up })) None)) t) number entry
    go true q a b found = some_first a t t number entry up same found
    go false true a b found = some_first b t t number entry up same found
    go false false a b found = same found

some_past : (o : Option IfEntry) (t s : List IfEntry) (number : ℕ) (entry : IfEntry) → (interface_in t number ≡ Some entry → SomeState s number entry) → interface_in (cons_option o t) number ≡ Some entry → SomeState (cons_option o s) number entry
some_past None t s number entry later shown = later shown
some_past (Some e) t s number entry later shown = some_first e t s number entry e.up later shown

some_state : (up : Bool) (x y ia number : ℕ) (links : List Link) (entry : IfEntry) → interface_in (table_of ia links) number ≡ Some entry → SomeState (table_of ia (with_up up x y links)) number entry
some_state up x y ia number [] entry shown = absurd cc
some_state up x y ia number (link ∷ links) entry shown = elim (cases_Bool (has_end link x y)) [
  | inl here ↦ rw here (some_here up ia number link (table_of ia links) entry shown)
  | inr other ↦ rw other (some_past (interface_of ia link) (table_of ia links) (table_of ia (with_up up x y links)) number entry (some_state up x y ia number links entry) shown)
]

-- an interface in a network of the same ASes
shown_in : (n : Network) (links : List Link) (ia number : ℕ) (entry other : IfEntry) → interface_at n ia number ≡ Ok entry → interface_in (table_of ia links) number ≡ Some other → interface_at (record n { links = links }) ia number ≡ Ok other
shown_in n links ia number entry other found there =
    let at = bind_ok (known_as n ia) _ entry found in
    rw (at.1, there) refl

in_table_at : (n : Network) (ia number : ℕ) (entry : IfEntry) → interface_at n ia number ≡ Ok entry → interface_in (table_of ia n.links) number ≡ Some entry
in_table_at n ia number entry found = ok_or_ok _ faults.NoLink entry (bind_ok (known_as n ia) _ entry found).2

pub still_there : (up : Bool) (x y : ℕ) (n m : Network) (ia i : ℕ) → set_up up x y n ≡ Ok m → IsStill n m ia i
unfolding owner_in far_end_in
still_there up x y n m ia i change =
    let linked = is_linked up x y n m change in
    record {
      owner = asked_linked (λ link. (near_end link ia i).router) (λ link u. refl) up x y ia i n m change;
      leads = asked_linked (λ link. ((far_end link ia i).ia, (far_end link ia i).number)) (λ link u. refl) up x y ia i n m change;
      shown = λ entry found. (
          let some = some_state up x y ia i n.links entry (in_table_at n ia i entry found) in
          (some.0, ap (λ (w : Network). interface_at w ia i) (sym linked.is) ∙ shown_in n (with_up up x y n.links) ia i entry (record entry { up = some.0 }) found some.1));
    }

-- the link that was named shows its new state at both ends
changed_listed : (up : Bool) (x y : ℕ) (links : List Link) (link : Link) → link_named links x y ≡ Some link → Contains (with_up up x y links) (record link { up = up })
changed_listed up x y [] link found = absurd cc
changed_listed up x y (first ∷ rest) link found = elim (cases_Bool (has_end first x y)) [
  | inl here ↦ (
      let now : cond true (Some first) (link_named rest x y) ≡ Some link = rw here at found in
      let same : first ≡ link = same_Some first link now in
      rw here (zero, omega arith, ap (λ (l : Link). record l { up = up }) same))
  | inr other ↦ (
      let later : cond false (Some first) (link_named rest x y) ≡ Some link = rw other at found in
      let r = changed_listed up x y rest link later in
      let below : r.0 < length (with_up up x y rest) = r.1 in
      rw other (suc r.0, omega arith, r.2))
]

up_at : (m : Network) (end other : End) (entry : IfEntry) (ia number : ℕ) (up : Bool) → IsAt end ia number → IsShown m end other entry → entry.up ≡ up → IsUp m ia number up
up_at m end other entry ia number up at shows is = record {
  entry = entry;
  shown = ap (λ i. interface_at m i number) (sym at.0) ∙ ap (λ i. interface_at m end.ia i) (sym at.1) ∙ shows.shown;
  is = is;
}

pub changed_shows : (up : Bool) (x y far_ia far_number : ℕ) (n m : Network) → IsNetwork n → set_up up x y n ≡ Ok m → far_end_in n x y ≡ Ok (far_ia, far_number) → IsUp m x y up × IsUp m far_ia far_number up
unfolding far_end_in
changed_shows up x y far_ia far_number n m network change leads =
    let at = bind_ok (known_link n x y) _ (far_ia, far_number) leads in
    let link = at.0 in
    let new : Link = record link { up = up } in
    let pair = ok_is ((far_end link x y).ia, (far_end link x y).number) (far_ia, far_number) at.2 in
    let ia_is : (far_end link x y).ia ≡ far_ia = ap (λ (p : ℕ × ℕ). p.0) pair in
    let number_is : (far_end link x y).number ≡ far_number = ap (λ (p : ℕ × ℕ). p.1) pair in
    let is = IsJoined-known_link n x y link network at.1 in
    let side = sides link x y is.ends in
    let there : Contains m.links new = subst (λ (k : Network). Contains k.links new) (is_linked up x y n m change).is (changed_listed up x y n.links link is.named) in
    let shows = shows_both_ends m new (linked_network up x y n m network change) there in
    elim (cases_Bool (is_end link.a x y)) [
      | inl here ↦ (
          let far : link.b.ia ≡ far_ia = (let f : (cond true link.b link.a).ia ≡ far_ia = rw here at ia_is in f) in
          let far_is : link.b.number ≡ far_number = (let f : (cond true link.b link.a).number ≡ far_number = rw here at number_is in f) in
          (up_at m link.a link.b (at_a new) x y up (side.at_a here) shows.a refl, up_at m link.b link.a (at_b new) far_ia far_number up (far, far_is) shows.b refl))
      | inr other ↦ (
          let far : link.a.ia ≡ far_ia = (let f : (cond false link.b link.a).ia ≡ far_ia = rw other at ia_is in f) in
          let far_is : link.a.number ≡ far_number = (let f : (cond false link.b link.a).number ≡ far_number = rw other at number_is in f) in
          (up_at m link.b link.a (at_b new) x y up (side.at_b other) shows.b refl, up_at m link.a link.b (at_a new) far_ia far_number up (far, far_is) shows.a refl))
    ]

-- ---- a link that is none of an interface's

-- no link of the list at which the interface lies ends there
abbrev AreOthers : ℕ → ℕ → ℕ → ℕ → List Link → Type 0
AreOthers x y ia m [] = Unit {0}
AreOthers x y ia m (link ∷ links) = (is_numbered m (interface_of ia link) ≡ true → has_end link x y ≡ false) × AreOthers x y ia m links

unnumbered : (o : Option IfEntry) (t : List IfEntry) (m : ℕ) → is_numbered m o ≡ false → interface_in (cons_option o t) m ≡ interface_in t m
unnumbered None t m e = refl
unnumbered (Some x) t m e = rw e refl

same_number : (up : Bool) (ia m : ℕ) (link : Link) → is_numbered m (interface_of ia (record link { up = up })) ≡ is_numbered m (interface_of ia link)
same_number up ia m link = go (eqb link.a.ia ia) (eqb link.b.ia ia) _ _
  where
    go : (p q : Bool) (a b : IfEntry) → is_numbered m (cond p (Some (record a { up = up })) (cond q (Some (record b { up = up })) None)) ≡ is_numbered m (cond p (Some a) (cond q (Some b) None))
    go true q a b = refl
    go false true a b = refl
    go false false a b = refl

first_same : (o : Option IfEntry) (t s : List IfEntry) (m : ℕ) → interface_in t m ≡ interface_in s m → interface_in (cons_option o t) m ≡ interface_in (cons_option o s) m
first_same None t s m same = same
first_same (Some e) t s m same = elim (cases_Bool (eqb e.number m)) [
  | inl here ↦ rw here refl
  | inr other ↦ rw other same
]

set_elsewhere : (up : Bool) (x y ia m : ℕ) (links : List Link) → AreOthers x y ia m links → interface_in (table_of ia (with_up up x y links)) m ≡ interface_in (table_of ia links) m
set_elsewhere up x y ia m [] others = refl
set_elsewhere up x y ia m (link ∷ links) others = elim (cases_Bool (has_end link x y)) [
  | inl here ↦ (
      let not_numbered : is_numbered m (interface_of ia link) ≡ false = false_from_ne_true _ (λ numbered. true≢false (sym here ∙ others.0 numbered)) in
      rw here (unnumbered (interface_of ia (record link { up = up })) (table_of ia links) m (same_number up ia m link ∙ not_numbered)
      ∙ sym (unnumbered (interface_of ia link) (table_of ia links) m not_numbered)))
  | inr other ↦ rw other (first_same (interface_of ia link) (table_of ia (with_up up x y links)) (table_of ia links) m (set_elsewhere up x y ia m links others.1))
]

-- the link at an interface has two ends, and no others
others_in : (all : List Link) (found : Link) (x y ia m : ℕ) → are_apart all ≡ true → ((k : ℕ) (l : Link) → k < length all → get_or all k l ≡ l → has_end l ia m ≡ true → l ≡ found) → has_end found x y ≡ false → AreOthers x y ia m all
others_in [] found x y ia m apart one ends = tt
others_in (link ∷ links) found x y ia m apart one ends =
    let parts = and_parts (not (eqb link.a.ia link.b.ia)) (are_apart links) apart in (
      λ numbered. (
          let at : has_end link ia m ≡ true = ends_there ia m link parts.0 ∙ numbered in
          let within : 0 < length (link ∷ links) = omega arith in
          ap (λ (l : Link). has_end l x y) (one 0 link within refl at) ∙ ends),
      others_in links found x y ia m parts.1 (λ k l within at end. one (suc k) l (omega arith) at end) ends,
    )

-- the test of two ends
no_end : (link : Link) (x y ia m far far_m : ℕ) → has_end link ia m ≡ true → (far_end link ia m).ia ≡ far → (far_end link ia m).number ≡ far_m
    → ¬ ((ia ≡ x) × (m ≡ y)) → ¬ ((far ≡ x) × (far_m ≡ y)) → has_end link x y ≡ false
no_end link x y ia m far far_m here far_is far_m_is not_near not_far = false_from_ne_true (has_end link x y) (λ ends. elim (cases_Bool (is_end link.a ia m)) [
  | inl near_a ↦ (
      let near = and_parts (eqb link.a.ia ia) (eqb link.a.number m) near_a in
      let bx : link.b.ia ≡ far = (let f : (cond true link.b link.a).ia ≡ far = rw near_a at far_is in f) in
      let bm : link.b.number ≡ far_m = (let f : (cond true link.b link.a).number ≡ far_m = rw near_a at far_m_is in f) in
      elim (or_cases (is_end link.a x y) (is_end link.b x y) ends) [
        | inl at ↦ (let p = and_parts (eqb link.a.ia x) (eqb link.a.number y) at in not_near (sym (eqb-true _ _ near.0) ∙ eqb-true _ _ p.0, sym (eqb-true _ _ near.1) ∙ eqb-true _ _ p.1))
        | inr at ↦ (let p = and_parts (eqb link.b.ia x) (eqb link.b.number y) at in not_far (sym bx ∙ eqb-true _ _ p.0, sym bm ∙ eqb-true _ _ p.1))
      ])
  | inr near_b ↦ (
      let side : is_end link.b ia m ≡ true = (let f : (false || is_end link.b ia m) ≡ true = rw near_b at here in f) in
      let near = and_parts (eqb link.b.ia ia) (eqb link.b.number m) side in
      let ax : link.a.ia ≡ far = (let f : (cond false link.b link.a).ia ≡ far = rw near_b at far_is in f) in
      let am : link.a.number ≡ far_m = (let f : (cond false link.b link.a).number ≡ far_m = rw near_b at far_m_is in f) in
      elim (or_cases (is_end link.a x y) (is_end link.b x y) ends) [
        | inl at ↦ (let p = and_parts (eqb link.a.ia x) (eqb link.a.number y) at in not_far (sym ax ∙ eqb-true _ _ p.0, sym am ∙ eqb-true _ _ p.1))
        | inr at ↦ (let p = and_parts (eqb link.b.ia x) (eqb link.b.number y) at in not_near (sym (eqb-true _ _ near.0) ∙ eqb-true _ _ p.0, sym (eqb-true _ _ near.1) ∙ eqb-true _ _ p.1))
      ])
])

-- a change of another link leaves an interface as it was
pub others_stay : (up : Bool) (x y ia m far far_m : ℕ) (n k : Network) → IsNetwork n → set_up up x y n ≡ Ok k → far_end_in n ia m ≡ Ok (far, far_m) → ¬ ((ia ≡ x) × (m ≡ y)) → ¬ ((far ≡ x) × (far_m ≡ y))
    → interface_at k ia m ≡ interface_at n ia m
unfolding far_end_in
others_stay up x y ia m far far_m n k network change leads not_near not_far =
    let end = bind_ok (known_link n ia m) _ (far, far_m) leads in
    let link = end.0 in
    let pair = ok_is ((far_end link ia m).ia, (far_end link ia m).number) (far, far_m) end.2 in
    let shown = IsJoined-known_link n ia m link network end.1 in
    let free = IsFree-IsNetwork n network in
    let ends = no_end link x y ia m far far_m shown.ends (ap (λ (p : ℕ × ℕ). p.0) pair) (ap (λ (p : ℕ × ℕ). p.1) pair) not_near not_far in
    let others = others_in n.links link x y ia m (network_apart n network)
    (λ i l within there has. same_Some l link (sym (found_at n.links i l ia m free.interfaces within there has) ∙ shown.named)) ends in
    ap (λ (w : Network). interface_at w ia m) (sym (is_linked up x y n k change).is)
    ∙ ap (λ (o : Option IfEntry). known_as n ia >>= λ _. ok_or o faults.NoLink) (set_elsewhere up x y ia m n.links others)

-- ---- a mended link

abbrev KeptUp : List IfEntry → List IfEntry → ℕ → IfEntry → Type 0
KeptUp t s number entry = interface_in t number ≡ Some entry → interface_in s number ≡ Some entry

kept_first : (e : IfEntry) (t s : List IfEntry) (number : ℕ) (entry : IfEntry) → entry.up ≡ true → KeptUp t s number entry → KeptUp (e ∷ t) (record e { up = true } ∷ s) number entry
kept_first e t s number entry up later shown = elim (cases_Bool (eqb e.number number)) [
  | inl here ↦ (
      let now : cond true (Some e) (interface_in t number) ≡ Some entry = rw here at shown in
      let same : e ≡ entry = same_Some e entry now in
      rw here (ap (λ (i : IfEntry). Some (record i { up = true })) same ∙ ap (λ (u : Bool). Some (record entry { up = u })) (sym up)))
  | inr other ↦ (let past : cond false (Some e) (interface_in t number) ≡ Some entry = rw other at shown in rw other (later past))
]

kept_here : (ia number : ℕ) (link : Link) (t : List IfEntry) (entry : IfEntry) → entry.up ≡ true → KeptUp (cons_option (interface_of ia link) t) (cons_option (interface_of ia (record link { up = true })) t) number entry
kept_here ia number link t entry up = go (eqb link.a.ia ia) (eqb link.b.ia ia) _ _
  where
    go : (p q : Bool) (a b : IfEntry) → KeptUp (cons_option (cond p (Some a) (cond q (Some b) None)) t) (cons_option (cond p (Some (record a { up = true })) (cond q (Some (record b { up = true })) None)) t) number entry
    go true q a b = kept_first a t t number entry up (λ shown. shown)
    go false true a b = kept_first b t t number entry up (λ shown. shown)
    go false false a b = λ shown. shown

kept_past : (o : Option IfEntry) (t s : List IfEntry) (number : ℕ) (entry : IfEntry) → KeptUp t s number entry → KeptUp (cons_option o t) (cons_option o s) number entry
kept_past None t s number entry later shown = later shown
kept_past (Some e) t s number entry later shown = elim (cases_Bool (eqb e.number number)) [
  | inl here ↦ (let now : cond true (Some e) (interface_in t number) ≡ Some entry = rw here at shown in rw here now)
  | inr other ↦ (let past : cond false (Some e) (interface_in t number) ≡ Some entry = rw other at shown in rw other (later past))
]

kept_up : (x y ia number : ℕ) (links : List Link) (entry : IfEntry) → entry.up ≡ true → KeptUp (table_of ia links) (table_of ia (with_up true x y links)) number entry
kept_up x y ia number [] entry up shown = shown
kept_up x y ia number (link ∷ links) entry up shown = elim (cases_Bool (has_end link x y)) [
  | inl here ↦ rw here (kept_here ia number link (table_of ia links) entry up shown)
  | inr other ↦ rw other (kept_past (interface_of ia link) (table_of ia links) (table_of ia (with_up true x y links)) number entry (kept_up x y ia number links entry up) shown)
]

pub up_stays : (x y ia number : ℕ) (n m : Network) (entry : IfEntry) → set_up true x y n ≡ Ok m → interface_at n ia number ≡ Ok entry → entry.up ≡ true → interface_at m ia number ≡ Ok entry
up_stays x y ia number n m entry change found up =
    ap (λ (w : Network). interface_at w ia number) (sym (is_linked true x y n m change).is)
    ∙ shown_in n (with_up true x y n.links) ia number entry entry found (kept_up x y ia number n.links entry up (in_table_at n ia number entry found))
