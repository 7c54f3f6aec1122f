-- A link that goes up or down and a new key leave what the network has made as it was.
use Rattle.std.specs.List.{cons_option}
use Rattle.std.proofs.Common.{◌≡◌, ℕ, zero, suc, ◌<◌, Bool, true, false, cond, eqb, List, [], ◌∷◌, length, get_or, Option, Some, None, Ok, refl, sym, ap, ◌∙◌, arith, inl, inr, ◌⊎◌, Any, option_map}
use Rattle.std.specs.Option.{option_map_or}
use Rattle.std.proofs.lemmas.Bool.{cases_Bool}
use Rattle.std.proofs.lemmas.Option.{same_Some}
use Rattle.scion_topology.specs.declared.entry.IfEntry.{IfEntry}
use Rattle.scion_topology.specs.declared.entry.LinkKind.{LinkKind}
use Rattle.scion_topology.specs.declared.fault.TopologyFault.TheVariants as faults
use Rattle.scion_topology.specs.declared.network.AsEntry.{AsEntry}
use Rattle.scion_topology.specs.declared.network.Link.{Link}
use Rattle.scion_topology.specs.Keys.{key_from, renewed_keys}
use Rattle.scion_topology.specs.Network.{Network, as_named, has_end, interface_of, table_of, interface_in}
use Rattle.scion_topology.specs.Causes.{is_core}
use Rattle.scion_topology.specs.Topology.{known_as, known_link, interface_at, with_up, with_key, set_up, with_rotated_key}
use Rattle.refusal.proofs.Steps.{bind_ok, ok_is, ok_or_ok}
use Rattle.path_segment.specs.declared.entry.Entry.{Entry}
use Rattle.path_segment.specs.declared.kind.SegKind.{SegKind}
use Rattle.path_segment.specs.declared.kind.SegKind.TheVariants.{Core, Intra}
use Rattle.path_segment.specs.Chain.{Chain}
use Rattle.beaconing.specs.Entry.{goes_on}
use Rattle.beaconing.specs.Issued.{LeadsOn, IsMade, HasWayOut, IsUnderWay, IsIssued}
use Rattle.beaconing.proofs.Reaching.{any_here, any_there}

-- ---- an AS and its keys

-- an AS of this address, alike but for its keys
record HasAlike (ases : List AsEntry) (ia : ℕ) (one : AsEntry) : Type 0 where
  pub other : AsEntry
  pub named : as_named ases ia ≡ Some other
  pub lifetime : one.exp_time ≡ other.exp_time
  pub core : one.core ≡ other.core

itself : (ases : List AsEntry) (ia : ℕ) (one : AsEntry) → as_named ases ia ≡ Some one → HasAlike ases ia one
itself ases ia one named = record { other = one; named = named; lifetime = refl; core = refl }

rekeyed_first : (keys : List (List ℕ)) (x : ℕ) (first : AsEntry) (rest : List AsEntry) (one : AsEntry)
    → as_named (first ∷ rest) x ≡ Some one → HasAlike (record first { keys = keys } ∷ rest) x one
rekeyed_first keys x first rest one named = elim (cases_Bool (eqb first.ia x)) [
  | inl hit ↦ (
      let now : cond true (Some first) (as_named rest x) ≡ Some one = rw hit at named in
      let same : first ≡ one = same_Some first one now in
      record {
        other = record first { keys = keys };
        named = rw hit refl;
        lifetime = ap (λ (o : AsEntry). o.exp_time) (sym same);
        core = ap (λ (o : AsEntry). o.core) (sym same);
      })
  | inr miss ↦ (
      let later : cond false (Some first) (as_named rest x) ≡ Some one = rw miss at named in
      itself (record first { keys = keys } ∷ rest) x one (rw miss later))
]

alike_later : (x : ℕ) (first : AsEntry) (rest : List AsEntry) (one : AsEntry) → eqb first.ia x ≡ false
    → HasAlike rest x one → HasAlike (first ∷ rest) x one
alike_later x first rest one miss alike = record {
  other = alike.other;
  named = rw miss alike.named;
  lifetime = alike.lifetime;
  core = alike.core;
}

rekeyed : (ia : ℕ) (key : List ℕ) (x : ℕ) (ases : List AsEntry) (one : AsEntry) → as_named ases x ≡ Some one
    → HasAlike (with_key ia key ases) x one
rekeyed ia key x [] one named = absurd cc
rekeyed ia key x (first ∷ rest) one named = elim (cases_Bool (eqb first.ia ia)) [
  | inl here ↦ rw here (rekeyed_first (renewed_keys key first.keys) x first rest one named)
  | inr other ↦ rw other (elim (cases_Bool (eqb first.ia x)) [
    | inl hit ↦ (
        let now : cond true (Some first) (as_named rest x) ≡ Some one = rw hit at named in
        itself (first ∷ with_key ia key rest) x one (rw hit now))
    | inr miss ↦ (
        let later : cond false (Some first) (as_named rest x) ≡ Some one = rw miss at named in
        alike_later x first (with_key ia key rest) one miss (rekeyed ia key x rest one later))
  ])
]

-- ---- a link and its state

any_at : {X : Type 0} (P : X → Type 0) (x : X) (xs : List X) (k : ℕ) (d : X) → k < length (x ∷ xs)
    → get_or (x ∷ xs) k d ≡ d → P d → P x ⊎ Any P xs
any_at P x xs zero d below at p = inl (rw at p)
any_at P x xs (suc k) d below at p = let inside : k < length xs = omega arith in inr (k, d, inside, at, p)

any_with_up : (P : Link → Type 0) (up : Bool) → ((link : Link) → P link → P (record link { up = up }))
    → (ia number : ℕ) (ls : List Link) → Any P ls → Any P (with_up up ia number ls)
any_with_up P up same ia number [] any = any
any_with_up P up same ia number (link ∷ ls) any = elim (cases_Bool (has_end link ia number)) [
  | inl here ↦ rw here (elim (any_at P link ls any.0 any.1 any.2 any.3 any.4) [
    | inl p ↦ any_here P (record link { up = up }) ls (same link p)
    | inr later ↦ any_there P (record link { up = up }) ls later
  ])
  | inr other ↦ rw other (elim (any_at P link ls any.0 any.1 any.2 any.3 any.4) [
    | inl p ↦ any_here P link (with_up up ia number ls) p
    | inr later ↦ any_there P link (with_up up ia number ls) (any_with_up P up same ia number ls later)
  ])
]

leads_still : (kind : SegKind) (entry next : Entry) (up : Bool) (link : Link) → LeadsOn kind entry next link
    → LeadsOn kind entry next (record link { up = up })
leads_still Core entry next up link leads = leads
leads_still Intra entry next up link leads = leads

abbrev kind_in : List IfEntry → ℕ → Option LinkKind
kind_in table number = option_map (λ (e : IfEntry). e.kind) (interface_in table number)

kind_first : (o : Option IfEntry) (number : ℕ) (t s : List IfEntry) → kind_in t number ≡ kind_in s number
    → kind_in (cons_option o t) number ≡ kind_in (cons_option o s) number
kind_first None number t s same = same
kind_first (Some e) number t s same = elim (cases_Bool (eqb e.number number)) [
  | inl here ↦ rw here refl
  | inr other ↦ rw other same
]

kind_changed : (up : Bool) (number : ℕ) (e : IfEntry) (t : List IfEntry)
    → kind_in (record e { up = up } ∷ t) number ≡ kind_in (e ∷ t) number
kind_changed up number e t = elim (cases_Bool (eqb e.number number)) [
  | inl here ↦ rw here refl
  | inr other ↦ rw other refl
]

kind_restated : (up : Bool) (x number : ℕ) (link : Link) (t : List IfEntry)
    → kind_in (cons_option (interface_of x (record link { up = up })) t) number ≡ kind_in (cons_option (interface_of x link) t) number
kind_restated up x number link t = go (eqb link.a.ia x) (eqb link.b.ia x) _ _
  where
    go : (p q : Bool) (a b : IfEntry)
        → kind_in (cons_option (cond p (Some (record a { up = up })) (cond q (Some (record b { up = up })) None)) t) number ≡ kind_in (cons_option (cond p (Some a) (cond q (Some b) None)) t) number
    go true q a b = kind_changed up number a t
    go false true a b = kind_changed up number b t
    go false false a b = refl

kind_with_up : (up : Bool) (ia at x number : ℕ) (ls : List Link)
    → kind_in (table_of x (with_up up ia at ls)) number ≡ kind_in (table_of x ls) number
kind_with_up up ia at x number [] = refl
kind_with_up up ia at x number (link ∷ ls) = elim (cases_Bool (has_end link ia at)) [
  | inl here ↦ rw here (kind_restated up x number link (table_of x ls))
  | inr other ↦ rw other
      (kind_first (interface_of x link) number (table_of x (with_up up ia at ls)) (table_of x ls) (kind_with_up up ia at x number ls))
]

-- ---- what stays of a network

record Outlasts (n m : Network) : Type 0 where
  pub ases : (ia : ℕ) (one : AsEntry) → as_named n.ases ia ≡ Some one → HasAlike m.ases ia one
  pub joined : (kind : SegKind) (entry next : Entry) → Any (LeadsOn kind entry next) n.links
      → Any (LeadsOn kind entry next) m.links
  pub kinds : (x number : ℕ) → kind_in (table_of x m.links) number ≡ kind_in (table_of x n.links) number

core_some : (o : Option AsEntry) → option_map_or (λ (one : AsEntry). one.core) o false ≡ true
    → (one : AsEntry) × (o ≡ Some one) × (one.core ≡ true)
core_some None core = absurd cc
core_some (Some one) core = (one, refl, core)

core_still : (n m : Network) → Outlasts n m → (ia : ℕ) → is_core n.ases ia ≡ true → is_core m.ases ia ≡ true
core_still n m stays ia core =
    let some = core_some (as_named n.ases ia) core in
    let alike = stays.ases ia some.0 some.1 in
    rw alike.named (sym alike.core ∙ some.2)

kind_some : (o : Option IfEntry) (kind : LinkKind) → option_map (λ (e : IfEntry). e.kind) o ≡ Some kind
    → (e : IfEntry) × (o ≡ Some e) × (e.kind ≡ kind)
kind_some None kind is = absurd cc
kind_some (Some e) kind is = (e, refl, same_Some e.kind kind is)

there_by : (m : Network) (ia number : ℕ) (one : AsEntry) (out : IfEntry) → as_named m.ases ia ≡ Some one
    → interface_in (table_of ia m.links) number ≡ Some out → interface_at m ia number ≡ Ok out
there_by m ia number one out named shown = rw (named, shown) refl

out_still : (n m : Network) → Outlasts n m → (kind : SegKind) (entry : Entry) → HasWayOut n kind entry
    → HasWayOut m kind entry
out_still n m stays kind entry way =
    let step = bind_ok (known_as n entry.ia) _ way.out way.there in
    let named : as_named n.ases entry.ia ≡ Some step.0 = ok_or_ok _ faults.UnknownAs step.0 step.1 in
    let shown : interface_in (table_of entry.ia n.links) entry.cons_egress ≡ Some way.out =
    ok_or_ok _ faults.NoLink way.out step.2 in
    let alike = stays.ases entry.ia step.0 named in
    let some =
    kind_some (interface_in (table_of entry.ia m.links) entry.cons_egress) way.out.kind (stays.kinds entry.ia entry.cons_egress ∙ ap (option_map (λ (e : IfEntry). e.kind)) shown) in
    record {
      out = some.0;
      there = there_by m entry.ia entry.cons_egress alike.other some.0 alike.named some.1;
      on = ap (goes_on kind) some.2 ∙ way.on;
    }

made_still : (n m : Network) → Outlasts n m → (keys : List (List ℕ)) (chain : Chain) → IsMade n keys chain
    → IsMade m keys chain
made_still n m stays keys chain made = record {
  keyed = made.keyed;
  core = λ first at. core_still n m stays first.ia (made.core first at);
  entries = λ i key entry at_key at_entry. (
      let own = made.entries i key entry at_key at_entry in
      let alike = stays.ases entry.ia own.one own.named in
      record { one = alike.other; named = alike.named; lifetime = own.lifetime ∙ alike.lifetime; mac = own.mac });
  joined = λ i entry next at_entry at_next. stays.joined chain.kind entry next (made.joined i entry next at_entry at_next);
}

under_way_still : (n m : Network) → Outlasts n m → (keys : List (List ℕ)) (b : Chain) → IsUnderWay n keys b
    → IsUnderWay m keys b
under_way_still n m stays keys b under = record {
  rules = under.rules;
  made = made_still n m stays keys b under.made;
  out = λ last at. out_still n m stays b.kind last (under.out last at);
}

issued_still : (n m : Network) → Outlasts n m → (keys : List (List ℕ)) (s : Chain) → IsIssued n keys s
    → IsIssued m keys s
issued_still n m stays keys s issued = record { rules = issued.rules; made = made_still n m stays keys s issued.made }

-- ---- the two changes

Outlasts-set_up : (up : Bool) (ia number : ℕ) (n m : Network) → set_up up ia number n ≡ Ok m → Outlasts n m
unfolding set_up
Outlasts-set_up up ia number n m change =
    let step = bind_ok (known_link n ia number) _ m change in
    let is = ok_is (record n { links = with_up up ia number n.links }) m step.2 in
    rw (← is) (record {
      ases = itself n.ases;
      joined = λ kind entry next leads. any_with_up (LeadsOn kind entry next) up (leads_still kind entry next up) ia number n.links leads;
      kinds = λ x at. kind_with_up up ia number x at n.links;
    })

Outlasts-rotated : (ia : ℕ) (key : List ℕ) (n m : Network) → with_rotated_key ia key n ≡ Ok m → Outlasts n m
unfolding with_rotated_key
Outlasts-rotated ia key n m change =
    let step = bind_ok (known_as n ia) _ m change in
    let made = bind_ok (key_from key) _ m step.2 in
    let is = ok_is (record n { ases = with_key ia made.0 n.ases }) m made.2 in
    rw (← is) (record {
      ases = λ x one named. rekeyed ia made.0 x n.ases one named;
      joined = λ kind entry next leads. leads;
      kinds = λ x at. refl;
    })

pub beacon_linked : (n m : Network) (up : Bool) (ia number : ℕ) (keys : List (List ℕ)) (b : Chain)
    → set_up up ia number n ≡ Ok m → IsUnderWay n keys b → IsUnderWay m keys b
beacon_linked n m up ia number keys b change = under_way_still n m (Outlasts-set_up up ia number n m change) keys b

pub beacon_keyed : (n m : Network) (ia : ℕ) (key : List ℕ) (keys : List (List ℕ)) (b : Chain)
    → with_rotated_key ia key n ≡ Ok m → IsUnderWay n keys b → IsUnderWay m keys b
beacon_keyed n m ia key keys b change = under_way_still n m (Outlasts-rotated ia key n m change) keys b

pub segment_linked : (n m : Network) (up : Bool) (ia number : ℕ) (keys : List (List ℕ)) (s : Chain)
    → set_up up ia number n ≡ Ok m → IsIssued n keys s → IsIssued m keys s
segment_linked n m up ia number keys s change = issued_still n m (Outlasts-set_up up ia number n m change) keys s

pub segment_keyed : (n m : Network) (ia : ℕ) (key : List ℕ) (keys : List (List ℕ)) (s : Chain)
    → with_rotated_key ia key n ≡ Ok m → IsIssued n keys s → IsIssued m keys s
segment_keyed n m ia key keys s change = issued_still n m (Outlasts-rotated ia key n m change) keys s
