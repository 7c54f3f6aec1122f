-- What the calls of beaconing make holds: its keys are accepted and in use, its links are up.
use Rattle.std.proofs.Common.{◌≡◌, ℕ, ◌-◌, ◌≤◌, true, List, [], ◌∷◌, ◌++◌, length, Contains, Option, Some, Ok, refl, sym, ap, ◌∙◌, subst, arith}
use Rattle.std.specs.Prelude.{slice_get}
use Rattle.std.specs.Option.{ok_or, option_map_or, unwrap_or}
use Rattle.std.proofs.lemmas.Option.{same_Some}
use Rattle.refusal.specs.Refusal.{check, or_else}
use Rattle.refusal.proofs.Steps.{bind_ok, ok_or_ok, ok_is}
use Rattle.scion_topology.specs.declared.network.AsEntry.{AsEntry}
use Rattle.scion_topology.specs.Network.{Network, as_named}
use Rattle.scion_topology.specs.Rules.{IsNetwork}
use Rattle.scion_topology.specs.Topology.{interface_at}
use Rattle.scion_topology.specs.Ends.{IsUp}
use Rattle.scion_topology.proofs.Shown.{right_as}
use Rattle.path_segment.specs.declared.entry.Entry.{Entry}
use Rattle.path_segment.specs.Chain.{Chain, chain_of, with_last}
use Rattle.beaconing.specs.declared.fault.BeaconFault.TheVariants.{NotCore, NoInterface, LinkDown}
use Rattle.scion_topology.specs.Keys.{key_in_use}
use Rattle.beaconing.specs.Entry.{key_in, entry_by, kind_over}
use Rattle.beaconing.specs.Calls.{originated_beacon, last_of, extended_beacon, terminated_beacon}
use Rattle.beaconing.specs.Issued.{IsUnderWay, Grows}
use Rattle.beaconing.proofs.Made.{extended_grows, terminated_grows}
use Rattle.beaconing.proofs.Coming.{comes_over}
use Rattle.forwarding.specs.Sound.{KeysAndLinksHold, KeyIsInUse}
use Rattle.forwarding.proofs.Steady.{holds_none, holds_more, in_use_none, in_use_more}

-- an AS accepts the key that it has in use
first_in : (keys : List (List ℕ)) → 1 ≤ length keys
    → Contains keys (unwrap_or (slice_get keys 0) [])
first_in [] some = absurd (omega arith)
first_in (key ∷ older) some = (0, omega arith, refl)

abbrev key_found : Option AsEntry → List ℕ
key_found found = option_map_or (λ one. key_in_use one.keys) found []

key_is : (n : Network) (ia : ℕ) (one : AsEntry) → as_named n.ases ia ≡ Some one
    → key_in_use one.keys ≡ key_in n ia
key_is n ia one named = sym (ap key_found named)

accepts_own : (n : Network) (ia : ℕ) (entry : Entry) → IsNetwork n → entry.ia ≡ ia
    → (one : AsEntry) → as_named n.ases entry.ia ≡ Some one → Contains one.keys (key_in n ia)
accepts_own n ia entry network of one named =
    let right = right_as n entry.ia one network named in
    subst (Contains one.keys) (key_is n entry.ia one named ∙ ap (key_in n) of)
    (first_in one.keys right.0.keys.some)

-- ---- a beacon that begins

-- its one entry is that of its AS
record IsBegun (ia : ℕ) (beacon : Chain) : Type 0 where
  before : Chain
  none : before.entries ≡ []
  entry : Entry
  of : entry.ia ≡ ia
  is : beacon ≡ with_last before entry

is_begun : (n : Network) (ia egress timestamp beta0 : ℕ) (beacon : Chain) → IsNetwork n
    → originated_beacon n ia egress timestamp beta0 ≡ Ok beacon → IsBegun ia beacon
unfolding originated_beacon
is_begun n ia egress timestamp beta0 beacon network found =
    let s1 = bind_ok (ok_or (as_named n.ases ia) NotCore) _ beacon found in
    let named = ok_or_ok (as_named n.ases ia) NotCore s1.0 s1.1 in
    let s2 = bind_ok (check s1.0.core NotCore) _ beacon s1.2 in
    let s3 = bind_ok (or_else NoInterface (interface_at n ia egress)) _ beacon s2.2 in
    let s4 = bind_ok (check s3.0.up LinkDown) _ beacon s3.2 in
    let entry = entry_by s1.0 timestamp beta0 0 egress in
    record {
      before = chain_of (kind_over s3.0.kind) timestamp beta0 [];
      none = refl;
      entry = entry;
      of = (right_as n ia s1.0 network named).1;
      is = sym (ok_is (chain_of (kind_over s3.0.kind) timestamp beta0 (entry ∷ [])) beacon s4.2);
    }

no_last : (before : Chain) → before.entries ≡ [] → (last : Entry) → last_of before ≡ Some last → ⊥
no_last before none last there =
    let e : slice_get {X = Entry} [] 0 ≡ Some last =
    sym (ap (λ (es : List Entry). slice_get es (length es - 1)) none) ∙ there in
    absurd cc

no_keys : (before : Chain) → before.entries ≡ [] → length {A = List ℕ} [] ≡ length before.entries
no_keys before none = sym (ap (λ (es : List Entry). length es) none)

pub begun_holds : (n : Network) (ia egress timestamp beta0 : ℕ) (beacon : Chain) (from to : ℕ)
    → IsNetwork n → originated_beacon n ia egress timestamp beta0 ≡ Ok beacon
    → KeysAndLinksHold n (key_in n ia ∷ []) beacon from to
begun_holds n ia egress timestamp beta0 beacon from to network found =
    let b = is_begun n ia egress timestamp beta0 beacon network found in
    subst (λ (c : Chain). KeysAndLinksHold n (key_in n ia ∷ []) c from to) (sym b.is)
    (holds_more n [] b.before b.entry (key_in n ia) from to (no_keys b.before b.none)
    (holds_none n [] b.before from to b.none) (accepts_own n ia b.entry network b.of)
    (λ last there. absurd (no_last b.before b.none last there)))

pub begun_in_use : (n : Network) (ia egress timestamp beta0 : ℕ) (beacon : Chain) (from to x : ℕ)
    → IsNetwork n → originated_beacon n ia egress timestamp beta0 ≡ Ok beacon
    → KeyIsInUse n (key_in n ia ∷ []) beacon from to x
begun_in_use n ia egress timestamp beta0 beacon from to x network found =
    let b = is_begun n ia egress timestamp beta0 beacon network found in
    subst (λ (c : Chain). KeyIsInUse n (key_in n ia ∷ []) c from to x) (sym b.is)
    (in_use_more n [] b.before b.entry (key_in n ia) from to x (no_keys b.before b.none)
    (in_use_none n [] b.before from to x b.none) (λ same. ap (key_in n) (sym b.of ∙ same)))

-- ---- one that goes on, and a segment

up_behind : (n : Network) (beacon : Chain) (ia : ℕ) (after : Chain) → IsNetwork n
    → Grows n beacon ia after → (last : Entry) → last_of beacon ≡ Some last
    → IsUp n last.ia last.cons_egress true
up_behind n beacon ia after network grows last there =
    let over = comes_over n beacon ia grows.entry.cons_ingress network grows.came in
    let same = same_Some over.last last (sym over.is_last ∙ there) in
    subst (λ (e : Entry). IsUp n e.ia e.cons_egress true) same over.up

grown_holds : (n : Network) (keys : List (List ℕ)) (beacon : Chain) (ia : ℕ) (after : Chain)
    (from to : ℕ) → IsNetwork n → IsUnderWay n keys beacon → KeysAndLinksHold n keys beacon from to
    → Grows n beacon ia after → KeysAndLinksHold n (keys ++ key_in n ia ∷ []) after from to
grown_holds n keys beacon ia after from to network way holds grows =
    subst (λ (c : Chain). KeysAndLinksHold n (keys ++ key_in n ia ∷ []) c from to) (sym grows.is)
    (holds_more n keys beacon grows.entry (key_in n ia) from to way.made.keyed holds
    (accepts_own n ia grows.entry network grows.of) (up_behind n beacon ia after network grows))

grown_in_use : (n : Network) (keys : List (List ℕ)) (beacon : Chain) (ia : ℕ) (after : Chain)
    (from to x : ℕ) → IsUnderWay n keys beacon → KeyIsInUse n keys beacon from to x
    → Grows n beacon ia after → KeyIsInUse n (keys ++ key_in n ia ∷ []) after from to x
grown_in_use n keys beacon ia after from to x way in_use grows =
    subst (λ (c : Chain). KeyIsInUse n (keys ++ key_in n ia ∷ []) c from to x) (sym grows.is)
    (in_use_more n keys beacon grows.entry (key_in n ia) from to x way.made.keyed in_use
    (λ same. ap (key_in n) (sym grows.of ∙ same)))

pub passed_holds : (n : Network) (keys : List (List ℕ)) (beacon : Chain) (ia egress : ℕ)
    (next : Chain) (from to : ℕ) → IsNetwork n → IsUnderWay n keys beacon
    → KeysAndLinksHold n keys beacon from to → extended_beacon n beacon ia egress ≡ Ok next
    → KeysAndLinksHold n (keys ++ key_in n ia ∷ []) next from to
passed_holds n keys beacon ia egress next from to network way holds found =
    grown_holds n keys beacon ia next from to network way holds
    (extended_grows n beacon ia egress next found)

pub ended_holds : (n : Network) (keys : List (List ℕ)) (beacon : Chain) (ia : ℕ) (segment : Chain)
    (from to : ℕ) → IsNetwork n → IsUnderWay n keys beacon → KeysAndLinksHold n keys beacon from to
    → terminated_beacon n beacon ia ≡ Ok segment → KeysAndLinksHold n (keys ++ key_in n ia ∷ []) segment from to
ended_holds n keys beacon ia segment from to network way holds found =
    grown_holds n keys beacon ia segment from to network way holds
    (terminated_grows n beacon ia segment found)

pub passed_in_use : (n : Network) (keys : List (List ℕ)) (beacon : Chain) (ia egress : ℕ)
    (next : Chain) (from to x : ℕ) → IsUnderWay n keys beacon → KeyIsInUse n keys beacon from to x
    → extended_beacon n beacon ia egress ≡ Ok next → KeyIsInUse n (keys ++ key_in n ia ∷ []) next from to x
passed_in_use n keys beacon ia egress next from to x way in_use found =
    grown_in_use n keys beacon ia next from to x way in_use
    (extended_grows n beacon ia egress next found)

pub ended_in_use : (n : Network) (keys : List (List ℕ)) (beacon : Chain) (ia : ℕ) (segment : Chain)
    (from to x : ℕ) → IsUnderWay n keys beacon → KeyIsInUse n keys beacon from to x
    → terminated_beacon n beacon ia ≡ Ok segment → KeyIsInUse n (keys ++ key_in n ia ∷ []) segment from to x
ended_in_use n keys beacon ia segment from to x way in_use found =
    grown_in_use n keys beacon ia segment from to x way in_use
    (terminated_grows n beacon ia segment found)
