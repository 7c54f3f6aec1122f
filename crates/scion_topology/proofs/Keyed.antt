-- A topology after one of its ASes took another key.
use Rattle.std.proofs.Common.{◌≡◌, ℕ, zero, suc, ◌+◌, ◌<◌, Bool, true, false, not, eqb, List, [], ◌∷◌, length, get_or, Some, Result, Ok, Err, refl, sym, ap, ◌∙◌, arith, inl, inr}
use Rattle.std.specs.Prelude.{slice_get, slice_set, nat_le}
use Rattle.std.specs.List.{list_all, list_any, position_or_len}
use Rattle.std.specs.Option.{option_map_or}
use Rattle.std.proofs.lemmas.Bool.{cases_Bool, and_parts, and_from}
use Rattle.std.proofs.lemmas.Option.{slice_get-get_or}
use Rattle.scion_topology.specs.declared.fault.TopologyFault.{TopologyFault}
use Rattle.scion_topology.specs.declared.network.AsEntry.{AsEntry}
use Rattle.scion_topology.specs.declared.network.End.{End}
use Rattle.scion_topology.specs.declared.network.Link.{Link}
use Rattle.scion_topology.specs.declared.network.LinkClass.{LinkClass}
use Rattle.scion_topology.specs.declared.network.LinkClass.TheVariants.{Core, Child}
use Rattle.scion_topology.specs.Keys.{is_key, key_from, renewed_keys}
use Rattle.scion_topology.specs.inner.Keys.{are_keys}
use Rattle.refusal.specs.Refusal.{◌>>=◌}
use Rattle.scion_topology.specs.Network.{Network, is_wildcard, as_named}
use Rattle.scion_topology.specs.Causes.{lists_twice, has_unknown_end, lacks_router, has_no_router, is_core, is_ill_classed, is_ill_joined, cause_of}
use Rattle.scion_topology.specs.inner.Causes.{is_as}
use Rattle.scion_topology.specs.Topology.{IsNetwork, known_as, with_key, with_rotated_key}
use Rattle.scion_topology.specs.Index.{IndexValue, index_at, index_from}
use Rattle.scion_topology.specs.inner.Index.{index_in, keyed_at}
use Rattle.refusal.proofs.Steps.{bind_ok, ok_is, ok_or_ok}
use Rattle.scion_topology.proofs.Judging.{judged, rules_from}
use Rattle.scion_topology.proofs.KeyTests.{are_keys_renewed}
use Rattle.scion_topology.proofs.Indexes.{slice_get-bound}
use Rattle.std.proofs.lemmas.List.Folds.{find_at}

-- the AS of an address is the one at its place
pub with_key-keyed_at : (ia : ℕ) (key : List ℕ) (ases : List AsEntry) → with_key ia key ases ≡ keyed_at (position_or_len (λ one. eqb one.ia ia) ases) key ases
with_key-keyed_at ia key [] = refl
with_key-keyed_at ia key (one ∷ rest) = elim (cases_Bool (eqb one.ia ia)) [
  | inl here ↦ rw here refl
  | inr other ↦ rw other (ap (λ (ases : List AsEntry). one ∷ ases) (with_key-keyed_at ia key rest) ∙ next (position_or_len (λ o. eqb o.ia ia) rest))
]
  where
    next : (k : ℕ) → one ∷ keyed_at k key rest ≡ keyed_at (1 + k) key (one ∷ rest)
    next k = let e : suc k ≡ 1 + k = omega arith in ap (λ (i : ℕ). keyed_at i key (one ∷ rest)) e

-- the AS at a place, written anew
pub keyed_at-slice_set : (k : ℕ) (key : List ℕ) (ases : List AsEntry) (one : AsEntry) → slice_get ases k ≡ Some one → slice_set ases k (record one { keys = renewed_keys key one.keys }) ≡ keyed_at k key ases
keyed_at-slice_set k key [] one found = absurd cc
keyed_at-slice_set zero key (first ∷ rest) one found = (let same : first ≡ one = cc in rw same refl)
keyed_at-slice_set (suc k) key (first ∷ rest) one found = ap (λ (ases : List AsEntry). first ∷ ases) (keyed_at-slice_set k key rest one found)

pub put_key-is : (k : ℕ) (key : List ℕ) (ases : List AsEntry) (one : AsEntry) → k < length ases → one ≡ get_or ases k one → slice_set ases k (record one { keys = renewed_keys key one.keys }) ≡ keyed_at k key ases
put_key-is k key ases one below is = keyed_at-slice_set k key ases one (slice_get-get_or ases k one below ∙ ap Some (sym is))

-- ---- what a network is judged by

abbrev IgnoresKeys : (AsEntry → Bool) → Type 0
IgnoresKeys f = (one : AsEntry) (keys : List (List ℕ)) → f (record one { keys = keys }) ≡ f one

same_any : (f : AsEntry → Bool) → IgnoresKeys f → (k : ℕ) (key : List ℕ) (ases : List AsEntry) → list_any f (keyed_at k key ases) ≡ list_any f ases
same_any f same k key [] = refl
same_any f same zero key (one ∷ rest) = rw (same one (renewed_keys key one.keys)) refl
same_any f same (suc k) key (one ∷ rest) = rw (same_any f same k key rest) refl

same_named : (f : AsEntry → Bool) → IgnoresKeys f → (ia k : ℕ) (key : List ℕ) (ases : List AsEntry) → option_map_or f (as_named (keyed_at k key ases) ia) false ≡ option_map_or f (as_named ases ia) false
same_named f same ia k key [] = refl
same_named f same ia zero key (one ∷ rest) = elim (cases_Bool (eqb one.ia ia)) [ inl here ↦ rw here (same one (renewed_keys key one.keys)) | inr other ↦ rw other refl ]
same_named f same ia (suc k) key (one ∷ rest) = elim (cases_Bool (eqb one.ia ia)) [ inl here ↦ rw here refl | inr other ↦ rw other (same_named f same ia k key rest) ]

length-keyed_at : (k : ℕ) (key : List ℕ) (ases : List AsEntry) → length (keyed_at k key ases) ≡ length ases
length-keyed_at k key [] = refl
length-keyed_at zero key (one ∷ rest) = refl
length-keyed_at (suc k) key (one ∷ rest) = ap suc (length-keyed_at k key rest)

lists_twice-keyed_at : (k : ℕ) (key : List ℕ) (ases : List AsEntry) → lists_twice (keyed_at k key ases) ≡ lists_twice ases
unfolding lists_twice
lists_twice-keyed_at k key [] = refl
lists_twice-keyed_at zero key (one ∷ rest) = refl
lists_twice-keyed_at (suc k) key (one ∷ rest) = rw (same_any (λ o. eqb o.ia one.ia) (λ o ks. refl) k key rest, lists_twice-keyed_at k key rest) refl

any_same : (f g : Link → Bool) (links : List Link) → ((link : Link) → f link ≡ g link) → list_any f links ≡ list_any g links
any_same f g [] same = refl
any_same f g (link ∷ links) same = rw (same link, any_same f g links same) refl

unknown_same : (k : ℕ) (key : List ℕ) (ases : List AsEntry) (link : Link) → has_unknown_end (keyed_at k key ases) link ≡ has_unknown_end ases link
unknown_same k key ases link = rw (same_any (λ o. eqb o.ia link.a.ia) (λ o ks. refl) k key ases, same_any (λ o. eqb o.ia link.b.ia) (λ o ks. refl) k key ases) refl

router_same : (k : ℕ) (key : List ℕ) (ases : List AsEntry) (end : End) → lacks_router (keyed_at k key ases) end ≡ lacks_router ases end
router_same k key ases end = same_named (λ one. nat_le one.routers end.router) (λ o ks. refl) end.ia k key ases

core_same : (k : ℕ) (key : List ℕ) (ases : List AsEntry) (ia : ℕ) → is_core (keyed_at k key ases) ia ≡ is_core ases ia
core_same k key ases ia = same_named (λ one. one.core) (λ o ks. refl) ia k key ases

class_same : (k : ℕ) (key : List ℕ) (ases : List AsEntry) (class : LinkClass) (a b : ℕ) → is_ill_classed (keyed_at k key ases) class a b ≡ is_ill_classed ases class a b
class_same k key ases Core a b = rw (core_same k key ases a, core_same k key ases b) refl
class_same k key ases Child a b = rw (core_same k key ases b) refl

pub cause_of-keyed_at : (k : ℕ) (key : List ℕ) (ases : List AsEntry) (links : List Link) → cause_of (keyed_at k key ases) links ≡ cause_of ases links
unfolding cause_of
cause_of-keyed_at k key ases links =
    rw (
      length-keyed_at k key ases,
      lists_twice-keyed_at k key ases,
      any_same (λ l. has_unknown_end (keyed_at k key ases) l) (λ l. has_unknown_end ases l) links (unknown_same k key ases),
      any_same (λ l. has_no_router (keyed_at k key ases) l) (λ l. has_no_router ases l) links (λ l. rw (router_same k key ases l.a, router_same k key ases l.b) refl),
      any_same (λ l. is_ill_joined (keyed_at k key ases) l) (λ l. is_ill_joined ases l) links (λ l. rw (class_same k key ases l.class l.a.ia l.b.ia) refl),
    ) refl

-- the network with this key in use for the AS at a place
abbrev pub rekeyed : ℕ → List ℕ → Network → Network
rekeyed k key n = record { ases = keyed_at k key n.ases; links = n.links }

all_keyed : (k : ℕ) (key : List ℕ) (ases : List AsEntry) → is_key key ≡ true → list_all is_as ases ≡ true → list_all is_as (keyed_at k key ases) ≡ true
all_keyed k key [] fit all = all
all_keyed zero key (one ∷ rest) fit all =
    let parts = and_parts (is_as one) (list_all is_as rest) all in
    and_from (is_as (record one { keys = renewed_keys key one.keys })) (list_all is_as rest) (as_keyed one parts.0) parts.1
  where
    as_keyed : (one : AsEntry) → is_as one ≡ true → is_as (record one { keys = renewed_keys key one.keys }) ≡ true
    as_keyed one passed =
        let a = and_parts (not (is_wildcard one.ia)) _ passed in
        let b = and_parts (nat_le 1 one.routers) _ a.1 in
        let c = and_parts (nat_le one.routers 64) (are_keys one.keys) b.1 in
        and_from _ _ a.0 (and_from _ _ b.0 (and_from _ _ c.0 (are_keys_renewed key one.keys fit c.1)))
all_keyed (suc k) key (one ∷ rest) fit all =
    let parts = and_parts (is_as one) (list_all is_as rest) all in
    and_from (is_as one) (list_all is_as (keyed_at k key rest)) parts.0 (all_keyed k key rest fit parts.1)

pub IsNetwork-rekeyed : (k : ℕ) (key : List ℕ) (n : Network) → is_key key ≡ true → IsNetwork n → IsNetwork (rekeyed k key n)
IsNetwork-rekeyed k key n fit network = let passed = judged n network in rules_from (rekeyed k key n) (record {
  ases = all_keyed k key n.ases fit passed.ases;
  links = passed.links;
  cause = cause_of-keyed_at k key n.ases n.links ∙ passed.cause;
})

pub index_from-keyed_at : (base k : ℕ) (key : List ℕ) (ases : List AsEntry) (links : List Link) (x : ℕ) → index_from base (keyed_at k key ases) links x ≡ index_from base ases links x
index_from-keyed_at base k key [] links x = refl
index_from-keyed_at base zero key (one ∷ rest) links x = refl
index_from-keyed_at base (suc k) key (one ∷ rest) links x = rw (index_from-keyed_at (base + 1) k key rest links x) refl

-- ---- the change

pub rotated-index_in : (ia : ℕ) (key new : List ℕ) (n : Network) (one : AsEntry) (index : IndexValue) → index_in n ia ≡ Ok (one, index) → key_from key ≡ Ok new → with_rotated_key ia key n ≡ Ok (rekeyed index.position new n)
unfolding with_rotated_key
rotated-index_in ia key new n one index found fits =
    let at = bind_ok (known_as n ia) _ (one, index) found in
    let pair = ok_is (at.0, index_at (position_or_len (λ other. eqb other.ia ia) n.ases) ia n.links) (one, index) at.2 in
    let place : position_or_len (λ other. eqb other.ia ia) n.ases ≡ index.position = ap (λ (p : AsEntry × IndexValue). p.1.position) pair in
    rw (at.1, fits, with_key-keyed_at ia new n.ases, place) refl

-- an AS with its index
abbrev paired : Network → ℕ → AsEntry → Result (AsEntry × IndexValue) TopologyFault
paired n ia one = Ok (one, index_at (position_or_len (λ other. eqb other.ia ia) n.ases) ia n.links)

abbrev made_with : Network → ℕ → List ℕ → AsEntry → Result Network TopologyFault
made_with n ia key one = key_from key >>= λ new. Ok (record { ases = with_key ia new n.ases; links = n.links })

unknown_both : (r : Result AsEntry TopologyFault) (n : Network) (ia : ℕ) (key : List ℕ) (f : TopologyFault) → (r >>= paired n ia) ≡ Err f → (r >>= made_with n ia key) ≡ Err f
unknown_both (Ok x) n ia key f e = absurd cc
unknown_both (Err g) n ia key f e = cc

pub rotated-unknown : (ia : ℕ) (key : List ℕ) (n : Network) (f : TopologyFault) → index_in n ia ≡ Err f → with_rotated_key ia key n ≡ Err f
unfolding with_rotated_key
rotated-unknown ia key n f none = unknown_both (known_as n ia) n ia key f none

pub rotated-bad : (ia : ℕ) (key : List ℕ) (n : Network) (one : AsEntry) (index : IndexValue) (f : TopologyFault) → index_in n ia ≡ Ok (one, index) → key_from key ≡ Err f → with_rotated_key ia key n ≡ Err f
unfolding with_rotated_key
rotated-bad ia key n one index f found bad = let at = bind_ok (known_as n ia) _ (one, index) found in rw (at.1, bad) refl

pub within-index_in : (n : Network) (ia : ℕ) (one : AsEntry) (index : IndexValue) → index_in n ia ≡ Ok (one, index) → index.position < length n.ases
within-index_in n ia one index found =
    let at = bind_ok (known_as n ia) _ (one, index) found in
    let pair = ok_is (at.0, index_at (position_or_len (λ other. eqb other.ia ia) n.ases) ia n.links) (one, index) at.2 in
    let place : position_or_len (λ other. eqb other.ia ia) n.ases ≡ index.position = ap (λ (p : AsEntry × IndexValue). p.1.position) pair in
    let named = ok_or_ok (as_named n.ases ia) _ at.0 at.1 in
    let got : slice_get n.ases (position_or_len (λ other. eqb other.ia ia) n.ases) ≡ Some at.0 = sym (find_at (λ other. eqb other.ia ia) n.ases) ∙ named in
    rw (← place) (slice_get-bound n.ases (position_or_len (λ other. eqb other.ia ia) n.ases) at.0 got)
