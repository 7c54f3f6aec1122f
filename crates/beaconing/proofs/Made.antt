-- What each call adds to a chain, and that the calls of one network make a segment under the keys
-- that its ASes have in use.
use Rattle.std.proofs.Common.{◌≡◌, ℕ, List, [], ◌∷◌, ◌++◌, length, Some, Ok, refl, sym, ap, subst, ◌∙◌}
use Rattle.std.specs.Prelude.{map, nat_lt}
use Rattle.std.specs.Option.{ok_or}
use Rattle.std.proofs.lemmas.List.{map-append}
use Rattle.refusal.specs.Refusal.{check, or_else}
use Rattle.refusal.proofs.Steps.{bind_ok, ok_or_ok, ok_is}
use Rattle.scion_topology.specs.declared.network.AsEntry.{AsEntry}
use Rattle.scion_topology.specs.Network.{Network, as_named}
use Rattle.scion_topology.specs.Topology.{IsNetwork, interface_at}
use Rattle.path_segment.specs.declared.entry.Entry.{Entry}
use Rattle.path_segment.specs.Chain.{Chain, chain_of, with_last}
use Rattle.beaconing.specs.declared.fault.BeaconFault.TheVariants.{TooLong, Loop, NotCore, NoInterface, LinkDown, WrongKind, NotHere}
use Rattle.scion_topology.specs.Keys.{key_in_use}
use Rattle.beaconing.specs.Entry.{key_in, entry_by, added_by, kind_over, goes_on}
use Rattle.beaconing.specs.Calls.{originated_beacon, come_to, is_new, extended_beacon, terminated_beacon}
use Rattle.beaconing.specs.Issued.{IsUnderWay, IsIssued, keys_in_use, passed_through, Grows}
use Rattle.beaconing.proofs.Reaching.{ia_of_named}
use Rattle.beaconing.proofs.Issuing.{begun, ended}
use Rattle.beaconing.proofs.Issuing as calls

-- ---- what a call adds

-- the first entry of a beacon
record IsBegun (n : Network) (ia : ℕ) (b : Chain) : Type 0 where
  pub one : AsEntry
  pub named : as_named n.ases ia ≡ Some one
  pub entry : Entry
  pub of : entry.ia ≡ ia
  pub is : b.entries ≡ entry ∷ []

is_begun : (n : Network) (ia egress timestamp beta0 : ℕ) (b : Chain)
    → originated_beacon n ia egress timestamp beta0 ≡ Ok b → IsBegun n ia b
unfolding originated_beacon
is_begun n ia egress timestamp beta0 b found =
    let s1 = bind_ok (ok_or (as_named n.ases ia) NotCore) _ b found in
    let named = ok_or_ok (as_named n.ases ia) NotCore s1.0 s1.1 in
    let s2 = bind_ok (check s1.0.core NotCore) _ b s1.2 in
    let s3 = bind_ok (or_else NoInterface (interface_at n ia egress)) _ b s2.2 in
    let s4 = bind_ok (check s3.0.up LinkDown) _ b s3.2 in
    let e = entry_by s1.0 timestamp beta0 0 egress in
    record {
      one = s1.0;
      named = named;
      entry = e;
      of = ia_of_named n.ases ia s1.0 named;
      is = sym (ap (λ (c : Chain). c.entries) (ok_is (chain_of (kind_over s3.0.kind) timestamp beta0 (e ∷ [])) b s4.2));
    }

-- the entry of an AS of the network that a call adds
record Adds (n : Network) (b : Chain) (ia : ℕ) (c : Chain) : Type 0 where
  pub one : AsEntry
  pub named : as_named n.ases ia ≡ Some one
  pub grows : Grows n b ia c

adds_next : (n : Network) (b : Chain) (ia egress : ℕ) (c : Chain) → extended_beacon n b ia egress ≡ Ok c → Adds n b ia c
unfolding extended_beacon
adds_next n b ia egress c found =
    let s1 = bind_ok (ok_or (as_named n.ases ia) NotHere) _ c found in
    let named = ok_or_ok (as_named n.ases ia) NotHere s1.0 s1.1 in
    let s2 = bind_ok (come_to n b ia) _ c s1.2 in
    let s3 = bind_ok (check (is_new b s1.0.ia) Loop) _ c s2.2 in
    let s4 = bind_ok (check (nat_lt (length b.entries) 62) TooLong) _ c s3.2 in
    let s5 = bind_ok (or_else NoInterface (interface_at n ia egress)) _ c s4.2 in
    let s6 = bind_ok (check (goes_on b.kind s5.0.kind) WrongKind) _ c s5.2 in
    let s7 = bind_ok (check s5.0.up LinkDown) _ c s6.2 in
    record {
      one = s1.0;
      named = named;
      grows = record {
        entry = added_by s1.0 b s2.0 egress;
        of = ia_of_named n.ases ia s1.0 named;
        came = s2.1;
        is = sym (ok_is (with_last b (added_by s1.0 b s2.0 egress)) c s7.2);
      };
    }

adds_last : (n : Network) (b : Chain) (ia : ℕ) (c : Chain) → terminated_beacon n b ia ≡ Ok c → Adds n b ia c
unfolding terminated_beacon
adds_last n b ia c found =
    let s1 = bind_ok (ok_or (as_named n.ases ia) NotHere) _ c found in
    let named = ok_or_ok (as_named n.ases ia) NotHere s1.0 s1.1 in
    let s2 = bind_ok (come_to n b ia) _ c s1.2 in
    let s3 = bind_ok (check (is_new b s1.0.ia) Loop) _ c s2.2 in
    record {
      one = s1.0;
      named = named;
      grows = record {
        entry = added_by s1.0 b s2.0 0;
        of = ia_of_named n.ases ia s1.0 named;
        came = s2.1;
        is = sym (ok_is (with_last b (added_by s1.0 b s2.0 0)) c s3.2);
      };
    }

pub extended_grows : (n : Network) (b : Chain) (ia egress : ℕ) (c : Chain)
    → extended_beacon n b ia egress ≡ Ok c → Grows n b ia c
extended_grows n b ia egress c found = (adds_next n b ia egress c found).grows

pub terminated_grows : (n : Network) (b : Chain) (ia : ℕ) (c : Chain) → terminated_beacon n b ia ≡ Ok c → Grows n b ia c
terminated_grows n b ia c found = (adds_last n b ia c found).grows

-- ---- under the keys that the ASes have in use

key_named : (n : Network) (ia : ℕ) (one : AsEntry) → as_named n.ases ia ≡ Some one → key_in_use one.keys ≡ key_in n ia
key_named n ia one named = rw named refl

pub begun_under_way : (n : Network) (ia egress timestamp beta0 : ℕ) (b : Chain) → IsNetwork n
    → originated_beacon n ia egress timestamp beta0 ≡ Ok b → IsUnderWay n (key_in n ia ∷ []) b
begun_under_way n ia egress timestamp beta0 b network found =
    let s = is_begun n ia egress timestamp beta0 b found in
    subst (λ (key : List ℕ). IsUnderWay n (key ∷ []) b) (key_named n ia s.one s.named)
    (begun n ia egress timestamp beta0 s.one b network s.named found)

pub passed_under_way : (n : Network) (keys : List (List ℕ)) (b : Chain) (ia egress : ℕ) (c : Chain)
    → IsNetwork n → IsUnderWay n keys b → extended_beacon n b ia egress ≡ Ok c
    → IsUnderWay n (keys ++ (key_in n ia ∷ [])) c
passed_under_way n keys b ia egress c network under found =
    let s = adds_next n b ia egress c found in
    subst (λ (key : List ℕ). IsUnderWay n (keys ++ (key ∷ [])) c) (key_named n ia s.one s.named)
    (calls.passed_on n keys b ia egress s.one c network under s.named found)

pub ended_issued : (n : Network) (keys : List (List ℕ)) (b : Chain) (ia : ℕ) (c : Chain) → IsNetwork n
    → IsUnderWay n keys b → terminated_beacon n b ia ≡ Ok c → IsIssued n (keys ++ (key_in n ia ∷ [])) c
ended_issued n keys b ia c network under found =
    let s = adds_last n b ia c found in
    subst (λ (key : List ℕ). IsIssued n (keys ++ (key ∷ [])) c) (key_named n ia s.one s.named)
    (ended n keys b ia s.one c network under s.named found)

-- ---- one network, call by call

keys_grow : (n : Network) (b : Chain) (ia : ℕ) (c : Chain) → Grows n b ia c
    → keys_in_use n b ++ (key_in n ia ∷ []) ≡ keys_in_use n c
keys_grow n b ia c grows =
    ap (λ (x : ℕ). keys_in_use n b ++ (key_in n x ∷ [])) (sym grows.of)
    ∙ sym (map-append (λ (entry : Entry). key_in n entry.ia) b.entries (grows.entry ∷ []))
    ∙ ap (keys_in_use n) (sym grows.is)

keys_begun : (n : Network) (ia : ℕ) (b : Chain) → IsBegun n ia b → key_in n ia ∷ [] ≡ keys_in_use n b
keys_begun n ia b s =
    ap (λ (x : ℕ). key_in n x ∷ []) (sym s.of) ∙ ap (map (λ (entry : Entry). key_in n entry.ia)) (sym s.is)

under_own_keys : (n : Network) (b : Chain) (hops : List (ℕ × ℕ)) (c : Chain) → IsNetwork n
    → IsUnderWay n (keys_in_use n b) b → passed_through n b hops ≡ Ok c → IsUnderWay n (keys_in_use n c) c
under_own_keys n b [] c network under found =
    let same : b ≡ c = ok_is b c found in
    subst (λ (x : Chain). IsUnderWay n (keys_in_use n x) x) same under
under_own_keys n b (hop ∷ hops) c network under found =
    let step = bind_ok (extended_beacon n b hop.0 hop.1) (λ (next : Chain). passed_through n next hops) c found in
    let more = passed_under_way n (keys_in_use n b) b hop.0 hop.1 step.0 network under step.1 in
    let own =
    subst (λ (keys : List (List ℕ)). IsUnderWay n keys step.0) (keys_grow n b hop.0 step.0 (extended_grows n b hop.0 hop.1 step.0 step.1)) more in
    under_own_keys n step.0 hops c network own step.2

pub made_is_issued : (n : Network) (ia egress timestamp beta0 : ℕ) (hops : List (ℕ × ℕ)) (last : ℕ) (first beacon segment : Chain)
    → IsNetwork n
    → originated_beacon n ia egress timestamp beta0 ≡ Ok first → passed_through n first hops ≡ Ok beacon
    → terminated_beacon n beacon last ≡ Ok segment
    → IsIssued n (keys_in_use n segment) segment
made_is_issued n ia egress timestamp beta0 hops last first beacon segment network began on ended_so =
    let s = is_begun n ia egress timestamp beta0 first began in
    let begun_own =
    subst (λ (keys : List (List ℕ)). IsUnderWay n keys first) (keys_begun n ia first s) (begun_under_way n ia egress timestamp beta0 first network began) in
    let under = under_own_keys n first hops beacon network begun_own on in
    subst (λ (keys : List (List ℕ)). IsIssued n keys segment)
    (keys_grow n beacon last segment (terminated_grows n beacon last segment ended_so))
    (ended_issued n (keys_in_use n beacon) beacon last segment network under ended_so)
