-- What the calls answer is made as the network makes it.
use Rattle.std.proofs.Common.{◌≡◌, ◌≢◌, ℕ, zero, suc, ◌+◌, ◌-◌, ◌<◌, ◌≤◌, true, false, eqb, List, [], ◌∷◌, ◌++◌, length, Some, None, Result, Ok, Err, refl, sym, ap, ◌∙◌, arith, inl, inr, ◌⊎◌, Any, length-append}
use Rattle.std.specs.Prelude.{slice_get, nat_lt, nat_le}
use Rattle.std.specs.List.{list_any}
use Rattle.std.specs.Option.{ok_or}
use Rattle.std.proofs.lemmas.Bool.{not-true, eqb-true, ne_eqb}
use Rattle.std.proofs.lemmas.Bool.Decides.{nat_tests}
use Rattle.std.proofs.lemmas.Option.{same_Some}
use Rattle.scion_topology.specs.declared.entry.IfEntry.{IfEntry}
use Rattle.scion_topology.specs.declared.fault.TopologyFault.{TopologyFault}
use Rattle.scion_topology.specs.declared.network.AsEntry.{AsEntry}
use Rattle.scion_topology.specs.Network.{Network, as_named}
use Rattle.scion_topology.specs.Causes.{is_core}
use Rattle.scion_topology.specs.Topology.{IsNetwork, interface_at, far_end_in}
use Rattle.scion_topology.proofs.Numbered.{no_zero}
use Rattle.path_segment.specs.declared.entry.Entry.{Entry}
use Rattle.path_segment.specs.declared.kind.SegKind.{SegKind}
use Rattle.path_segment.specs.Chain.{Chain, chain_of, with_last, beta_of}
use Rattle.path_segment.specs.Rules.{beacon_fault, next_fault, last_fault}
use Rattle.path_segment.proofs.Chained.{beta_of-with_last}
use Rattle.path_segment.proofs.Plain.{segment_in_words}
use Rattle.path_segment.proofs.Next.{next_is, last_is, IsFree-beacon_fault}
use Rattle.beaconing.specs.declared.fault.BeaconFault.{BeaconFault}
use Rattle.beaconing.specs.declared.fault.BeaconFault.TheVariants.{TooLong, Loop, NotCore, NoInterface, LinkDown, WrongKind, NotHere}
use Rattle.refusal.specs.Refusal.{check, or_else}
use Rattle.refusal.proofs.Steps.{bind_ok, check_ok, ok_or_ok, ok_is}
use Rattle.scion_topology.specs.Keys.{key_in_use}
use Rattle.beaconing.specs.Entry.{entry_by, added_by, kind_over, goes_on}
use Rattle.beaconing.specs.Calls.{originated_beacon, last_of, come_to, is_new, extended_beacon, terminated_beacon}
use Rattle.beaconing.specs.Issued.{IsEntryOf, LeadsOn, IsMade, IsUnderWay, IsIssued}
use Rattle.beaconing.proofs.Reaching.{ia_of_named, leads_on, core_goes_on}

-- ---- what an answer went through

pub answered : {A : Type 0} (f : BeaconFault) (r : Result A TopologyFault) (x : A) → or_else f r ≡ Ok x → r ≡ Ok x
answered f (Ok y) x e = cc
answered f (Err d) x e = absurd cc

-- ---- one entry more

at_end : {A : Type 0} (xs : List A) (x : A) (k : ℕ) (e : A) → slice_get (xs ++ (x ∷ [])) k ≡ Some e
    → ((k < length xs) × (slice_get xs k ≡ Some e)) ⊎ ((k ≡ length xs) × (x ≡ e))
at_end [] x zero e at = inr (refl, same_Some x e at)
at_end [] x (suc k) e at = absurd cc
at_end (y ∷ ys) x zero e at = let some : zero < length (y ∷ ys) = omega arith in inl (some, at)
at_end (y ∷ ys) x (suc k) e at = elim (at_end ys x k e at) [
  | inl inside ↦ (let below : suc k < length (y ∷ ys) = (let h = inside.0 in omega arith) in inl (below, inside.1))
  | inr last ↦ inr (ap suc last.0, last.1)
]

-- the chain is made with this entry at its end
made_with_last : (n : Network) (keys : List (List ℕ)) (b : Chain) (key : List ℕ) (e : Entry) → IsMade n keys b
    → ((first : Entry) → slice_get (b.entries ++ (e ∷ [])) 0 ≡ Some first → is_core n.ases first.ia ≡ true)
    → IsEntryOf n b.timestamp (beta_of b (length b.entries)) key e
    → ((last : Entry) → last_of b ≡ Some last → Any (LeadsOn b.kind last e) n.links)
    → IsMade n (keys ++ (key ∷ [])) (with_last b e)
made_with_last n keys b key e made core own leads = record {
  keyed = length-append keys (key ∷ []) ∙ ap (λ (k : ℕ). k + 1) made.keyed ∙ sym (length-append b.entries (e ∷ []));
  core = core;
  entries = λ i k entry at_key at_entry. (
      let keyed = made.keyed in
      elim (at_end b.entries e i entry at_entry) [
        | inl inside ↦ elim (at_end keys key i k at_key) [
          | inl key_inside ↦ (
              let within : i ≤ length b.entries = (let h = inside.0 in omega arith) in
              rw (beta_of-with_last b i e within) (made.entries i k entry key_inside.1 inside.1))
          | inr key_last ↦ absurd (let h = inside.0 in let g = key_last.0 in omega arith)
        ]
        | inr last ↦ elim (at_end keys key i k at_key) [
          | inl key_inside ↦ absurd (let h = last.0 in let g = key_inside.0 in omega arith)
          | inr key_last ↦ (
              let within : length b.entries ≤ length b.entries = omega arith in
              rw (last.0, beta_of-with_last b (length b.entries) e within, ← last.1, ← key_last.1) own)
        ]
      ]);
  joined = λ i entry next at_entry at_next. elim (at_end b.entries e (i + 1) next at_next) [
    | inl inside ↦ elim (at_end b.entries e i entry at_entry) [
      | inl here ↦ made.joined i entry next here.1 inside.1
      | inr last ↦ absurd (let h = inside.0 in let g = last.0 in omega arith)
    ]
    | inr end ↦ elim (at_end b.entries e i entry at_entry) [
      | inl here ↦ (
          let place : length b.entries - 1 ≡ i = (let h = end.0 in omega arith) in
          let is_last : last_of b ≡ Some entry = ap (slice_get b.entries) place ∙ here.1 in
          rw (← end.1) (leads entry is_last))
      | inr last ↦ absurd (let h = end.0 in let g = last.0 in omega arith)
    ]
  ];
}

-- the entry that was added is the last one
last_with_last : (b : Chain) (e last : Entry) → last_of (with_last b e) ≡ Some last → e ≡ last
last_with_last b e last is = elim (at_end b.entries e (length (b.entries ++ (e ∷ [])) - 1) last is) [
  | inl inside ↦ absurd
      (let h = inside.0 in let g = length-append b.entries (e ∷ []) in let o : length (e ∷ []) ≡ 1 = refl in omega arith)
  | inr end ↦ end.1
]

entry_of : (n : Network) (ia timestamp beta ingress egress : ℕ) (one : AsEntry)
    → as_named n.ases ia ≡ Some one
    → IsEntryOf n timestamp beta (key_in_use one.keys) (entry_by one timestamp beta ingress egress)
entry_of n ia timestamp beta ingress egress one named = record {
  one = one;
  named = ap (as_named n.ases) (ia_of_named n.ases ia one named) ∙ named;
  lifetime = refl;
  mac = refl;
}

-- ---- the first entry

made_empty : (n : Network) (kind : SegKind) (timestamp beta0 : ℕ) → IsMade n [] (chain_of kind timestamp beta0 [])
made_empty n kind timestamp beta0 = record {
  keyed = refl;
  core = λ first at. absurd cc;
  entries = λ i key entry at_key at_entry. absurd cc;
  joined = λ i entry next at_entry at_next. absurd cc;
}

rules_of_first : (e : Entry) → e.cons_ingress ≡ 0 → e.cons_egress ≢ 0 → beacon_fault (e ∷ []) ≡ None
unfolding beacon_fault
rules_of_first e no_in some_out = rw (no_in, ne_eqb e.cons_egress 0 some_out) refl

pub begun : (n : Network) (ia egress timestamp beta0 : ℕ) (one : AsEntry) (b : Chain) → IsNetwork n
    → as_named n.ases ia ≡ Some one → originated_beacon n ia egress timestamp beta0 ≡ Ok b
    → IsUnderWay n (key_in_use one.keys ∷ []) b
unfolding originated_beacon
begun n ia egress timestamp beta0 one b network named found =
    let s1 = bind_ok (ok_or (as_named n.ases ia) NotCore) _ b found in
    let same : s1.0 ≡ one = same_Some s1.0 one (sym (ok_or_ok (as_named n.ases ia) NotCore s1.0 s1.1) ∙ named) in
    let s2 = bind_ok (check s1.0.core NotCore) _ b s1.2 in
    let core : one.core ≡ true = ap (λ (o : AsEntry). o.core) (sym same) ∙ check_ok s1.0.core NotCore s2.0 s2.1 in
    let s3 = bind_ok (or_else NoInterface (interface_at n ia egress)) _ b s2.2 in
    let out = s3.0 in
    let there = answered NoInterface (interface_at n ia egress) out s3.1 in
    let s4 = bind_ok (check out.up LinkDown) _ b s3.2 in
    let e = entry_by one timestamp beta0 0 egress in
    let is : chain_of (kind_over out.kind) timestamp beta0 (e ∷ []) ≡ b =
    ap (λ (o : AsEntry). chain_of (kind_over out.kind) timestamp beta0 (entry_by o timestamp beta0 0 egress ∷ [])) (sym same) ∙ ok_is _ b s4.2 in
    let ia_is = ia_of_named n.ases ia one named in
    let is_core_there : is_core n.ases ia ≡ true = rw named core in
    let first_core : is_core n.ases one.ia ≡ true = ap (is_core n.ases) ia_is ∙ is_core_there in
    rw (← is) (record {
      rules = rules_of_first e refl (no_zero n ia egress out network there);
      made = made_with_last n [] (chain_of (kind_over out.kind) timestamp beta0 []) (key_in_use one.keys) e
          (made_empty n (kind_over out.kind) timestamp beta0)
          (λ first at. rw (← same_Some e first at) first_core)
          (entry_of n ia timestamp beta0 0 egress one named)
          (λ last at. absurd cc);
      out = λ last at. rw (← same_Some e last at) (record {
        out = out;
        there = ap (λ (x : ℕ). interface_at n x egress) ia_is ∙ there;
        on = core_goes_on n ia egress out network is_core_there there;
      });
    })

-- ---- a later entry

-- the way by which a beacon comes to an AS
pub record Comes (n : Network) (b : Chain) (ia ingress : ℕ) : Type 0 where
  pub last : Entry
  pub is_last : last_of b ≡ Some last
  pub leads : far_end_in n last.ia last.cons_egress ≡ Ok (ia, ingress)
  pub some : ingress ≢ 0
  pub entry : IfEntry
  pub shown : interface_at n ia ingress ≡ Ok entry
  pub up : entry.up ≡ true

pub Comes-come_to : (n : Network) (b : Chain) (ia ingress : ℕ) → IsNetwork n → come_to n b ia ≡ Ok ingress
    → Comes n b ia ingress
unfolding come_to
Comes-come_to n b ia ingress network found =
    let s1 = bind_ok (ok_or (last_of b) NotHere) _ ingress found in
    let last = s1.0 in
    let s2 = bind_ok (or_else NotHere (far_end_in n last.ia last.cons_egress)) _ ingress s1.2 in
    let far = answered NotHere (far_end_in n last.ia last.cons_egress) s2.0 s2.1 in
    let s3 = bind_ok (check (eqb s2.0.0 ia) NotHere) _ ingress s2.2 in
    let here = eqb-true s2.0.0 ia (check_ok (eqb s2.0.0 ia) NotHere s3.0 s3.1) in
    let s4 = bind_ok (or_else NotHere (interface_at n ia s2.0.1)) _ ingress s3.2 in
    let there = answered NotHere (interface_at n ia s2.0.1) s4.0 s4.1 in
    let s5 = bind_ok (check s4.0.up LinkDown) _ ingress s4.2 in
    let is : s2.0.1 ≡ ingress = ok_is s2.0.1 ingress s5.2 in
    record {
      last = last;
      is_last = ok_or_ok (last_of b) NotHere last s1.1;
      leads = far ∙ ap (λ (x : ℕ). at x s2.0.1) here ∙ ap (at ia) is;
      some = rw (← is) (no_zero n ia s2.0.1 s4.0 network there);
      entry = s4.0;
      shown = ap (interface_at n ia) (sym is) ∙ there;
      up = check_ok s4.0.up LinkDown s5.0 s5.1;
    }
  where
    at : ℕ → ℕ → Result (ℕ × ℕ) TopologyFault
    at x m = Ok (x, m)

new_of : (b : Chain) (ia : ℕ) → is_new b ia ≡ true → list_any (λ entry. eqb entry.ia ia) b.entries ≡ false
unfolding is_new
new_of b ia new = not-true _ new

-- what an AS adds to a beacon that comes to it is made
made_added : (n : Network) (keys : List (List ℕ)) (b : Chain) (ia ingress egress : ℕ) (one : AsEntry)
    → IsNetwork n → IsUnderWay n keys b → as_named n.ases ia ≡ Some one → Comes n b ia ingress
    → IsMade n (keys ++ (key_in_use one.keys ∷ [])) (with_last b (added_by one b ingress egress))
made_added n keys b ia ingress egress one network under named comes =
    let e = added_by one b ingress egress in
    made_with_last n keys b (key_in_use one.keys) e under.made
    (λ first at. elim (at_end b.entries e 0 first at) [
      | inl inside ↦ under.made.core first inside.1
      | inr last ↦ absurd (let h = last.0 in let some = (IsFree-beacon_fault b.entries under.rules).some in omega arith)
    ])
    (entry_of n ia b.timestamp (beta_of b (length b.entries)) ingress egress one named)
    (λ last at. (
    let same : comes.last ≡ last = same_Some comes.last last (sym comes.is_last ∙ at) in
    let leads : far_end_in n last.ia last.cons_egress ≡ _ =
    ap (λ (o : Entry). far_end_in n o.ia o.cons_egress) (sym same) ∙ comes.leads in
    leads_on n b.kind last e ia ingress network (under.out last at) leads (sym (ia_of_named n.ases ia one named)) refl))

rules_of_next : (es : List Entry) (e : Entry) → nat_lt (length es) 62 ≡ true → e.cons_ingress ≢ 0
    → e.cons_egress ≢ 0 → list_any (λ other. eqb other.ia e.ia) es ≡ false → next_fault es e ≡ None
unfolding next_fault
rules_of_next es e few some_in some_out new =
    let fits : nat_le 62 (length es) ≡ false = grind (arith, nat_tests) in
    rw (fits, ne_eqb e.cons_ingress 0 some_in, ne_eqb e.cons_egress 0 some_out, new) refl

rules_of_last : (es : List Entry) (e : Entry) → e.cons_ingress ≢ 0 → e.cons_egress ≡ 0
    → list_any (λ other. eqb other.ia e.ia) es ≡ false → last_fault es e ≡ None
unfolding last_fault
rules_of_last es e some_in no_out new = rw (ne_eqb e.cons_ingress 0 some_in, no_out, new) refl

pub passed_on : (n : Network) (keys : List (List ℕ)) (b : Chain) (ia egress : ℕ) (one : AsEntry) (c : Chain)
    → IsNetwork n → IsUnderWay n keys b → as_named n.ases ia ≡ Some one → extended_beacon n b ia egress ≡ Ok c
    → IsUnderWay n (keys ++ (key_in_use one.keys ∷ [])) c
unfolding extended_beacon
passed_on n keys b ia egress one c network under named found =
    let s1 = bind_ok (ok_or (as_named n.ases ia) NotHere) _ c found in
    let same : s1.0 ≡ one = same_Some s1.0 one (sym (ok_or_ok (as_named n.ases ia) NotHere s1.0 s1.1) ∙ named) in
    let s2 = bind_ok (come_to n b ia) _ c s1.2 in
    let ingress = s2.0 in
    let comes = Comes-come_to n b ia ingress network s2.1 in
    let s3 = bind_ok (check (is_new b s1.0.ia) Loop) _ c s2.2 in
    let new : list_any (λ entry. eqb entry.ia one.ia) b.entries ≡ false =
    ap (λ (o : AsEntry). list_any (λ entry. eqb entry.ia o.ia) b.entries) (sym same) ∙ new_of b s1.0.ia (check_ok (is_new b s1.0.ia) Loop s3.0 s3.1) in
    let s4 = bind_ok (check (nat_lt (length b.entries) 62) TooLong) _ c s3.2 in
    let few = check_ok (nat_lt (length b.entries) 62) TooLong s4.0 s4.1 in
    let s5 = bind_ok (or_else NoInterface (interface_at n ia egress)) _ c s4.2 in
    let out = s5.0 in
    let there = answered NoInterface (interface_at n ia egress) out s5.1 in
    let s6 = bind_ok (check (goes_on b.kind out.kind) WrongKind) _ c s5.2 in
    let on = check_ok (goes_on b.kind out.kind) WrongKind s6.0 s6.1 in
    let s7 = bind_ok (check out.up LinkDown) _ c s6.2 in
    let e = added_by one b ingress egress in
    let is : with_last b e ≡ c =
    ap (λ (o : AsEntry). with_last b (added_by o b ingress egress)) (sym same) ∙ ok_is _ c s7.2 in
    rw (← is) (record {
      rules = sym (next_is b.entries e under.rules) ∙ rules_of_next b.entries e few comes.some
          (no_zero n ia egress out network there) new;
      made = made_added n keys b ia ingress egress one network under named comes;
      out = λ last at. rw (← last_with_last b e last at) (record {
        out = out;
        there = ap (λ (x : ℕ). interface_at n x egress) (ia_of_named n.ases ia one named) ∙ there;
        on = on;
      });
    })

pub ended : (n : Network) (keys : List (List ℕ)) (b : Chain) (ia : ℕ) (one : AsEntry) (s : Chain)
    → IsNetwork n → IsUnderWay n keys b → as_named n.ases ia ≡ Some one → terminated_beacon n b ia ≡ Ok s
    → IsIssued n (keys ++ (key_in_use one.keys ∷ [])) s
unfolding terminated_beacon
ended n keys b ia one s network under named found =
    let s1 = bind_ok (ok_or (as_named n.ases ia) NotHere) _ s found in
    let same : s1.0 ≡ one = same_Some s1.0 one (sym (ok_or_ok (as_named n.ases ia) NotHere s1.0 s1.1) ∙ named) in
    let s2 = bind_ok (come_to n b ia) _ s s1.2 in
    let ingress = s2.0 in
    let comes = Comes-come_to n b ia ingress network s2.1 in
    let s3 = bind_ok (check (is_new b s1.0.ia) Loop) _ s s2.2 in
    let new : list_any (λ entry. eqb entry.ia one.ia) b.entries ≡ false =
    ap (λ (o : AsEntry). list_any (λ entry. eqb entry.ia o.ia) b.entries) (sym same) ∙ new_of b s1.0.ia (check_ok (is_new b s1.0.ia) Loop s3.0 s3.1) in
    let e = added_by one b ingress 0 in
    let is : with_last b e ≡ s =
    ap (λ (o : AsEntry). with_last b (added_by o b ingress 0)) (sym same) ∙ ok_is _ s s3.2 in
    rw (← is) (record {
      rules = (segment_in_words (b.entries ++ (e ∷ []))).0
          (sym (last_is b.entries e under.rules) ∙ rules_of_last b.entries e comes.some refl new);
      made = made_added n keys b ia ingress 0 one network under named comes;
    })
