-- What of keys that are accepted and links that are up stays through the changes of a network.
use Rattle.std.proofs.Common.{◌≡◌, ◌≢◌, ℕ, zero, suc, ◌+◌, ◌-◌, ◌<◌, ◌⊎◌, Bool, true, false, List, [], ◌∷◌, ◌++◌, length, Contains, Option, Some, Ok, refl, sym, ap, ◌∙◌, subst, arith, inl, inr}
use Rattle.std.specs.Prelude.{slice_get}
use Rattle.std.specs.Option.{unwrap_or, option_map_or}
use Rattle.std.proofs.lemmas.Bool.{cases_eq}
use Rattle.std.proofs.lemmas.Option.{same_Some}
use Rattle.scion_topology.specs.declared.network.AsEntry.{AsEntry}
use Rattle.scion_topology.specs.Keys.{key_in_use, renewed_keys}
use Rattle.scion_topology.specs.Network.{Network, as_named}
use Rattle.scion_topology.specs.Rules.{IsNetwork}
use Rattle.scion_topology.specs.declared.fault.TopologyFault.TheVariants as faults
use Rattle.scion_topology.specs.Topology.{known_as, set_up, with_rotated_key}
use Rattle.refusal.proofs.Steps.{bind_ok, ok_or_ok}
use Rattle.scion_topology.specs.Ends.{IsUp}
use Rattle.scion_topology.proofs.Lasting.{linked_network, rotated_network, same_ases, named_still, named_renewed, same_interfaces, others_stay, up_stays}
use Rattle.path_segment.specs.declared.entry.Entry.{Entry}
use Rattle.path_segment.specs.Chain.{Chain, with_last}
use Rattle.path_verifier.specs.Piece.{PieceValue}
use Rattle.beaconing.specs.Entry.{key_in}
use Rattle.beaconing.specs.Calls.{last_of}
use Rattle.beaconing.specs.Issued.{IsMade}
use Rattle.beaconing.proofs.Outlasting.{segment_linked, segment_keyed}
use Rattle.forwarding.specs.Sound.{KeysAndLinksHold, KeyIsInUse, IsIssuedAndAccepted, AvoidsAs, AvoidsLink}
use Rattle.forwarding.proofs.Made.{joint}

-- ---- one entry more

-- an element of a list with one more at its end is one of the list, or the last
at_last : {A : Type 0} (xs : List A) (x : A) (i : ℕ) (y : A) → slice_get (xs ++ x ∷ []) i ≡ Some y
    → ((i < length xs) × (slice_get xs i ≡ Some y)) ⊎ ((i ≡ length xs) × (x ≡ y))
at_last [] x zero y there = inr (refl, cc)
at_last [] x (suc i) y there = absurd cc
at_last (z ∷ xs) x zero y there = inl (omega arith, there)
at_last (z ∷ xs) x (suc i) y there = elim (at_last xs x i y there) [
  | inl inside ↦ (let h = inside.0 in inl (omega arith, inside.1))
  | inr last ↦ inr (ap (λ n. suc n) last.0, last.1)
]

none_there : (entries : List Entry) → entries ≡ [] → (i : ℕ) (entry : Entry)
    → slice_get entries i ≡ Some entry → ⊥
none_there entries none i entry at =
    let e : slice_get {X = Entry} [] i ≡ Some entry =
    ap (λ (es : List Entry). slice_get es i) (sym none) ∙ at in
    absurd cc

-- nothing is asked of a chain of no entries
pub holds_none : (n : Network) (keys : List (List ℕ)) (chain : Chain) (from to : ℕ)
    → chain.entries ≡ [] → KeysAndLinksHold n keys chain from to
holds_none n keys chain from to none = record {
  keys_held =
      λ i entry key one low high at keyed named. absurd (none_there chain.entries none i entry at);
  links_up = λ i entry next low high at at_next. absurd (none_there chain.entries none i entry at);
}

-- one entry more, whose AS accepts its key, and to which the beacon came over a link that is up
pub holds_more : (n : Network) (keys : List (List ℕ)) (b : Chain) (e : Entry) (key : List ℕ)
    (from to : ℕ) → length keys ≡ length b.entries → KeysAndLinksHold n keys b from to
    → ((one : AsEntry) → as_named n.ases e.ia ≡ Some one → Contains one.keys key)
    → ((last : Entry) → last_of b ≡ Some last → IsUp n last.ia last.cons_egress true)
    → KeysAndLinksHold n (keys ++ key ∷ []) (with_last b e) from to
holds_more n keys b e key from to keyed holds own up = record {
  keys_held = λ i entry k one low high at at_key named. elim (at_last b.entries e i entry at) [
    | inl inside ↦ elim (at_last keys key i k at_key) [
      | inl key_inside ↦ holds.keys_held i entry k one low high inside.1 key_inside.1 named
      | inr key_last ↦ absurd (let h = inside.0 in let g = key_last.0 in omega arith)
    ]
    | inr last ↦ elim (at_last keys key i k at_key) [
      | inl key_inside ↦ absurd (let h = last.0 in let g = key_inside.0 in omega arith)
      | inr key_last ↦ subst (Contains one.keys) key_last.1
          (own one (ap (λ (o : Entry). as_named n.ases o.ia) last.1 ∙ named))
    ]
  ];
  links_up = λ i entry next low high at at_next. elim (at_last b.entries e (i + 1) next at_next) [
    | inl inside ↦ elim (at_last b.entries e i entry at) [
      | inl here ↦ holds.links_up i entry next low high here.1 inside.1
      | inr last ↦ absurd (let h = inside.0 in let g = last.0 in omega arith)
    ]
    | inr end ↦ elim (at_last b.entries e i entry at) [
      | inl here ↦ (
          let place : length b.entries - 1 ≡ i = (let h = end.0 in omega arith) in
          up entry (ap (slice_get b.entries) place ∙ here.1))
      | inr last ↦ absurd (let h = end.0 in let g = last.0 in omega arith)
    ]
  ];
}

-- ---- changes of links

same_named : (n m : Network) (ia : ℕ) (one : AsEntry) → m.ases ≡ n.ases
    → as_named m.ases ia ≡ Some one → as_named n.ases ia ≡ Some one
same_named n m ia one same named = ap (λ ases. as_named ases ia) (sym same) ∙ named

pub mended_holds : (n m : Network) (x y : ℕ) (keys : List (List ℕ)) (chain : Chain) (from to : ℕ)
    → set_up true x y n ≡ Ok m → KeysAndLinksHold n keys chain from to → KeysAndLinksHold m keys chain from to
mended_holds n m x y keys chain from to change holds = record {
  keys_held = λ i entry key one low high at keyed named. (
      holds.keys_held i entry key one low high at keyed
      (same_named n m entry.ia one (same_ases true x y n m change) named));
  links_up = λ i entry next low high at at_next. (
      let up = holds.links_up i entry next low high at at_next in
      record {
        entry = up.entry;
        shown = up_stays x y entry.ia entry.cons_egress n m up.entry change up.shown up.is;
        is = up.is;
      });
}

pub cut_holds : (n m : Network) (x y : ℕ) (keys : List (List ℕ)) (chain : Chain) (from to : ℕ)
    → IsNetwork n → IsMade n keys chain → set_up false x y n ≡ Ok m
    → AvoidsLink chain from to x y → KeysAndLinksHold n keys chain from to → KeysAndLinksHold m keys chain from to
cut_holds n m x y keys chain from to network made change alone holds = record {
  keys_held = λ i entry key one low high at keyed named. (
      holds.keys_held i entry key one low high at keyed
      (same_named n m entry.ia one (same_ases false x y n m change) named));
  links_up = λ i entry next low high at at_next. (
      let j = joint n chain.kind entry next network (made.joined i entry next at at_next) in
      let apart = alone i entry next low high at at_next in
      let up = holds.links_up i entry next low high at at_next in
      record {
        entry = up.entry;
        shown =
            others_stay false x y entry.ia entry.cons_egress next.ia next.cons_ingress n m network
            change j.on apart.0 apart.1 ∙ up.shown;
        is = up.is;
      });
}

-- ---- changes of keys

still_up : (n m : Network) (x : ℕ) (key : List ℕ) (ia number : ℕ) → with_rotated_key x key n ≡ Ok m
    → IsUp n ia number true → IsUp m ia number true
still_up n m x key ia number change up = record {
  entry = up.entry;
  shown = (same_interfaces x key n m ia number change).shown ∙ up.shown;
  is = up.is;
}

-- a new key of an AS that is none of the chain's
pub rotated_holds : (n m : Network) (x : ℕ) (key : List ℕ) (keys : List (List ℕ)) (chain : Chain)
    (from to : ℕ) → with_rotated_key x key n ≡ Ok m → AvoidsAs chain from to x
    → KeysAndLinksHold n keys chain from to → KeysAndLinksHold m keys chain from to
rotated_holds n m x key keys chain from to change past holds = record {
  keys_held = λ i entry k one low high at keyed named. (
      holds.keys_held i entry k one low high at keyed
      (sym (named_still x entry.ia key n m change (past i entry low high at)) ∙ named));
  links_up = λ i entry next low high at at_next. (
      still_up n m x key entry.ia entry.cons_egress change
      (holds.links_up i entry next low high at at_next));
}

-- the key that was in use is accepted after a rotation
still_accepted : (key used : List ℕ) (keys : List (List ℕ)) → used ≡ unwrap_or (slice_get keys 0) []
    → Contains keys used → Contains (renewed_keys key keys) used
still_accepted key used [] is there = absurd (let h = there.1 in omega arith)
still_accepted key used (current ∷ older) is there = (1, omega arith, sym is)

-- an AS that takes another key is one of the network
before_rotation : (n m : Network) (x : ℕ) (key : List ℕ) → with_rotated_key x key n ≡ Ok m
    → (one : AsEntry) × (as_named n.ases x ≡ Some one)
unfolding with_rotated_key
before_rotation n m x key change =
    let at = bind_ok (known_as n x) _ m change in
    (at.0, ok_or_ok (as_named n.ases x) faults.UnknownAs at.0 at.1)

-- the first new key of an AS since its entries were made under the one in use
pub renewed_holds : (n m : Network) (x : ℕ) (key : List ℕ) (keys : List (List ℕ)) (chain : Chain)
    (from to : ℕ) → with_rotated_key x key n ≡ Ok m → KeyIsInUse n keys chain from to x
    → KeysAndLinksHold n keys chain from to → KeysAndLinksHold m keys chain from to
renewed_holds n m x key keys chain from to change in_use holds = record {
  keys_held = λ i entry k one low high at keyed named. elim (cases_eq x entry.ia) [
    | inl same ↦ (
        let old = before_rotation n m x key change in
        let new : record old.0 { keys = renewed_keys key old.0.keys } ≡ one =
        same_Some (record old.0 { keys = renewed_keys key old.0.keys }) one
        (sym (named_renewed x key n m old.0 change old.1) ∙ ap (as_named m.ases) same ∙ named) in
        let used : k ≡ key_in_use old.0.keys =
        in_use i entry k low high at keyed (sym same) ∙ (rw old.1 refl) in
        let named_old : as_named n.ases entry.ia ≡ Some old.0 = ap (as_named n.ases) (sym same)
        ∙ old.1 in
        let held = holds.keys_held i entry k old.0 low high at keyed named_old in
        subst (λ (o : AsEntry). Contains o.keys k) new (still_accepted key k old.0.keys used held))
    | inr other ↦
        holds.keys_held i entry k one low high at keyed
        (sym (named_still x entry.ia key n m change other) ∙ named)
  ];
  links_up = λ i entry next low high at at_next. (
      still_up n m x key entry.ia entry.cons_egress change
      (holds.links_up i entry next low high at at_next));
}

-- ---- the key in use

abbrev key_found : Option AsEntry → List ℕ
key_found found = option_map_or (λ one. key_in_use one.keys) found []

pub in_use_none : (n : Network) (keys : List (List ℕ)) (chain : Chain) (from to ia : ℕ)
    → chain.entries ≡ [] → KeyIsInUse n keys chain from to ia
in_use_none n keys chain from to ia none i entry key low high at keyed same =
    absurd (none_there chain.entries none i entry at)

pub in_use_more : (n : Network) (keys : List (List ℕ)) (b : Chain) (e : Entry) (key : List ℕ)
    (from to ia : ℕ) → length keys ≡ length b.entries → KeyIsInUse n keys b from to ia
    → (e.ia ≡ ia → key ≡ key_in n ia) → KeyIsInUse n (keys ++ key ∷ []) (with_last b e) from to ia
in_use_more n keys b e key from to ia keyed in_use own i entry k low high at at_key same =
    elim (at_last b.entries e i entry at) [
      | inl inside ↦ elim (at_last keys key i k at_key) [
        | inl key_inside ↦ in_use i entry k low high inside.1 key_inside.1 same
        | inr key_last ↦ absurd (let h = inside.0 in let g = key_last.0 in omega arith)
      ]
      | inr last ↦ elim (at_last keys key i k at_key) [
        | inl key_inside ↦ absurd (let h = last.0 in let g = key_inside.0 in omega arith)
        | inr key_last ↦ sym key_last.1 ∙ own (ap (λ (o : Entry). o.ia) last.1 ∙ same)
      ]
    ]

pub in_use_linked : (n m : Network) (up : Bool) (x y : ℕ) (keys : List (List ℕ)) (chain : Chain)
    (from to ia : ℕ) → set_up up x y n ≡ Ok m → KeyIsInUse n keys chain from to ia
    → KeyIsInUse m keys chain from to ia
in_use_linked n m up x y keys chain from to ia change in_use i entry key low high at keyed same =
    in_use i entry key low high at keyed same
    ∙ ap (λ ases. key_found (as_named ases ia)) (sym (same_ases up x y n m change))

pub in_use_keyed : (n m : Network) (x : ℕ) (new : List ℕ) (keys : List (List ℕ)) (chain : Chain)
    (from to ia : ℕ) → with_rotated_key x new n ≡ Ok m → x ≢ ia → KeyIsInUse n keys chain from to ia
    → KeyIsInUse m keys chain from to ia
in_use_keyed n m x new keys chain from to ia change other in_use i entry key low high at keyed same
    =
    in_use i entry key low high at keyed same
    ∙ ap key_found (sym (named_still x ia new n m change other))

-- ---- sound pieces

pub mended_sound : (n m : Network) (x y : ℕ) (keys : List (List ℕ)) (piece : PieceValue)
    → set_up true x y n ≡ Ok m → IsIssuedAndAccepted n keys piece → IsIssuedAndAccepted m keys piece
mended_sound n m x y keys piece change is = record {
  network = linked_network true x y n m is.network change;
  range = is.range;
  issued = segment_linked n m true x y keys piece.segment change is.issued;
  holds = mended_holds n m x y keys piece.segment piece.from piece.to change is.holds;
}

pub cut_sound : (n m : Network) (x y : ℕ) (keys : List (List ℕ)) (piece : PieceValue)
    → set_up false x y n ≡ Ok m → AvoidsLink piece.segment piece.from piece.to x y
    → IsIssuedAndAccepted n keys piece → IsIssuedAndAccepted m keys piece
cut_sound n m x y keys piece change alone is = record {
  network = linked_network false x y n m is.network change;
  range = is.range;
  issued = segment_linked n m false x y keys piece.segment change is.issued;
  holds =
      cut_holds n m x y keys piece.segment piece.from piece.to is.network is.issued.made change
      alone
      is.holds;
}

pub rotated_sound : (n m : Network) (x : ℕ) (key : List ℕ) (keys : List (List ℕ))
    (piece : PieceValue)
    → with_rotated_key x key n ≡ Ok m → AvoidsAs piece.segment piece.from piece.to x
    → IsIssuedAndAccepted n keys piece → IsIssuedAndAccepted m keys piece
rotated_sound n m x key keys piece change past is = record {
  network = rotated_network x key n m is.network change;
  range = is.range;
  issued = segment_keyed n m x key keys piece.segment change is.issued;
  holds = rotated_holds n m x key keys piece.segment piece.from piece.to change past is.holds;
}

pub renewed_sound : (n m : Network) (x : ℕ) (key : List ℕ) (keys : List (List ℕ))
    (piece : PieceValue)
    → with_rotated_key x key n ≡ Ok m → KeyIsInUse n keys piece.segment piece.from piece.to x
    → IsIssuedAndAccepted n keys piece → IsIssuedAndAccepted m keys piece
renewed_sound n m x key keys piece change in_use is = record {
  network = rotated_network x key n m is.network change;
  range = is.range;
  issued = segment_keyed n m x key keys piece.segment change is.issued;
  holds = renewed_holds n m x key keys piece.segment piece.from piece.to change in_use is.holds;
}
