-- What a network has made under keys that it still accepts, over links that are up, is open.
use Rattle.std.proofs.Common.{◌≡◌, ℕ, ◌+◌, ◌-◌, ◌<◌, ◌≤◌, true, false, List, [], length, get_or, Contains, Some, Ok, All, Any, refl, sym, ap, ◌∙◌, arith, inl, inr}
use Rattle.std.specs.Prelude.{slice_get}
use Rattle.std.proofs.lemmas.Bool.{cases_Bool}
use Rattle.std.proofs.lemmas.Option.{slice_get-get_or, slice_get_within}
use Rattle.scion_topology.specs.declared.entry.IfEntry.{IfEntry}
use Rattle.scion_topology.specs.declared.entry.LinkKind.{LinkKind}
use Rattle.scion_topology.specs.declared.entry.LinkKind.TheVariants as links
use Rattle.scion_topology.specs.declared.network.End.{End}
use Rattle.scion_topology.specs.declared.network.Link.{Link}
use Rattle.scion_topology.specs.declared.network.LinkClass.{LinkClass}
use Rattle.scion_topology.specs.declared.network.LinkClass.TheVariants as classes
use Rattle.scion_topology.specs.Network.{Network, kind_at_a, kind_at_b}
use Rattle.scion_topology.specs.Rules.{IsNetwork}
use Rattle.scion_topology.specs.Topology.{interface_at, far_end_in, owner_in}
use Rattle.scion_topology.specs.Ends.{IsShown, IsUp, ShowsBothEnds, at_a, at_b}
use Rattle.scion_topology.proofs.Shown.{shows_both_ends}
use Rattle.path_segment.specs.declared.entry.Entry.{Entry}
use Rattle.path_segment.specs.declared.kind.SegKind.{SegKind}
use Rattle.path_segment.specs.declared.kind.SegKind.TheVariants.{Core, Intra}
use Rattle.path_verifier.specs.Piece.{PieceValue, HasRange, kind_in, travelled_entries}
use Rattle.path_verifier.proofs.Entries.{length_travelled}
use Rattle.beaconing.specs.Issued.{AreWays, LeadsOn, IsMade}
use Rattle.forwarding.specs.PathPosition.{place_of}
use Rattle.path_verifier.specs.Accepted.{AreLive, MakesPath}
use Rattle.forwarding.specs.Forwardable.{ahead, behind, IsLinked, IsForwardable, MayForward}
use Rattle.refusal.proofs.Steps.{ok_is}
use Rattle.forwarding.specs.Sound.{KeysAndLinksHold, IsIssuedAndAccepted}
use Rattle.forwarding.proofs.Betas.{entry_there}

-- what the AS of the later entry is to the one of the earlier, in construction order, and the other
-- way round
abbrev pub onwards : SegKind → LinkKind
onwards Core = links.Core
onwards Intra = links.Child

abbrev pub backwards : SegKind → LinkKind
backwards Core = links.Core
backwards Intra = links.Parent

-- the link between two entries that follow each other in construction order, from both sides
pub record IsJoint (n : Network) (kind : SegKind) (entry next : Entry) : Type 0 where
  pub out : IfEntry
  pub into : IfEntry
  pub out_there : interface_at n entry.ia entry.cons_egress ≡ Ok out
  pub into_there : interface_at n next.ia next.cons_ingress ≡ Ok into
  pub out_kind : out.kind ≡ onwards kind
  pub into_kind : into.kind ≡ backwards kind
  pub alike : out.up ≡ into.up
  pub out_owner : owner_in n entry.ia entry.cons_egress ≡ Ok out.router
  pub into_owner : owner_in n next.ia next.cons_ingress ≡ Ok into.router
  pub on : far_end_in n entry.ia entry.cons_egress ≡ Ok (next.ia, next.cons_ingress)
  pub back : far_end_in n next.ia next.cons_ingress ≡ Ok (entry.ia, entry.cons_egress)

joint_by : (n : Network) (kind : SegKind) (entry next : Entry) (a b : End) (x y : IfEntry)
    → IsShown n a b x → IsShown n b a y → a.router ≡ x.router → b.router ≡ y.router
    → AreWays entry next a b → x.kind ≡ onwards kind → y.kind ≡ backwards kind → x.up ≡ y.up
    → IsJoint n kind entry next
joint_by n kind entry next a b x y near far own_a own_b ways out_kind into_kind alike = record {
  out = x;
  into = y;
  out_there =
      ap (λ ia. interface_at n ia entry.cons_egress) (sym ways.0)
      ∙ ap (λ m. interface_at n a.ia m) (sym ways.1) ∙ near.shown;
  into_there =
      ap (λ ia. interface_at n ia next.cons_ingress) (sym ways.2)
      ∙ ap (λ m. interface_at n b.ia m) (sym ways.3) ∙ far.shown;
  out_kind = out_kind;
  into_kind = into_kind;
  alike = alike;
  out_owner =
      ap (λ ia. owner_in n ia entry.cons_egress) (sym ways.0)
      ∙ ap (λ m. owner_in n a.ia m) (sym ways.1) ∙ near.owner ∙ ap (λ r. Ok r) own_a;
  into_owner =
      ap (λ ia. owner_in n ia next.cons_ingress) (sym ways.2)
      ∙ ap (λ m. owner_in n b.ia m) (sym ways.3) ∙ far.owner ∙ ap (λ r. Ok r) own_b;
  on =
      ap (λ ia. far_end_in n ia entry.cons_egress) (sym ways.0)
      ∙ ap (λ m. far_end_in n a.ia m) (sym ways.1) ∙ near.leads
      ∙ ap (λ ia. Ok (ia, b.number)) ways.2 ∙ ap (λ m. Ok (next.ia, m)) ways.3;
  back =
      ap (λ ia. far_end_in n ia next.cons_ingress) (sym ways.2)
      ∙ ap (λ m. far_end_in n b.ia m) (sym ways.3) ∙ far.leads
      ∙ ap (λ ia. Ok (ia, a.number)) ways.0 ∙ ap (λ m. Ok (entry.ia, m)) ways.1;
}

core_out : (class : LinkClass) → class ≡ classes.Core → kind_at_a class ≡ links.Core
core_out class is = ap kind_at_a is

core_in : (class : LinkClass) → class ≡ classes.Core → kind_at_b class ≡ links.Core
core_in class is = ap kind_at_b is

at_link : (n : Network) (link : Link) (kind : SegKind) (entry next : Entry) → ShowsBothEnds n link
    → LeadsOn kind entry next link → IsJoint n kind entry next
at_link n link Core entry next ends leads = elim leads.1 [
  | inl ways ↦ joint_by n Core entry next link.a link.b (at_a link)
      (at_b link) ends.a ends.b refl refl
      ways (core_out link.class leads.0) (core_in link.class leads.0) refl
  | inr ways ↦ joint_by n Core entry next link.b link.a (at_b link)
      (at_a link) ends.b ends.a refl refl
      ways (core_in link.class leads.0) (core_out link.class leads.0) refl
]
at_link n link Intra entry next ends leads =
    joint_by n Intra entry next link.a link.b (at_a link) (at_b link) ends.a ends.b refl refl
    leads.1 (ap kind_at_a leads.0) (ap kind_at_b leads.0) refl

pub joint : (n : Network) (kind : SegKind) (entry next : Entry) → IsNetwork n
    → Any (LeadsOn kind entry next) n.links → IsJoint n kind entry next
joint n kind entry next network some =
    let listed : Contains n.links some.1 = (some.0, some.2, some.3) in
    at_link n some.1 kind entry next (shows_both_ends n some.1 network listed) some.4

-- an interface that is up is up
pub up_there : (n : Network) (ia number : ℕ) (entry : IfEntry) → IsUp n ia number true
    → interface_at n ia number ≡ Ok entry → entry.up ≡ true
up_there n ia number entry up there =
    let same : up.entry ≡ entry = ok_is up.entry entry (sym up.shown ∙ there) in
    ap (λ (e : IfEntry). e.up) (sym same) ∙ up.is

-- ---- a piece over it, either way

ahead_along : (kind : SegKind) → onwards kind ≡ ahead (kind_in kind true)
ahead_along Core = refl
ahead_along Intra = refl

behind_along : (kind : SegKind) → backwards kind ≡ behind (kind_in kind true)
behind_along Core = refl
behind_along Intra = refl

ahead_against : (kind : SegKind) → backwards kind ≡ ahead (kind_in kind false)
ahead_against Core = refl
ahead_against Intra = refl

behind_against : (kind : SegKind) → onwards kind ≡ behind (kind_in kind false)
behind_against Core = refl
behind_against Intra = refl

linked_along : (n : Network) (piece : PieceValue) (entry next : Entry) → piece.along ≡ true
    → (j : IsJoint n piece.segment.kind entry next) → j.out.up ≡ true → IsLinked n piece entry next
linked_along n piece entry next forward j up = record {
  near = j.out;
  near_there = rw forward j.out_there;
  near_kind = rw forward (j.out_kind ∙ ahead_along piece.segment.kind);
  up = up;
  near_owner = rw forward j.out_owner;
  far = j.into;
  far_there = rw forward j.into_there;
  far_kind = rw forward (j.into_kind ∙ behind_along piece.segment.kind);
  far_owner = rw forward j.into_owner;
  leads = rw forward j.on;
}

linked_against : (n : Network) (piece : PieceValue) (entry next : Entry) → piece.along ≡ false
    → (j : IsJoint n piece.segment.kind next entry) → j.into.up ≡ true → IsLinked n piece entry next
linked_against n piece entry next backward j up = record {
  near = j.into;
  near_there = rw backward j.into_there;
  near_kind = rw backward (j.into_kind ∙ ahead_against piece.segment.kind);
  up = up;
  near_owner = rw backward j.into_owner;
  far = j.out;
  far_there = rw backward j.out_there;
  far_kind = rw backward (j.out_kind ∙ behind_against piece.segment.kind);
  far_owner = rw backward j.out_owner;
  leads = rw backward j.back;
}

-- a piece travels between its two places
place_between : (piece : PieceValue) (i : ℕ) → HasRange piece → i < length (travelled_entries piece)
    → (piece.from ≤ place_of piece i) × (place_of piece i ≤ piece.to)
place_between piece i range inside =
    let long = length_travelled piece range in
    let order = range.order in
    elim (cases_Bool piece.along) [
      | inl forward ↦ (
          let place : place_of piece i ≡ piece.from + i = rw forward refl in
          (omega arith, omega arith))
      | inr backward ↦ (
          let place : place_of piece i ≡ piece.to - i = rw backward refl in
          (omega arith, omega arith))
    ]

key_at : (keys : List (List ℕ)) (i : ℕ) → i < length keys
    → (key : List ℕ) × (slice_get keys i ≡ Some key)
key_at keys i within = (get_or keys i [], slice_get-get_or keys i [] within)

pub made_is_open : (n : Network) (keys : List (List ℕ)) (piece : PieceValue) → IsNetwork n
    → HasRange piece → IsMade n keys piece.segment → KeysAndLinksHold n keys piece.segment piece.from piece.to
    → IsForwardable n piece
made_is_open n keys piece network range made holds = record {
  hops = λ i entry there. (
      let at = entry_there piece i entry range there in
      let place = place_between piece i range (slice_get_within (travelled_entries piece) i entry there) in
      let within = slice_get_within piece.segment.entries (place_of piece i) entry at in
      let keyed = made.keyed in
      let key = key_at keys (place_of piece i) (omega arith) in
      let own = made.entries (place_of piece i) key.0 entry key.1 at in
      let held =
      holds.keys_held
      (place_of piece i) entry key.0 own.one place.0 place.1 at key.1 own.named in
      record {
        one = own.one;
        named = own.named;
        mac = (held.0, key.0, held.1, held.2, own.mac);
      });
  links = λ i entry next here there. (
      let at = entry_there piece i entry range here in
      let after = entry_there piece (i + 1) next range there in
      let inside = slice_get_within (travelled_entries piece) (i + 1) next there in
      let long = length_travelled piece range in
      let order = range.order in
      elim (cases_Bool piece.along) [
        | inl forward ↦ (
            let here_at : slice_get piece.segment.entries (piece.from + i) ≡ Some entry =
            rw forward at at in
            let next_at : slice_get piece.segment.entries (piece.from + (i + 1)) ≡ Some next =
            rw forward at after in
            let place : piece.from + i + 1 ≡ piece.from + (i + 1) = omega arith in
            let then_at : slice_get piece.segment.entries (piece.from + i + 1) ≡ Some next =
            ap (slice_get piece.segment.entries) place ∙ next_at in
            let j = joint n piece.segment.kind entry next network
            (made.joined (piece.from + i) entry next here_at then_at) in
            let up = holds.links_up (piece.from + i) entry next (omega arith)
            (omega arith) here_at then_at in
            linked_along n piece entry next forward j
            (up_there n entry.ia entry.cons_egress j.out up j.out_there))
        | inr backward ↦ (
            let here_at : slice_get piece.segment.entries (piece.to - i) ≡ Some entry =
            rw backward at at in
            let next_at : slice_get piece.segment.entries (piece.to - (i + 1)) ≡ Some next =
            rw backward at after in
            let place : piece.to - (i + 1) + 1 ≡ piece.to - i = omega arith in
            let then_at : slice_get piece.segment.entries (piece.to - (i + 1) + 1) ≡ Some entry =
            ap (slice_get piece.segment.entries) place ∙ here_at in
            let j = joint n piece.segment.kind next entry network
            (made.joined (piece.to - (i + 1)) next entry next_at then_at) in
            let up = holds.links_up (piece.to - (i + 1)) next entry (omega arith)
            (omega arith) next_at then_at in
            linked_against n piece entry next backward j
            (sym j.alike ∙ up_there n next.ia next.cons_egress j.out up j.out_there))
      ]);
}

pub sound_is_open : (n : Network) (keys : List (List ℕ)) (piece : PieceValue) → IsIssuedAndAccepted n keys piece
    → IsForwardable n piece
sound_is_open n keys piece is =
    made_is_open n keys piece is.network is.range is.issued.made is.holds

-- a path of sound pieces is let through while it is live
pub sound_is_let_through : (n : Network) (now source destination moment : ℕ)
    (pieces : List PieceValue) → IsNetwork n → MakesPath pieces source destination moment
    → AreLive now pieces → All (λ piece. (keys : List (List ℕ)) × IsIssuedAndAccepted n keys piece) pieces
    → MayForward n now source destination pieces
sound_is_let_through n now source destination moment pieces network path live sound = record {
  network = network;
  moment = moment;
  path = path;
  pieces_open = λ k d within. (
      let is = sound k d within in
      sound_is_open n is.0 _ is.1);
  live = live;
}
