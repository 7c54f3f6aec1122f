-- What a network shows of a way: both its interfaces, and that both are up.
use Rattle.std.proofs.Common.{◌≡◌, ◌≢◌, ◌⊎◌, ℕ, zero, suc, Bool, true, false, cond, List, [], ◌∷◌, Contains, Some, Ok, refl, sym, ap, ◌∙◌, subst, inl, inr, arith}
use Rattle.refusal.proofs.Steps.{bind_ok, ok_or_ok}
use Rattle.scion_topology.specs.declared.entry.IfEntry.{IfEntry}
use Rattle.scion_topology.specs.declared.fault.TopologyFault.TheVariants as faults
use Rattle.scion_topology.specs.declared.network.AsEntry.{AsEntry}
use Rattle.scion_topology.specs.declared.network.End.{End}
use Rattle.scion_topology.specs.declared.network.Link.{Link}
use Rattle.scion_topology.specs.declared.network.LinkClass.{LinkClass}
use Rattle.scion_topology.specs.declared.network.LinkClass.TheVariants.{Core, Child}
use Rattle.scion_topology.specs.Network.{Network, as_named, kind_at_a, kind_at_b}
use Rattle.scion_topology.specs.Topology.{IsNetwork, known_as, interface_at, far_end_in}
use Rattle.scion_topology.specs.Ends.{IsShown, at_a, at_b}
use Rattle.scion_topology.proofs.Shown.{shows_both_ends, is_link_there}
use Rattle.beacon_lines.specs.declared.ways.WayOut.{WayOut}
use Rattle.beacon_lines.specs.inner.Ways.{IsWay, way_between, ways_by}

-- an element of a list that begins with another
pub in_cons : {X : Type 0} (y : X) (xs : List X) (x : X) → Contains (y ∷ xs) x → (y ≡ x) ⊎ Contains
    xs x
in_cons y xs x (zero, below, at) = inl at
in_cons y xs x (suc k, below, at) = inr (k, omega arith, at)

pub in_none : {X : Type 0} (x : X) → Contains [] x → ⊥
in_none x (k, below, at) = omega arith

pub in_head : {X : Type 0} (x : X) (xs : List X) → Contains (x ∷ xs) x
in_head x xs = (zero, omega arith, refl)

pub in_tail : {X : Type 0} (y : X) (xs : List X) (x : X) → Contains xs x → Contains (y ∷ xs) x
in_tail y xs x there = (suc there.0, (let below = there.1 in omega arith), there.2)

-- which way a link is
pub record IsOver (wanted class : LinkClass) (up : Bool) (a b : End) (way : WayOut) : Type 0 where
  pub up_is : up ≡ true
  pub class_is : class ≡ wanted
  pub ends : (way_between a b ≡ way) ⊎ ((wanted ≡ Core) × (way_between b a ≡ way))

pub over : (wanted class : LinkClass) (up : Bool) (a b : End) (way : WayOut)
    → Contains (cond up (ways_by wanted class a b) []) way → IsOver wanted class up a b way
over wanted class false a b way there = absurd (in_none way there)
over Core Core true a b way there = record {
  up_is = refl;
  class_is = refl;
  ends = elim (in_cons (way_between a b) (way_between b a ∷ []) way there) [
    | inl is ↦ inl is
    | inr later ↦ elim (in_cons (way_between b a) [] way later) [
      | inl is ↦ inr (refl, is)
      | inr none ↦ absurd (in_none way none)
    ]
  ];
}
over Child Child true a b way there = record {
  up_is = refl;
  class_is = refl;
  ends = elim (in_cons (way_between a b) [] way there) [
    | inl is ↦ inl is
    | inr none ↦ absurd (in_none way none)
  ];
}
over Core Child true a b way there = absurd (in_none way there)
over Child Core true a b way there = absurd (in_none way there)

-- both interfaces of a way, and its ASes
pub record IsOpen (n : Network) (class : LinkClass) (way : WayOut) : Type 0 where
  pub out : IfEntry
  pub shown : interface_at n way.near way.egress ≡ Ok out
  pub kind : out.kind ≡ kind_at_a class
  pub up : out.up ≡ true
  pub number : ℕ
  pub leads : far_end_in n way.near way.egress ≡ Ok (way.far, number)
  pub into : IfEntry
  pub far_shown : interface_at n way.far number ≡ Ok into
  pub far_up : into.up ≡ true
  pub one : AsEntry
  pub near_known : as_named n.ases way.near ≡ Some one
  pub other : AsEntry
  pub far_known : as_named n.ases way.far ≡ Some other
  pub apart : way.near ≢ way.far

-- an AS with an interface is known
known : (n : Network) (ia number : ℕ) (entry : IfEntry) → interface_at n ia number ≡ Ok entry
    → (one : AsEntry) × (as_named n.ases ia ≡ Some one)
known n ia number entry shown =
    let at = bind_ok (known_as n ia) _ entry shown in
    (at.0, ok_or_ok (as_named n.ases ia) faults.UnknownAs at.0 at.1)

open_between : (n : Network) (class : LinkClass) (near far : End) (out into : IfEntry)
    → IsShown n near far out → IsShown n far near into → out.kind ≡ kind_at_a class
    → out.up ≡ true → into.up ≡ true → near.ia ≢ far.ia → IsOpen n class (way_between near far)
open_between n class near far out into here there kind up far_up apart =
    let one = known n near.ia near.number out here.shown in
    let other = known n far.ia far.number into there.shown in
    record {
      out = out;
      shown = here.shown;
      kind = kind;
      up = up;
      number = far.number;
      leads = here.leads;
      into = into;
      far_shown = there.shown;
      far_up = far_up;
      one = one.0;
      near_known = one.1;
      other = other.0;
      far_known = other.1;
      apart = apart;
    }

pub is_open : (n : Network) (class : LinkClass) (way : WayOut) → IsNetwork n → IsWay n class way
    → IsOpen n class way
is_open n class way network is =
    let link = is.link in
    let both = shows_both_ends n link network is.listed in
    let apart = (is_link_there n link network is.listed).apart in
    let way_is = over class link.class link.up link.a link.b way is.is in
    elim way_is.ends [
      | inl from_a ↦ subst (IsOpen n class) from_a
          (open_between n class link.a link.b (at_a link) (at_b link) both.a both.b
          (ap kind_at_a way_is.class_is) way_is.up_is way_is.up_is apart)
      | inr from_b ↦ subst (IsOpen n class) from_b.1
          (open_between n class link.b link.a (at_b link) (at_a link) both.b both.a
          (ap kind_at_b (way_is.class_is ∙ from_b.0) ∙ ap kind_at_a (sym from_b.0)) way_is.up_is
          way_is.up_is (λ same. apart (sym same)))
    ]

-- a link that is up is a way from its first end, and a core link from its other end, too
pub way_from_a : (n : Network) (class : LinkClass) (link : Link) → Contains n.links link
    → link.class ≡ class → link.up ≡ true → IsWay n class (way_between link.a link.b)
way_from_a n class link listed class_is up = record {
  link = link;
  listed = listed;
  is = of class link.class link.up class_is up;
}
  where
    of : (wanted own : LinkClass) (is_up : Bool) → own ≡ wanted → is_up ≡ true
        → Contains (cond is_up (ways_by wanted own link.a link.b) []) (way_between link.a link.b)
    of wanted own false same is = absurd cc
    of Core Core true same is = in_head (way_between link.a link.b) (way_between link.b link.a ∷ [])
    of Child Child true same is = in_head (way_between link.a link.b) []
    of Core Child true same is = absurd cc
    of Child Core true same is = absurd cc

pub way_from_b : (n : Network) (link : Link) → Contains n.links link → link.class ≡ Core
    → link.up ≡ true → IsWay n Core (way_between link.b link.a)
way_from_b n link listed class_is up = record {
  link = link;
  listed = listed;
  is = of link.class link.up class_is up;
}
  where
    of : (own : LinkClass) (is_up : Bool) → own ≡ Core → is_up ≡ true
        → Contains (cond is_up (ways_by Core own link.a link.b) []) (way_between link.b link.a)
    of own false same is = absurd cc
    of Core true same is = in_tail (way_between link.a link.b) (way_between link.b link.a ∷ [])
        (way_between link.b link.a) (in_head (way_between link.b link.a) [])
    of Child true same is = absurd cc
