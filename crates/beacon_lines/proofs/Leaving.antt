-- The ways out of one AS among those of all, and how both come from the links.
use Rattle.std.proofs.Common.{◌≡◌, ◌+◌, ◌-◌, ◌≤◌, ◌<◌, ℕ, Bool, true, false, ltb, leb, List, [], ◌∷◌, length, get_or, take, drop, Contains, refl, sym, ap, ◌∙◌, subst, inl, inr, arith}
use Rattle.std.specs.Prelude.{flat_map}
use Rattle.std.specs.List.Sorted.{IsPartitionPoint, IsPermutation, IsSortedBy}
use Rattle.std.specs.Ordering.{is_lt, nat_cmp, ordering_then}
use Rattle.std.proofs.lemmas.Bool.{cases_lt, lt-ltb, ltb-true, ltb-false, leb-true, leb-false, true≢false}
use Rattle.std.proofs.lemmas.List.{get_or-take, get_or-drop, length-drop, length-take}
use Rattle.std.proofs.lemmas.List.Concat.{flat_map-cons}
use Rattle.std.proofs.lemmas.List.Elements.{All-drop, All-take, Contains-append_cases, Contains-append_left, Contains-append_right, Contains-get_or}
use Rattle.std.proofs.lemmas.List.Sorted.{All-permutation, Contains-permutation, IsNonDecreasingBy-from_all_adjacent}
use Rattle.scion_topology.specs.declared.network.LinkClass.{LinkClass}
use Rattle.scion_topology.specs.Network.{Network}
use Rattle.beacon_lines.specs.declared.ways.WayOut.{WayOut}
use Rattle.beacon_lines.specs.inner.Ways.{AreWays, AreWaysFrom, IsWay, ways_over}
use Rattle.beacon_lines.proofs.Leading.{in_cons, in_head, in_none, in_tail}

-- ---- the ways by all links

in_flat : {X Y : Type 0} (f : X → List Y) (xs : List X) (y : Y) → Contains (flat_map f xs) y
    → (x : X) × (Contains xs x × Contains (f x) y)
in_flat f [] y there = absurd (in_none y there)
in_flat f (x ∷ xs) y there =
    elim (Contains-append_cases (f x) (flat_map f xs) y
    (subst (λ ys. Contains ys y) (flat_map-cons f x xs) there)) [
      | inl here ↦ (x, (in_head x xs, here))
      | inr later ↦ (let found = in_flat f xs y later in
          (found.0, (in_tail x xs found.0 found.1.0, found.1.1)))
    ]

to_flat : {X Y : Type 0} (f : X → List Y) (xs : List X) (x : X) (y : Y) → Contains xs x → Contains
    (f x) y
    → Contains (flat_map f xs) y
to_flat f [] x y there here = absurd (in_none x there)
to_flat f (z ∷ xs) x y there here =
    subst (λ ys. Contains ys y) (sym (flat_map-cons f z xs)) (elim (in_cons z xs x there) [
      | inl same ↦ Contains-append_left (f z) (flat_map f xs) y
          (subst (λ w. Contains (f w) y) (sym same) here)
      | inr later ↦ Contains-append_right (f z) (flat_map f xs) y (to_flat f xs x y later here)
    ])

-- ---- their order

-- whether a way stands before another: by the AS, the interface, and the far AS
abbrev pub is_before : WayOut → WayOut → Bool
is_before a b =
    is_lt (ordering_then (nat_cmp a.near b.near)
    (ordering_then (nat_cmp a.egress b.egress) (nat_cmp a.far b.far)))

not_before : (a b : WayOut) → is_before a b ≡ false → b.near ≤ a.near
not_before a b fails = elim (cases_lt a.near b.near) [
  | inl below ↦ absurd (true≢false (sym (less (lt-ltb a.near b.near below)) ∙ fails))
  | inr above ↦ above
]
  where
    less : ltb a.near b.near ≡ true → is_before a b ≡ true
    less passes = rw passes refl

pub are_ways : (n : Network) (class : LinkClass) (unsorted ways : List WayOut)
    → unsorted ≡ flat_map (ways_over class) n.links → IsPermutation unsorted ways
    → IsSortedBy is_before ways → AreWays n class ways
are_ways n class unsorted ways is moved sorted = record {
  each = All-permutation (IsWay n class) unsorted ways moved (λ k d within.
      way_of (get_or unsorted k d) (Contains-get_or unsorted k d within));
  all = λ way way_is. Contains-permutation unsorted ways way moved
      (subst (λ ws. Contains ws way) (sym is)
      (to_flat (ways_over class) n.links way_is.link way way_is.listed way_is.is));
  ordered = IsNonDecreasingBy-from_all_adjacent (λ (way : WayOut). way.near) ways (λ k d within.
      not_before (get_or ways (k + 1) d) (get_or ways k d) (sorted k d (omega arith) within));
}
  where
    way_of : (way : WayOut) → Contains unsorted way → IsWay n class way
    way_of way there =
        let found = in_flat (ways_over class) n.links way
        (subst (λ ws. Contains ws way) is there) in
        record { link = found.0; listed = found.1.0; is = found.1.1 }

-- ---- those of one AS

pub between : (n : Network) (class : LinkClass) (ia : ℕ) (ways : List WayOut) (start count : ℕ)
    → AreWays n class ways → start ≤ length ways
    → IsPartitionPoint (λ (way : WayOut). ltb way.near ia ≡ true)
    (λ (way : WayOut). ltb way.near ia ≡ false) ways start
    → IsPartitionPoint (λ (way : WayOut). leb way.near ia ≡ true)
    (λ (way : WayOut). leb way.near ia ≡ false) (drop start ways) count
    → AreWaysFrom n class ia (take count (drop start ways))
between n class ia ways start count all begins lower upper =
    let later = drop start ways in
    record {
      each = All-take (IsWay n class) count later (All-drop (IsWay n class) start ways all.each);
      near = λ k d within. (
          let short = length-take count later in
          let lengths = length-drop start ways in
          let below : k < count = omega arith in
          let inside : start + k < length ways = omega arith in
          let here = get_or-take count later k d below in
          let there = get_or-drop start ways k d in
          let most = leb-true _ _ (upper.0 k d (omega arith) below) in
          let least = ltb-false _ _ (lower.1 (start + k) d (omega arith) inside) in
          let same = ap (λ (way : WayOut). way.near) here in
          let same_there = ap (λ (way : WayOut). way.near) there in
          omega arith);
      all = λ way way_is near. (
          let place = all.all way way_is in
          let k = place.0 in
          let inside : k < length ways = place.1 in
          let at : get_or ways k way ≡ way = place.2 in
          let near_at : (get_or ways k way).near ≡ ia = ap (λ (w : WayOut). w.near) at ∙ near in
          let after : start ≤ k = elim (cases_lt k start) [
            | inl before ↦ absurd (let low = ltb-true _ _ (lower.0 k way (omega arith) before) in
                omega arith)
            | inr after ↦ after
          ] in
          let j = k - start in
          let lengths = length-drop start ways in
          let within : j < length later = omega arith in
          let place_is : start + j ≡ k = omega arith in
          let there : get_or later j way ≡ way = get_or-drop start ways j way
          ∙ (ap (λ i. get_or ways i way) place_is ∙ at) in
          let near_there : (get_or later j way).near ≡ ia = ap (λ (w : WayOut). w.near) there
          ∙ near in
          let below : j < count = elim (cases_lt j count) [
            | inl below ↦ below
            | inr above ↦ absurd (let high = leb-false _ _ (upper.1 j way above within) in omega
                arith)
          ] in
          let short = length-take count later in (
            j,
            (let fits : j < length (take count later) = omega arith in fits),
            get_or-take count
                later j way below ∙ there,
          ));
    }
