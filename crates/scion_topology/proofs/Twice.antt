-- What stands twice is what has a number that stands twice.
use Rattle.std.proofs.Common.{◌≡◌, ◌^◌, ◌<◌, nat_eq, Bool, true, false, ◌||◌, List, [], ◌∷◌, map, All, suc, refl, sym, ap, ap₂, ◌∙◌, inl, inr, arith}
use Rattle.std.specs.List.{list_any, flat_map}
use Rattle.std.proofs.lemmas.Bool.{cases_Bool, eqb-true, eq-eqb, and_parts, and_from}
use Rattle.std.proofs.lemmas.List.Folds.{list_any-append}
use Rattle.doubles.specs.Doubles.{has_double}
use Rattle.doubles.proofs.Named.{named_is, same_test}
use Rattle.scion_topology.specs.declared.network.AsEntry.{AsEntry}
use Rattle.scion_topology.specs.declared.network.End.{End}
use Rattle.scion_topology.specs.declared.network.Link.{Link}
use Rattle.scion_topology.specs.Network.{is_end, has_end}
use Rattle.scion_topology.specs.Causes.{lists_twice, stands, joins_twice}
use Rattle.scion_topology.specs.inner.Doubled.{HasBits, end_number, numbers_of}

-- ---- ASes

pub lists_twice_is : (ases : List AsEntry) → has_double (map (λ one. one.ia) ases) ≡ lists_twice ases
unfolding lists_twice
lists_twice_is [] = refl
lists_twice_is (one ∷ rest) = ap₂ (λ a b. a || b) (named_is (λ other. other.ia) one.ia rest) (lists_twice_is rest)

-- ---- interfaces

same_end : (one other : End) → one.number < 2 ^ 16 → other.number < 2 ^ 16
    → nat_eq (end_number one) (end_number other) ≡ is_end other one.ia one.number
same_end one other small few = same_test _ _
    (λ e. let same = eqb-true _ _ e in
    and_from _ _ (eq-eqb other.ia one.ia (omega (arith, same, small, few)))
    (eq-eqb other.number one.number (omega (arith, same, small, few))))
    (λ both. eq-eqb _ _ (
    let parts = and_parts _ _ both in
    let ia = eqb-true other.ia one.ia parts.0 in
    let number = eqb-true other.number one.number parts.1 in
    omega (arith, ia, number)))

or_itself : (a : Bool) → (a || false) ≡ (a || a)
or_itself true = refl
or_itself false = refl

or_none : (a : Bool) → (a || false) ≡ a
or_none true = refl
or_none false = refl

or_again : (a b : Bool) → (a || b) ≡ (a || (a || b))
or_again true b = refl
or_again false b = refl

-- a link has an end there where one of its numbers is that of the end
has_end_is : (end : End) (link : Link) → end.number < 2 ^ 16 → HasBits link
    → list_any (nat_eq (end_number end)) (numbers_of link) ≡ has_end link end.ia end.number
has_end_is end link small bits =
    let a = same_end end link.a small bits.0 in
    let b = same_end end link.b small bits.1 in
    elim (cases_Bool (nat_eq (end_number link.a) (end_number link.b))) [
      | inl same ↦ (let one = eqb-true (end_number link.a) (end_number link.b) same in
          rw same (or_itself _
          ∙ ap₂ (λ x y. x || y) a (ap (nat_eq (end_number end)) one ∙ b)))
      | inr other ↦ rw other (ap₂ (λ x y. x || y) a (or_none _ ∙ b))
    ]

stands_is : (end : End) (links : List Link) → end.number < 2 ^ 16 → All HasBits links
    → list_any (nat_eq (end_number end)) (flat_map numbers_of links) ≡ stands links end
stands_is end [] small bits = refl
stands_is end (link ∷ rest) small bits =
    list_any-append (nat_eq (end_number end)) (numbers_of link) (flat_map numbers_of rest)
    ∙ ap₂ (λ x y. x || y) (has_end_is end link small (bits 0 link (omega arith)))
    (stands_is end rest small (λ k d within. bits (suc k) d (omega arith)))

pub joins_twice_is : (links : List Link) → All HasBits links
    → has_double (flat_map numbers_of links) ≡ joins_twice links
unfolding joins_twice
joins_twice_is [] bits = refl
joins_twice_is (link ∷ rest) bits =
    let own = bits 0 link (omega arith) in
    let later : All HasBits rest = λ k d within. bits (suc k) d (omega arith) in
    let a = stands_is link.a rest own.0 later in
    let b = stands_is link.b rest own.1 later in
    let all = joins_twice_is rest later in
    elim (cases_Bool (nat_eq (end_number link.a) (end_number link.b))) [
      | inl same ↦ (let one = eqb-true (end_number link.a) (end_number link.b) same in
          let ends : stands rest link.a ≡ stands rest link.b =
          sym a ∙ ap (λ n. list_any (nat_eq n) (flat_map numbers_of rest)) one ∙ b in
          rw same (ap₂ (λ x y. x || y) a all ∙ or_again (stands rest link.a) (joins_twice rest)
          ∙ ap (λ x. stands rest link.a || (x || joins_twice rest)) ends))
      | inr other ↦ rw (other, other) (ap₂ (λ x y. x || y) a (ap₂ (λ x y. x || y) b all))
    ]
