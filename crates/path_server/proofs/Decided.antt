-- What the test of segments that are counted together says.
use Rattle.std.proofs.Common.{◌≡◌, ℕ, true, ◌&&◌, ◌==◌, Decides, refl}
use Rattle.std.proofs.lemmas.Bool.{and_parts, and_from, eqb-true, eq-eqb}
use Rattle.path_segment.specs.declared.kind.SegKind.{SegKind}
use Rattle.path_segment.specs.Chain.{Chain, first_as, last_as}
use Rattle.path_segment.specs.Tests.{same_kind}
use Rattle.path_segment.proofs.Decided.{same_kind-Decides}
use Rattle.path_server.specs.Segment.{is_alike}

pub is_alike-Decides : (a b : Chain)
    → Decides (is_alike a b) ((a.kind ≡ b.kind) × (first_as a ≡ first_as b) × (last_as a ≡ last_as b))
unfolding is_alike
is_alike-Decides a b = (
  λ e.
      let p1 = and_parts (same_kind a.kind b.kind) _ e in
      let p2 = and_parts (first_as a == first_as b) (last_as a == last_as b) p1.1 in
      ((same_kind-Decides a.kind b.kind).0 p1.0, eqb-true _ _ p2.0, eqb-true _ _ p2.1),
  λ h. and_from _ _ ((same_kind-Decides a.kind b.kind).1 h.0) (and_from _ _ (eq-eqb _ _ h.1) (eq-eqb _ _ h.2)),
)

alike_tests : (k l m : SegKind) (f g h i j n : ℕ) → k ≡ l → f ≡ g → i ≡ j
    → (same_kind k m && ((f == h) && (i == n))) ≡ (same_kind l m && ((g == h) && (j == n)))
alike_tests k l m f g h i j n kind first last = rw (kind, first, last) refl

-- what is like a segment is like those that it is like
pub is_alike-same : (a b : Chain) → is_alike a b ≡ true → (x : Chain) → is_alike a x ≡ is_alike b x
unfolding is_alike
is_alike-same a b same_ends x =
    let same = (is_alike-Decides a b).0 same_ends in
    alike_tests a.kind b.kind x.kind (first_as a) (first_as b) (first_as x) (last_as a) (last_as b)
    (last_as x) same.0 same.1 same.2
