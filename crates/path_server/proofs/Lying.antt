-- Which segments have ends that lie between two.
use Rattle.std.proofs.Common.{◌≡◌, ℕ, ◌^◌, ◌<◌, ◌≤◌, nat_le, ◌==◌, Bool, true, false, ◌&&◌, Option, Some, None, List, All, Decides, refl, ap, ◌∙◌, subst, arith}
use Rattle.std.specs.Prelude.{slice_get}
use Rattle.std.specs.Option.{option_map_or}
use Rattle.std.proofs.lemmas.Bool.{and_parts, and_from, and_left, leb-true, le-leb, lt-leb, eqb-true, eq-eqb}
use Rattle.std.proofs.lemmas.Option.{slice_get_within, get_or_from_slice_get}
use Rattle.path_segment.specs.declared.kind.SegKind.{SegKind}
use Rattle.path_segment.specs.declared.kind.SegKind.TheVariants.{Core, Intra}
use Rattle.path_segment.specs.Chain.{Chain, first_as, last_as}
use Rattle.path_segment.specs.Tests.{is_live, is_same, same_kind}
use Rattle.path_segment.proofs.Decided.{is_same-Decides}
use Rattle.path_server.specs.Segment.{is_alike}
use Rattle.path_server.specs.Index.{rank_between, rank, HasAddresses}
use Rattle.path_server.specs.inner.Index.{lies_between, passes_at}
use Rattle.path_server.specs.Lookup.{is_intra_to}
use Rattle.path_server.proofs.Decided.{is_alike-Decides}
use Rattle.path_server.proofs.Orders.{same_test, same_decided}

-- ---- the numbers of ends

itself : (m n : ℕ) → Decides (nat_le m n && nat_le n m) (m ≡ n)
itself m n = (
  λ e. (let parts = and_parts (nat_le m n) (nat_le n m) e in let low = leb-true m n parts.0 in let high = leb-true n m parts.1 in omega arith),
  λ same. and_from (nat_le m n) (nat_le n m) (le-leb m n (omega arith)) (le-leb n m (omega arith)),
)

-- ends with one number are the same
ends_are_same : (k kind : SegKind) (f l first last : ℕ) → f < 2 ^ 64 → l < 2 ^ 64 → first < 2 ^ 64
    → last < 2 ^ 64 → rank_between k f l ≡ rank_between kind first last
    → (k ≡ kind) × (f ≡ first) × (l ≡ last)
unfolding rank_between
ends_are_same Core Core f l first last a b c d same = (refl, omega arith, omega arith)
ends_are_same Intra Intra f l first last a b c d same = (refl, omega arith, omega arith)
ends_are_same Core Intra f l first last a b c d same = absurd (omega arith)
ends_are_same Intra Core f l first last a b c d same = absurd (omega arith)

-- between one number of ends and itself just those ends lie
pub lies_exactly : (k kind : SegKind) (f l first last : ℕ) → f < 2 ^ 64 → l < 2 ^ 64 → first < 2 ^ 64
    → last < 2 ^ 64
    → Decides (nat_le (rank_between k f l) (rank_between kind first last) && nat_le (rank_between kind first last) (rank_between k f l)) ((k ≡ kind) × (f ≡ first) × (l ≡ last))
lies_exactly k kind f l first last a b c d = (
  λ e. ends_are_same k kind f l first last a b c d ((itself (rank_between k f l) (rank_between kind first last)).0 e),
  λ h. (itself (rank_between k f l) (rank_between kind first last)).1 (rw (h.0, h.1, h.2) refl),
)

at_last_intra : (first last ia : ℕ) → first < 2 ^ 64 → last < 2 ^ 64 → ia < 2 ^ 64
    → (rank_between Intra 0 ia ≤ rank_between Intra first last)
    → (rank_between Intra first last ≤ rank_between Intra 18446744073709551615 ia) → last ≡ ia
unfolding rank_between
at_last_intra first last ia a b c low high = omega arith

at_last_core : (first last ia : ℕ) → first < 2 ^ 64 → last < 2 ^ 64
    → rank_between Core first last < rank_between Intra 0 ia
unfolding rank_between
at_last_core first last ia a b = omega arith

within_last : (first ia : ℕ) → first < 2 ^ 64
    → (rank_between Intra 0 ia ≤ rank_between Intra first ia) × (rank_between Intra first ia ≤ rank_between Intra 18446744073709551615 ia)
unfolding rank_between
within_last first ia a = (omega arith, omega arith)

-- between the least and the greatest intra ends at a last AS just those lie
lies_at_last : (kind : SegKind) (first last ia : ℕ) → first < 2 ^ 64 → last < 2 ^ 64 → ia < 2 ^ 64
    → (nat_le (rank_between Intra 0 ia) (rank_between kind first last) && nat_le (rank_between kind first last) (rank_between Intra 18446744073709551615 ia)) ≡ (same_kind kind Intra && (last == ia))
lies_at_last Core first last ia a b c = and_left _ _ (lt-leb _ _ (at_last_core first last ia a b))
lies_at_last Intra first last ia a b c =
    let own = rank_between Intra first last in
    let low = rank_between Intra 0 ia in
    let high = rank_between Intra 18446744073709551615 ia in
    same_test (nat_le low own && nat_le own high) (last == ia)
    (λ e. (let parts = and_parts (nat_le low own) (nat_le own high) e in eq-eqb last ia (at_last_intra first last ia a b c (leb-true low own parts.0) (leb-true own high parts.1))))
    (λ e. (let within = within_last first ia a in
    rw (eqb-true last ia e)
    (and_from (nat_le low (rank_between Intra first ia)) (nat_le (rank_between Intra first ia) high) (le-leb _ _ within.0) (le-leb _ _ within.1))))

-- ---- the segments at places

-- a segment of the list has addresses
pub addresses_at : (segments : List Chain) → All HasAddresses segments → (i : ℕ) (segment : Chain)
    → slice_get segments i ≡ Some segment → HasAddresses segment
addresses_at segments all i segment there =
    subst HasAddresses (get_or_from_slice_get segments i segment segment there)
    (all i segment (slice_get_within segments i segment there))

-- at the ends of a segment lie those that are counted with it
pub lies_alike : (segments : List Chain) → All HasAddresses segments → (segment : Chain)
    → HasAddresses segment → (i : ℕ) (other : Chain) → slice_get segments i ≡ Some other
    → lies_between segments (rank segment) (rank segment) i ≡ is_alike segment other
lies_alike segments all segment here i other there =
    let others = addresses_at segments all i other there in
    rw there (same_decided _ _ (lies_exactly segment.kind other.kind _ _ _ _ here.0 here.1 others.0 others.1) (is_alike-Decides segment other))

implied : (a b : Bool) → (b ≡ true → a ≡ true) → (a && b) ≡ b
implied true b implies = refl
implied false true implies = implies refl
implied false false implies = refl

-- among them are those that are equal to it
pub lies_same : (segments : List Chain) → All HasAddresses segments → (segment : Chain) → HasAddresses segment
    → (i : ℕ) (other : Chain) → slice_get segments i ≡ Some other
    → (lies_between segments (rank segment) (rank segment) i && option_map_or (is_same segment) (slice_get segments i) false) ≡ is_same segment other
lies_same segments all segment here i other there =
    ap (λ b. b && option_map_or (is_same segment) (slice_get segments i) false)
    (lies_alike segments all segment here i other there)
    ∙ ap (λ o. is_alike segment other && option_map_or (is_same segment) o false) there
    ∙ implied (is_alike segment other) (is_same segment other)
    (λ same. (is_alike-Decides segment other).1 (let equal = (is_same-Decides segment other).0 same in (ap (λ c. c.kind) equal, ap first_as equal, ap last_as equal)))

-- ---- up and down segments

in_order : (live kind last there : Bool) → (live && ((kind && last) && there)) ≡ ((kind && (live && last)) && there)
in_order true kind last there = refl
in_order false true last there = refl
in_order false false last there = refl

ending_one : (ia now : ℕ) → ia < 2 ^ 64 → (there : Bool) (o : Option Chain)
    → ((segment : Chain) → o ≡ Some segment → HasAddresses segment)
    → (option_map_or (is_live now) o false && ((nat_le (rank_between Intra 0 ia) (option_map_or rank o 0) && nat_le (option_map_or rank o 0) (rank_between Intra 18446744073709551615 ia)) && there)) ≡ (option_map_or (is_intra_to ia now) o false && there)
unfolding is_intra_to
ending_one ia now fits there None addresses = refl
ending_one ia now fits there (Some s) addresses =
    let bounds = addresses s refl in
    ap (λ b. is_live now s && (b && there)) (lies_at_last s.kind (first_as s) (last_as s) ia bounds.0 bounds.1 fits)
    ∙ in_order (is_live now s) (same_kind s.kind Intra) (last_as s == ia) there

-- a live place between the least and the greatest intra ends at a last AS
pub ending_at : (segments : List Chain) → All HasAddresses segments → (ia now : ℕ) → ia < 2 ^ 64
    → (there : Bool) (i : ℕ)
    → (passes_at (is_live now) segments i && (lies_between segments (rank_between Intra 0 ia) (rank_between Intra 18446744073709551615 ia) i && there)) ≡ (passes_at (is_intra_to ia now) segments i && there)
ending_at segments all ia now fits there i =
    ending_one ia now fits there (slice_get segments i) (addresses_at segments all i)
