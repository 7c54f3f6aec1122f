-- Core segments that an index finds from either side to the other.
use Rattle.std.proofs.Common.{◌≡◌, ℕ, suc, ◌^◌, ◌<◌, ◌≤◌, nat_eq, nat_le, Bool, true, false, ◌&&◌, ◌||◌, Option, Some, None, List, [], ◌∷◌, ◌++◌, length, map, filter, All, refl, get_or, cond, ap, sym, ◌∙◌, inl, inr, arith}
use Rattle.std.specs.Prelude.{slice_get}
use Rattle.std.specs.Option.{option_map_or}
use Rattle.std.specs.List.{list_any, flat_map, range_with_len}
use Rattle.std.specs.List.Sorted.{IsStrictlyIncreasing}
use Rattle.std.proofs.lemmas.Bool.{and_parts, and_from, cases_Bool, eqb-true, eq-eqb, leb-true, le-leb, true≢false}
use Rattle.std.proofs.lemmas.List.Folds.{list_any-append}
use Rattle.path_segment.specs.declared.kind.SegKind.{SegKind}
use Rattle.path_segment.specs.declared.kind.SegKind.TheVariants.{Core}
use Rattle.path_segment.specs.Chain.{Chain, first_as, last_as}
use Rattle.path_segment.specs.Tests.{is_live, same_kind}
use Rattle.path_segment.proofs.Decided.{same_kind-Decides}
use Rattle.path_server.specs.Index.{IsIndex, HasAddresses, rank_between, rank, rank_at}
use Rattle.path_server.specs.inner.Index.{core_places, lies_between, segments_at, passes_at, is_in}
use Rattle.path_server.specs.Lookup.{leads_between, is_reached}
use Rattle.path_server.proofs.Lying.{lies_exactly, addresses_at}
use Rattle.path_server.proofs.Orders.{same_test, same_decided, any_none, any_on, any_same, any_and, any_flat_map}
use Rattle.path_server.proofs.Places.{found_is_kept, is_in-live}

-- ---- one pair of ASes

-- a live core segment, at a place of the list
abbrev is_core_at : List Chain → ℕ → ℕ → Bool
is_core_at segments now i =
    passes_at (λ s. same_kind s.kind Core && is_live now s) segments i && is_in (range_with_len 0 (length segments)) i

-- the segment at a place begins in one AS and ends in another
abbrev leads_at : List Chain → ℕ → ℕ → ℕ → Bool
leads_at segments i one other = passes_at (λ s. nat_eq (first_as s) one && nat_eq (last_as s) other) segments i

core_ends : (kind : SegKind) (first last one other : ℕ) → first < 2 ^ 64 → last < 2 ^ 64 → one < 2 ^ 64
    → other < 2 ^ 64
    → (nat_le (rank_between Core one other) (rank_between kind first last) && nat_le (rank_between kind first last) (rank_between Core one other)) ≡ (same_kind kind Core && (nat_eq first one && nat_eq last other))
core_ends kind first last one other a b c d = same_decided _ _ (lies_exactly Core kind one other first last c d a b) (
  λ e. (let outer = and_parts (same_kind kind Core) (nat_eq first one && nat_eq last other) e in let inner = and_parts (nat_eq first one) (nat_eq last other) outer.1 in
      (sym ((same_kind-Decides kind Core).0 outer.0), sym (eqb-true first one inner.0), sym (eqb-true last other inner.1))),
  λ h. and_from (same_kind kind Core) (nat_eq first one && nat_eq last other) ((same_kind-Decides kind Core).1 (sym h.0)) (and_from (nat_eq first one) (nat_eq last other) (eq-eqb first one (sym h.1)) (eq-eqb last other (sym h.2))),
)

and_swap : (a b : Bool) → (a && b) ≡ (b && a)
and_swap true true = refl
and_swap true false = refl
and_swap false true = refl
and_swap false false = refl

in_order : (live kind ends there : Bool) → (live && ((kind && ends) && there)) ≡ (((kind && live) && there) && ends)
in_order true true ends there = and_swap ends there
in_order true false ends there = refl
in_order false true ends there = refl
in_order false false ends there = refl

joining_one : (segments : List Chain) → All HasAddresses segments → (one other : ℕ) → one < 2 ^ 64
    → other < 2 ^ 64 → (now : ℕ) (there : Bool) (o : Option Chain)
    → ((segment : Chain) → o ≡ Some segment → HasAddresses segment)
    → (option_map_or (is_live now) o false && ((nat_le (rank_between Core one other) (option_map_or rank o 0) && nat_le (option_map_or rank o 0) (rank_between Core one other)) && there))
    ≡ ((option_map_or (λ s. same_kind s.kind Core && is_live now s) o false && there) && option_map_or (λ s. nat_eq (first_as s) one && nat_eq (last_as s) other) o false)
joining_one segments all one other c d now there None addresses = refl
joining_one segments all one other c d now there (Some s) addresses =
    let bounds = addresses s refl in
    ap (λ b. is_live now s && (b && there)) (core_ends s.kind (first_as s) (last_as s) one other bounds.0 bounds.1 c d)
    ∙ in_order (is_live now s) (same_kind s.kind Core) (nat_eq (first_as s) one && nat_eq (last_as s) other) there

-- the live core places from one AS to another
leading : (segments : List Chain) (index : List ℕ) → IsIndex segments index → (first last : ℕ)
    → first < 2 ^ 64 → last < 2 ^ 64 → (now i : ℕ)
    → is_in (core_places segments index now last first) i ≡ (is_core_at segments now i && leads_at segments i first last)
leading segments index is first last c d now i =
    is_in-live segments index is.each now _ _ i
    ∙ joining_one segments is.addresses first last c d now (is_in (range_with_len 0 (length segments)) i)
    (slice_get segments i) (addresses_at segments is.addresses i)

-- the live core places from some ASes to others
all_leading : (segments : List Chain) (index firsts lasts : List ℕ) → IsIndex segments index
    → All (λ ia. ia < 2 ^ 64) firsts → All (λ ia. ia < 2 ^ 64) lasts → (now i : ℕ)
    → is_in (flat_map (λ last. flat_map (core_places segments index now last) firsts) lasts) i
    ≡ list_any (λ last. list_any (λ first. is_core_at segments now i && leads_at segments i first last) firsts) lasts
all_leading segments index firsts lasts is small smalls now i =
    any_flat_map (nat_eq i) (λ last. flat_map (core_places segments index now last) firsts) lasts
    ∙ any_on _ (λ last. list_any (λ first. is_core_at segments now i && leads_at segments i first last) firsts) lasts
    (λ k d within.
    any_flat_map (nat_eq i) (core_places segments index now (get_or lasts k d)) firsts
    ∙ any_on _ (λ first. is_core_at segments now i && leads_at segments i first (get_or lasts k d)) firsts
    (λ j e inside.
    leading segments index is (get_or firsts j e) (get_or lasts k d) (small j e inside) (smalls k d within) now i))

-- ---- both sides

regroup : (c a b : Bool) → (c && (a && b)) ≡ ((c && a) && b)
regroup true a b = refl
regroup false a b = refl

turned : (c a b : Bool) → ((c && a) && b) ≡ ((c && b) && a)
turned true a b = and_swap a b
turned false a b = refl

either_same : {a b c d : Bool} → a ≡ b → c ≡ d → (a || c) ≡ (b || d)
either_same {b = b} {c = c} one other = ap (λ x. x || c) one ∙ ap (λ y. b || y) other

both_ways : (c a b d e : Bool) → ((c && (a && b)) || (c && (d && e))) ≡ (c && ((a && b) || (e && d)))
both_ways true a b d e = ap (λ x. (a && b) || x) (and_swap d e)
both_ways false a b d e = refl

-- a sum over pairs of ASes, one of each list
pair_sum : (c : Bool) (f l : ℕ) (firsts lasts : List ℕ)
    → list_any (λ last. list_any (λ first. c && (nat_eq f first && nat_eq l last)) firsts) lasts
    ≡ (c && (is_in firsts f && is_in lasts l))
pair_sum c f l firsts lasts =
    any_same _ (λ last. (c && is_in firsts f) && nat_eq l last) (λ last.
    any_same _ (λ first. (c && nat_eq l last) && nat_eq f first)
    (λ first. regroup c (nat_eq f first) (nat_eq l last) ∙ turned c (nat_eq f first) (nat_eq l last)) firsts
    ∙ any_and (c && nat_eq l last) (nat_eq f) firsts ∙ turned c (nat_eq l last) (is_in firsts f)) lasts
    ∙ any_and (c && is_in firsts f) (nat_eq l) lasts ∙ sym (regroup c (is_in firsts f) (is_in lasts l))

final_order : (kind live there ends : Bool) → (((kind && live) && there) && ends) ≡ ((kind && (live && ends)) && there)
final_order true true there ends = and_swap there ends
final_order true false there ends = refl
final_order false live there ends = refl

none_of_pairs : (firsts lasts : List ℕ) → list_any (λ (last : ℕ). list_any (λ (first : ℕ). false) firsts) lasts ≡ false
none_of_pairs firsts lasts = any_same _ (λ last. false) (λ last. any_none firsts) lasts ∙ any_none lasts

-- the segment at a place leads from one of these ASes to one of those
abbrev is_led : List ℕ → List ℕ → ℕ → Bool → Option Chain → Bool
is_led firsts lasts now there o =
    list_any (λ last. list_any (λ first. (option_map_or (λ s. same_kind s.kind Core && is_live now s) o false && there) && option_map_or (λ s. nat_eq (first_as s) first && nat_eq (last_as s) last) o false) firsts) lasts

sides_one : (near far : List ℕ) (now : ℕ) (there : Bool) (o : Option Chain)
    → (is_led near far now there o || is_led far near now there o) ≡ (option_map_or (leads_between (is_in near) (is_in far) now) o false && there)
unfolding leads_between
sides_one near far now there None = either_same (none_of_pairs near far) (none_of_pairs far near)
sides_one near far now there (Some s) =
    let c = (same_kind s.kind Core && is_live now s) && there in
    either_same (pair_sum c (first_as s) (last_as s) near far) (pair_sum c (first_as s) (last_as s) far near)
    ∙ both_ways c (is_in near (first_as s)) (is_in far (last_as s)) (is_in far (first_as s)) (is_in near (last_as s))
    ∙ final_order (same_kind s.kind Core) (is_live now s) there
    ((is_in near (first_as s) && is_in far (last_as s)) || (is_in near (last_as s) && is_in far (first_as s)))

-- the live core segments between two sides, found by the index
pub joining_is_kept : (segments : List Chain) (index places near far : List ℕ) → IsIndex segments index
    → All (λ ia. ia < 2 ^ 64) near → All (λ ia. ia < 2 ^ 64) far → (now : ℕ) → IsStrictlyIncreasing places
    → ((i : ℕ) → is_in places i ≡ is_in (flat_map (λ last. flat_map (core_places segments index now last) near) far ++ flat_map (λ last. flat_map (core_places segments index now last) far) near) i)
    → segments_at segments places ≡ filter (leads_between (is_in near) (is_in far) now) segments
joining_is_kept segments index places near far is nears fars now rises just =
    found_is_kept (leads_between (is_in near) (is_in far) now) segments places rises (λ i. just i
    ∙ list_any-append (nat_eq i) (flat_map (λ last. flat_map (core_places segments index now last) near) far) _
    ∙ either_same (all_leading segments index near far is nears fars now i)
    (all_leading segments index far near is fars nears now i)
    ∙ sides_one near far now (is_in (range_with_len 0 (length segments)) i) (slice_get segments i))

-- ---- the core segments that end in one AS

-- what a test keeps of a list is what it keeps of the part that a weaker one keeps
kept_again : (p q : ℕ → Bool) → ((i : ℕ) → p i ≡ true → q i ≡ true) → (xs : List ℕ)
    → filter p (filter q xs) ≡ filter p xs
kept_again p q weaker [] = refl
kept_again p q weaker (x ∷ xs) = elim (cases_Bool (q x)) [
  | inl passes ↦ rw passes (ap (λ rest. cond (p x) (x ∷ rest) rest) (kept_again p q weaker xs))
  | inr fails ↦ elim (cases_Bool (p x)) [
    | inl both ↦ absurd (true≢false (sym (weaker x both) ∙ fails))
    | inr none ↦ rw (fails, none) (kept_again p q weaker xs)
  ]
]

within_last : (first last : ℕ) → first < 2 ^ 64
    → (rank_between Core 0 last ≤ rank_between Core first last) × (rank_between Core first last ≤ rank_between Core 18446744073709551615 last)
unfolding rank_between
within_last first last a = (omega arith, omega arith)

-- the places of core segments between two ASes, found among those that end in the second
ending_first : (segments : List Chain) (index : List ℕ) (now last first : ℕ) → first < 2 ^ 64
    → core_places segments (filter (lies_between segments (rank_between Core 0 last) (rank_between Core 18446744073709551615 last)) index) now last first ≡ core_places segments index now last first
ending_first segments index now last first small =
    let ends = rank_between Core first last in
    let within = within_last first last small in
    ap (filter (passes_at (is_live now) segments))
    (kept_again (lies_between segments ends ends) (lies_between segments (rank_between Core 0 last) (rank_between Core 18446744073709551615 last)) (λ i e.
    let parts = and_parts (nat_le ends (rank_at segments i)) (nat_le (rank_at segments i) ends) e in
    let low = leb-true ends (rank_at segments i) parts.0 in
    let high = leb-true (rank_at segments i) ends parts.1 in
    let least = rank_between Core 0 last in
    let most = rank_between Core 18446744073709551615 last in
    and_from (nat_le least (rank_at segments i)) (nat_le (rank_at segments i) most)
    (le-leb least (rank_at segments i) (omega (arith, low, within.0)))
    (le-leb (rank_at segments i) most (omega (arith, high, within.1)))) index)

flat_map_on : (f g : ℕ → List ℕ) (xs : List ℕ) → All (λ x. f x ≡ g x) xs → flat_map f xs ≡ flat_map g xs
flat_map_on f g [] same = refl
flat_map_on f g (x ∷ xs) same =
    rw (same 0 x (omega arith), flat_map_on f g xs (λ k d within. same (suc k) d (omega arith))) refl

-- and those from each of some ASes
pub all_ending_first : (segments : List Chain) (index : List ℕ) (now last : ℕ) (firsts : List ℕ)
    → All (λ ia. ia < 2 ^ 64) firsts
    → flat_map (core_places segments (filter (lies_between segments (rank_between Core 0 last) (rank_between Core 18446744073709551615 last)) index) now last) firsts ≡ flat_map (core_places segments index now last) firsts
all_ending_first segments index now last firsts small =
    flat_map_on _ _ firsts (λ k d within. ending_first segments index now last (get_or firsts k d) (small k d within))

-- ---- the ASes of a side

eqb_turned : (a b : ℕ) → nat_eq a b ≡ nat_eq b a
eqb_turned a b =
    same_test (nat_eq a b) (nat_eq b a) (λ e. eq-eqb b a (sym (eqb-true a b e)))
    (λ e. eq-eqb a b (sym (eqb-true b a e)))

begins_in : (segments : List Chain) (other : ℕ)
    → is_in (map first_as segments) other ≡ list_any (λ s. nat_eq (first_as s) other) segments
begins_in [] other = refl
begins_in (s ∷ segments) other = either_same (eqb_turned other (first_as s)) (begins_in segments other)

-- an AS and those in which segments begin are those that are reached
pub reached_is : (ia : ℕ) (segments : List Chain) (other : ℕ)
    → is_in (ia ∷ map first_as segments) other ≡ is_reached ia segments other
unfolding is_reached
reached_is ia segments other = ap (λ rest. nat_eq other ia || rest) (begins_in segments other)

-- among no places none is found
pub none_among : (segments : List Chain) (now last : ℕ) (firsts : List ℕ)
    → flat_map (core_places segments [] now last) firsts ≡ []
none_among segments now last [] = refl
none_among segments now last (first ∷ firsts) = none_among segments now last firsts
