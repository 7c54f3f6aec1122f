-- One entry behind those of a beacon: which rules are left to look at.
use Rattle.std.proofs.Common.{◌≡◌, ℕ, ◌+◌, ◌≤◌, Bool, true, false, ◌&&◌, ◌||◌, ◌==◌, not, cond, List, [], ◌∷◌, ◌++◌, length, Option, Some, None, refl, ◌∙◌, arith, length-append}
use Rattle.std.specs.Prelude.{nat_lt, nat_le}
use Rattle.std.specs.List.{list_any, list_all}
use Rattle.std.proofs.Math.Bool.{and-true}
use Rattle.std.proofs.lemmas.Bool.{and_parts, or_parts, ltb-false, le-ltb, not-false}
use Rattle.std.proofs.lemmas.Bool.Decides.{nat_tests}
use Rattle.std.proofs.lemmas.List.Folds.{list_all-append, list_any-append}
use Rattle.path_segment.specs.declared.entry.Entry.{Entry}
use Rattle.path_segment.specs.declared.fault.SegmentFault.{SegmentFault}
use Rattle.path_segment.specs.declared.fault.SegmentFault.TheVariants as faults
use Rattle.path_segment.specs.Rules.{has_way_in, has_way_out, begins_well, ends_well, names_as_twice, next_fault, last_fault, beacon_fault, segment_fault}

pub guard_none : (b : Bool) (f : SegmentFault) (r : Option SegmentFault) → cond b (Some f) r ≡ None
    → (b ≡ false) × (r ≡ None)
guard_none true f r e = absurd cc
guard_none false f r e = (refl, e)

-- what a beacon's entries are free of
pub record IsFree (entries : List Entry) : Type 0 where
  pub some : 1 ≤ length entries
  pub few : length entries ≤ 62
  pub begins : begins_well entries ≡ true
  pub on : list_all has_way_out entries ≡ true
  pub once : names_as_twice entries ≡ false

pub IsFree-beacon_fault : (es : List Entry) → beacon_fault es ≡ None → IsFree es
unfolding beacon_fault
IsFree-beacon_fault es none =
    let a = guard_none (nat_lt (length es) 1) _ _ none in
    let b = guard_none (nat_lt 62 (length es)) _ _ a.1 in
    let c = guard_none (not (begins_well es && list_all has_way_out es)) _ _ b.1 in
    let d = guard_none (names_as_twice es) _ _ c.1 in
    let ends = and_parts (begins_well es) (list_all has_way_out es) (not-false _ c.0) in
    record {
      some = ltb-false _ _ a.0;
      few = ltb-false _ _ b.0;
      begins = ends.0;
      on = ends.1;
      once = d.0;
    }

same_back : (m n : ℕ) → (m == n) ≡ (n == m)
same_back m n = grind (arith, nat_tests)

length_push : (es : List Entry) (e : Entry) → length (es ++ (e ∷ [])) ≡ length es + 1
length_push es e = length-append es (e ∷ [])

all_push : (p : Entry → Bool) (es : List Entry) (e : Entry) → list_all p es ≡ true → list_all p (es ++ (e ∷ [])) ≡ p e
all_push p es e all = list_all-append p es (e ∷ []) ∙ rw all (and-true (p e))

begins_push : (es : List Entry) (e : Entry) → 1 ≤ length es → begins_well es ≡ true
    → begins_well (es ++ (e ∷ [])) ≡ has_way_in e
begins_push [] e some all = absurd (omega arith)
begins_push (first ∷ later) e some all =
    let parts = and_parts (not (has_way_in first)) (list_all has_way_in later) all in
    rw parts.0 (all_push has_way_in later e parts.1)

ends_push : (es : List Entry) (e : Entry) → list_all has_way_out es ≡ true
    → ends_well (es ++ (e ∷ [])) ≡ not (has_way_out e)
ends_push [] e all = refl
ends_push (x ∷ []) e all = let parts = and_parts (has_way_out x) true all in rw parts.0 refl
ends_push (x ∷ y ∷ more) e all =
    let parts = and_parts (has_way_out x) (list_all has_way_out (y ∷ more)) all in
    rw parts.0 (ends_push (y ∷ more) e parts.1)

shuffled : (a b c d : Bool) → a ≡ false → b ≡ c → ((a || (b || false)) || d) ≡ (c || d)
shuffled true b c d e f = absurd cc
shuffled false true c d e f = rw (← f) refl
shuffled false false c d e f = rw (← f) refl

twice_push : (es : List Entry) (e : Entry) → names_as_twice es ≡ false
    → names_as_twice (es ++ (e ∷ [])) ≡ list_any (λ other. other.ia == e.ia) es
twice_push [] e once = refl
twice_push (x ∷ xs) e once =
    let parts = or_parts (list_any (λ other. other.ia == x.ia) xs) (names_as_twice xs) once in
    rw (list_any-append (λ other. other.ia == x.ia) xs (e ∷ []), twice_push xs e parts.1)
    (shuffled (list_any (λ other. other.ia == x.ia) xs) (e.ia == x.ia) (x.ia == e.ia) (list_any (λ other. other.ia == e.ia) xs) parts.0 (same_back e.ia x.ia))

pub next_is : (es : List Entry) (e : Entry) → beacon_fault es ≡ None → next_fault es e ≡ beacon_fault (es ++ (e ∷ []))
unfolding beacon_fault next_fault
next_is es e none =
    let free = IsFree-beacon_fault es none in
    let some : nat_lt (length es + 1) 1 ≡ false = le-ltb _ _ (omega arith) in
    let long : nat_lt 62 (length es + 1) ≡ nat_le 62 (length es) = grind (arith, nat_tests) in
    rw (length_push es e, some, long, begins_push es e free.some free.begins, all_push has_way_out es e free.on, twice_push es e free.once) refl

last_tests : (way_in way_out loop : Bool)
    → cond (not way_in || way_out) (Some faults.BadEnds) (cond loop (Some faults.Loop) None) ≡ cond (not (way_in && not way_out)) (Some faults.BadEnds) (cond loop (Some faults.Loop) None)
last_tests true true loop = refl
last_tests true false loop = refl
last_tests false way_out loop = refl

pub last_is : (es : List Entry) (e : Entry) → beacon_fault es ≡ None → last_fault es e ≡ segment_fault (es ++ (e ∷ []))
unfolding segment_fault last_fault
last_is es e none =
    let free = IsFree-beacon_fault es none in
    let some : nat_lt (length es + 1) 2 ≡ false =
    (let more : 2 ≤ length es + 1 = (let h = free.some in omega arith) in le-ltb _ _ more) in
    let long : nat_lt 63 (length es + 1) ≡ false =
    (let few : length es + 1 ≤ 63 = (let h = free.few in omega arith) in le-ltb _ _ few) in
    rw (length_push es e, some, long, begins_push es e free.some free.begins, ends_push es e free.on, twice_push es e free.once)
    (last_tests (has_way_in e) (has_way_out e) (list_any (λ other. other.ia == e.ia) es))
