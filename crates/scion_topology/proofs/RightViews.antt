-- A view is made exactly of parts that are right.
use Rattle.std.proofs.Common.{◌≡◌, ◌≢◌, ℕ, zero, suc, ◌<◌, Bool, true, false, ◌||◌, not, ◌==◌, if◌then◌else◌, List, [], ◌∷◌, length, get_or, All, AllPairs, Contains, Option, Some, Ok, Err, IfOk, find, refl, sym, ◌∙◌, ap, arith}
use Rattle.std.specs.List.{list_all}
use Rattle.std.proofs.lemmas.List.Folds.{list_any_none}
use Rattle.std.proofs.lemmas.List.Kept.{AllPairs-cons}
use Rattle.std.proofs.lemmas.Bool.{not-false, not_from_true}
use Rattle.std.proofs.lemmas.Bool.Decides.{Decides-eqb}
use Rattle.scion_topology.specs.declared.entry.IfEntry.{IfEntry}
use Rattle.scion_topology.specs.declared.fault.TopologyFault.TheVariants as faults
use Rattle.scion_topology.specs.View.{View, IsRight, entry_of}
use Rattle.scion_topology.specs.Keys.{IsKey, AreKeys, is_key, accepted_keys}
use Rattle.scion_topology.specs.Network.{is_wildcard}
use Rattle.scion_topology.specs.Building.{has_bad_field, is_named, numbers_twice, view_of}
use Rattle.scion_topology.proofs.KeyTests.{is_key-IsKey, AreKeys-accepted}
use Rattle.scion_topology.proofs.Judging.{IsPlain-is_wildcard, is_wildcard-IsPlain}
use Rattle.scion_topology.proofs.Deciding.{list_all-from_All, or_false, false_or, apart, apart_test, each_fails}

named_once : (table : List IfEntry) → numbers_twice table ≡ false → AllPairs (λ one other. one.number ≢ other.number) table
unfolding numbers_twice
named_once [] e = λ i j d before below. absurd (omega arith)
named_once (entry ∷ rest) e =
    let parts = or_false (is_named entry.number rest) (numbers_twice rest) e in
    let others : All (λ other. entry.number ≢ other.number) rest = λ k d below same. apart _ _ (each_fails (λ other. other.number == entry.number) rest parts.0 k d below) (sym same) in
    AllPairs-cons (λ one other. one.number ≢ other.number) entry rest others (named_once rest parts.1)

not_named_twice : (table : List IfEntry) → AllPairs (λ one other. one.number ≢ other.number) table → numbers_twice table ≡ false
unfolding numbers_twice
not_named_twice [] once = refl
not_named_twice (entry ∷ rest) once =
    false_or (is_named entry.number rest) (numbers_twice rest)
    (list_any_none (λ other. other.number == entry.number) rest (λ k d below. apart_test _ _ (λ same. once zero (suc k) d (omega arith) (omega arith) (sym same))))
    (not_named_twice rest (λ i j d before below. once (suc i) (suc j) d (omega arith) (omega arith)))

-- parts that pass the tests are right
pub right : (ia router : ℕ) (keys : List (List ℕ)) (table : List IfEntry) → AreKeys keys → is_wildcard ia ≡ false → is_named 0 table ≡ false → numbers_twice table ≡ false
    → IsRight (record { ia = ia; router = router; keys = keys; table = table })
right ia router keys table are plain numbered once = record {
  plain = IsPlain-is_wildcard ia plain;
  keys = are;
  numbered = λ k d below. apart _ _ (each_fails (λ entry. entry.number == 0) table numbered k d below);
  once = named_once table once;
}

by_tests : (bad twice : Bool) (view : View) (P : View → Type 0) → (bad ≡ false → twice ≡ false → P view)
    → IfOk (if bad then Err faults.BadField else if twice then Err faults.DuplicateIf else Ok view) P
by_tests true twice view P h = tt
by_tests false true view P h = tt
by_tests false false view P h = h refl refl

pub made_right : (ia router : ℕ) (key : List ℕ) (previous : Option (List ℕ)) (table : List IfEntry)
    → IfOk (view_of ia router key previous table) (λ view. (view ≡ record { ia = ia; router = router; keys = accepted_keys key previous; table = table }) × IsRight view)
unfolding view_of
made_right ia router key previous table =
    let keys = accepted_keys key previous in
    by_tests (has_bad_field ia keys table) (numbers_twice table) (record { ia = ia; router = router; keys = keys; table = table })
    (λ view. (view ≡ record { ia = ia; router = router; keys = keys; table = table }) × IsRight view)
    (λ fine once. (
    let first = or_false (not (list_all is_key keys)) (is_wildcard ia || is_named 0 table) fine in
    let rest = or_false (is_wildcard ia) (is_named 0 table) first.1 in
    (refl, right ia router keys table (AreKeys-accepted key previous (not-false _ first.0)) rest.0 rest.1 once)))

no_bad_field : (view : View) → IsRight view → has_bad_field view.ia view.keys view.table ≡ false
no_bad_field view h =
    false_or _ _ (not_from_true _ (list_all-from_All is_key IsKey is_key-IsKey view.keys h.keys.each))
    (false_or _ _ (is_wildcard-IsPlain view.ia h.plain)
    (list_any_none (λ entry. entry.number == 0) view.table (λ k d below. apart_test _ _ (h.numbered k d below))))

pub right_made : (view : View) (key : List ℕ) (previous : Option (List ℕ)) → IsRight view → view.keys ≡ accepted_keys key previous → view_of view.ia view.router key previous view.table ≡ Ok view
unfolding view_of
right_made view key previous h are =
    let fine : has_bad_field view.ia (accepted_keys key previous) view.table ≡ false = rw (← are) (no_bad_field view h) in
    rw (fine, not_named_twice view.table h.once)
    (ap (λ (keys : List (List ℕ)). Ok (record { ia = view.ia; router = view.router; keys = keys; table = view.table })) (sym are))

-- the interface at a place of a table is the one that its number finds
found : (table : List IfEntry) (entry : IfEntry) (k : ℕ) → AllPairs (λ one other. one.number ≢ other.number) table → k < length table → get_or table k entry ≡ entry
    → find (λ other. other.number == entry.number) table ≡ Some entry
found [] entry k once below at = absurd (omega arith)
found (first ∷ rest) entry zero once below at =
    let same : (first.number == entry.number) ≡ true = (Decides-eqb first.number entry.number).1 (ap (λ (e : IfEntry). e.number) at) in
    rw same (ap Some at)
found (first ∷ rest) entry (suc k) once below at =
    let other : first.number ≢ entry.number = λ same. once zero (suc k) entry (omega arith) below (same ∙ ap (λ (e : IfEntry). e.number) (sym at)) in
    rw (apart_test first.number entry.number other)
    (found rest entry k (λ i j d before inside. once (suc i) (suc j) d (omega arith) (omega arith)) (omega arith) at)

pub found_by_number : (view : View) (entry : IfEntry) → IsRight view → Contains view.table entry → entry_of view entry.number ≡ Some entry
found_by_number view entry h some = found view.table entry some.0 h.once some.1 some.2
