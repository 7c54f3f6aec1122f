-- The inboxes of ways: a flight that is passed on changes none of them, and each has the places of
-- the run.
use Rattle.std.proofs.Common.{◌≡◌, ℕ, List, [], ◌∷◌, ◌++◌, length, zero, suc, Bool, Some, refl, sym, ap, subst, ◌∙◌, take, drop, inl, inr, arith}
use Rattle.std.specs.Prelude.{slice_get, slice_set, option_map, ◌+◌}
use Rattle.std.specs.List.{range_with_len}
use Rattle.std.proofs.lemmas.Option.{slice_get-map, slice_get_within, get_or_from_slice_get}
use Rattle.std.proofs.lemmas.List.{length-map, map-append, map-id}
use Rattle.std.proofs.lemmas.List.FromFn.{map-range_with_len_more}
use Rattle.std.proofs.Math.Seq.{take-append_seam}
use Rattle.std.proofs.lemmas.List.Elements.{All-get_or}
use Rattle.inbox.specs.Inbox.{Opened, WayThrough}
use Rattle.router_workers.specs.inner.PassPairs.{AreInboxes, inboxes_of, IsPassedTo}

-- a way into the same inbox, in the place of another, changes no inbox
pub inboxes_kept : {T : Type 0} (ways : List (WayThrough T)) (k : ℕ) (before after : WayThrough T)
    → slice_get ways k ≡ Some before → after.of ≡ before.of
    → inboxes_of (slice_set ways k after) ≡ inboxes_of ways
inboxes_kept [] k before after there same = absurd cc
inboxes_kept (way ∷ ways) zero before after there same =
    let first : way ≡ before = cc in
    ap (λ (one : Opened). one ∷ inboxes_of ways) (same ∙ ap (λ (w : WayThrough _). w.of) (sym first))
inboxes_kept (way ∷ ways) (suc k) before after there same =
    ap (λ (rest : List Opened). way.of ∷ rest) (inboxes_kept ways k before after there same)

pub inboxes_passed : {T : Type 0} (crowded : Bool) (carried : T) (next : ℕ)
    (old new : List (WayThrough T)) → IsPassedTo crowded carried next old new
    → inboxes_of new ≡ inboxes_of old
inboxes_passed crowded carried next old new passed =
    let same : passed.1.of ≡ passed.0.of = elim passed.3 [
      | inl put ↦ ap (λ (w : WayThrough _). w.of) put
      | inr dropped ↦ ap (λ (w : WayThrough _). w.of) dropped.0
    ] in
    ap inboxes_of passed.4 ∙ inboxes_kept old next passed.0 passed.1 passed.2 same

-- there are as many ways as workers
pub as_many : {T : Type 0} (workers slots : ℕ) (ways : List (WayThrough T))
    → AreInboxes workers slots (inboxes_of ways) → length ways ≡ workers
as_many workers slots ways are = sym (length-map ways (λ way. way.of)) ∙ are.1

-- the inbox of the way at a place
pub inbox_at : {T : Type 0} (ways : List (WayThrough T)) (k : ℕ) (way : WayThrough T)
    → slice_get ways k ≡ Some way → slice_get (inboxes_of ways) k ≡ Some way.of
inbox_at ways k way there =
    slice_get-map (λ (w : WayThrough _). w.of) ways k
    ∙ ap (option_map (λ (w : WayThrough _). w.of)) there

-- each of these inboxes has the places of the run
pub slots_at : {T : Type 0} (workers slots k : ℕ) (ways : List (WayThrough T)) (way : WayThrough T)
    → AreInboxes workers slots (inboxes_of ways) → slice_get ways k ≡ Some way
    → way.of.slots ≡ slots
slots_at workers slots k ways way are there =
    let at = inbox_at ways k way there in
    subst (λ (one : Opened). one.slots ≡ slots)
    (get_or_from_slice_get (inboxes_of ways) k way.of way.of at)
    (All-get_or (λ (one : Opened). one.slots ≡ slots) (inboxes_of ways) k way.of
    (slice_get_within (inboxes_of ways) k way.of at) are.2)

-- ---- lists that grow by one

take_more : (xs : List Opened) (k : ℕ) (x : Opened) → slice_get xs k ≡ Some x
    → take (suc k) xs ≡ take k xs ++ x ∷ []
take_more [] k x there = absurd cc
take_more (y ∷ ys) zero x there = (let same : y ≡ x = cc in ap (λ (z : Opened). z ∷ []) same)
take_more (y ∷ ys) (suc k) x there = ap (λ (zs : List Opened). y ∷ zs) (take_more ys k x there)

-- one way more, into the next inbox
pub way_more : {T : Type 0} (k : ℕ) (inboxes : List Opened) (ways : List (WayThrough T))
    (way : WayThrough T) → inboxes_of ways ≡ take k inboxes → slice_get inboxes k ≡ Some way.of
    → inboxes_of (ways ++ way ∷ []) ≡ take (k + 1) inboxes
way_more k inboxes ways way are there =
    let next : suc k ≡ k + 1 = omega arith in
    map-append (λ (w : WayThrough _). w.of) ways (way ∷ [])
    ∙ ap (λ (xs : List Opened). xs ++ way.of ∷ []) are ∙ sym (take_more inboxes k way.of there)
    ∙ ap (λ (n : ℕ). take n inboxes) next

-- two lists of ways into the same inboxes are equally long
pub as_long : {T U : Type 0} (new : List (WayThrough T)) (old : List (WayThrough U))
    → inboxes_of new ≡ inboxes_of old → length new ≡ length old
as_long new old same =
    sym (length-map new (λ way. way.of)) ∙ ap length same ∙ length-map old (λ way. way.of)

-- what is written back in the place of all ways
pub written_back : {T : Type 0} (n : ℕ) (new old : List (WayThrough T)) → n ≡ length old
    → inboxes_of new ≡ inboxes_of old
    → inboxes_of (take n (new ++ drop (length new) old)) ≡ inboxes_of old
written_back n new old count same =
    let long = as_long new old same in
    let all : take n (new ++ drop (length new) old) ≡ new =
    ap (λ (k : ℕ). take k (new ++ drop (length new) old)) (count ∙ sym long)
    ∙ take-append_seam new (drop (length new) old) in
    ap inboxes_of all ∙ same

-- one number more
pub range_more : (a n : ℕ) → range_with_len a (n + 1) ≡ range_with_len a n ++ (a + n) ∷ []
range_more a n =
    sym (map-id (range_with_len a (n + 1)))
    ∙ map-range_with_len_more (λ k. k) a n (a + n) refl
    ∙ ap (λ (ks : List ℕ). ks ++ (a + n) ∷ []) (map-id (range_with_len a n))
