-- The answers of a store and of a look-up in plain facts.
use Rattle.std.proofs.Common.{◌≡◌, ℕ, Bool, true, false, not, ◌⊎◌, [], ◌∷◌, Result, Ok, Err, ◌==◌, List, filter, count_by, Contains, Decides, ap, inl, length, arith}
use Rattle.std.specs.Prelude.{◌↔◌, nat_le}
use Rattle.std.specs.List.{list_any}
use Rattle.std.proofs.lemmas.Bool.{cond_both, not-true, not-false, leb-true, leb-false}
use Rattle.std.proofs.lemmas.Bool.Decides.{Decides-and, Decides-or, Decides-eqb, not_from_Decides}
use Rattle.std.proofs.lemmas.List.Elements.{Contains-append_left, Contains-push_cases}
use Rattle.path_segment.specs.declared.kind.SegKind.TheVariants.{Core, Intra}
use Rattle.path_segment.specs.Chain.{Chain, IsChainLive}
use Rattle.path_server.specs.declared.fault.StoreFault.{StoreFault}
use Rattle.path_segment.specs.Chain.{first_as, last_as}
use Rattle.path_segment.specs.Tests.{is_live, is_same}
use Rattle.path_server.specs.Segment.{is_alike}
use Rattle.path_server.specs.Store.{answer_to, IsRegisterAnswer, with_new, with_registered, live_segments, expired_count}
use Rattle.path_server.specs.Lookup.{is_intra_to, is_reached, leads_between, segments_for, LeadsTo, IsReached, LeadsBetween}
use Rattle.path_server.proofs.Counts.{left_out}
use Rattle.path_server.proofs.Members.{Contains-filter, is_in-Decides, any-Decides, filter-filter}
use Rattle.path_segment.proofs.Decided.{is_live-Decides, is_same-Decides, same_kind-Decides}

pub answer_is_plain : (segments : List Chain) (segment : Chain) (now : ℕ)
    → IsRegisterAnswer segments segment now (answer_to segments segment now)
unfolding answer_to
answer_is_plain segments segment now =
    let live = is_live-Decides now segment in
    let there = is_in-Decides is_same is_same-Decides segments segment in
    let P = IsRegisterAnswer segments segment now in
    cond_both (not (is_live now segment)) _ _ P (λ dead. not_from_Decides _ live (not-true _ dead))
    (λ lives. (let yes = live.0 (not-false _ lives) in
    cond_both (list_any (is_same segment) segments) _ _ P (λ here. (yes, there.0 here))
    (λ new. (let none = not_from_Decides _ there new in
    cond_both (nat_le 32 (count_by (is_alike segment) segments)) _ _ P
    (λ full. (yes, none, leb-true _ _ full)) (λ free. (yes, none, leb-false _ _ free))))))

-- ---- registrations

with_new-kept : (answer : Result Bool StoreFault) (segments : List Chain) (segment other : Chain)
    → Contains segments other → Contains (with_new answer segments segment) other
with_new-kept (Ok true) segments segment other there = Contains-append_left segments (segment ∷ []) other there
with_new-kept (Ok false) segments segment other there = there
with_new-kept (Err fault) segments segment other there = there

with_new-added : (answer : Result Bool StoreFault) (segments : List Chain) (segment other : Chain)
    → Contains (with_new answer segments segment) other → Contains segments other ⊎ (segment ≡ other)
with_new-added (Ok true) segments segment other there = Contains-push_cases segments segment other there
with_new-added (Ok false) segments segment other there = inl there
with_new-added (Err fault) segments segment other there = inl there

pub Contains-registered_kept : (segments : List Chain) (segment : Chain) (now : ℕ) (other : Chain)
    → Contains segments other → Contains (with_registered segments segment now) other
unfolding with_registered
Contains-registered_kept segments segment now other =
    with_new-kept (answer_to segments segment now) segments segment other

pub Contains-registered_added : (segments : List Chain) (segment : Chain) (now : ℕ) (other : Chain)
    → Contains (with_registered segments segment now) other → Contains segments other ⊎ (segment ≡ other)
unfolding with_registered
Contains-registered_added segments segment now other =
    with_new-added (answer_to segments segment now) segments segment other

-- ---- sweeps

pub Contains-swept : (segments : List Chain) (now : ℕ) (segment : Chain)
    → Contains (live_segments segments now) segment ↔ (Contains segments segment × IsChainLive segment now)
unfolding live_segments
Contains-swept segments now segment =
    let there = Contains-filter (is_live now) segments segment in
    let live = is_live-Decides now segment in
    (λ h. ((there.0 h).0, live.0 (there.0 h).1), λ h. there.1 (h.0, live.1 h.1))

pub swept-swept : (segments : List Chain) (now : ℕ)
    → live_segments (live_segments segments now) now ≡ live_segments segments now
unfolding live_segments
swept-swept segments now = filter-filter (is_live now) segments

pub expired_count-swept : (segments : List Chain) (now : ℕ) → expired_count (live_segments segments now) now ≡ 0
unfolding live_segments
expired_count-swept segments now =
    let out = left_out (is_live now) (filter (is_live now) segments) in
    let same = ap length (filter-filter (is_live now) segments) in
    omega arith

-- ---- look-ups

ends_in-plain : (segments : List Chain) (ia now : ℕ) (segment : Chain)
    → Contains (filter (is_intra_to ia now) segments) segment ↔ LeadsTo segments ia now segment
unfolding is_intra_to
ends_in-plain segments ia now segment =
    let there = Contains-filter (is_intra_to ia now) segments segment in
    let test =
    Decides-and _ _ (same_kind-Decides segment.kind Intra) (Decides-and _ _ (is_live-Decides now segment) (Decides-eqb (last_as segment) ia)) in (
      λ h. (let is = there.0 h in let facts = test.0 is.1 in record { there = is.0; kind = facts.0; live = facts.1.0; last = facts.1.1 }),
      λ h. there.1 (h.there, test.1 (h.kind, (h.live, h.last))),
    )

is_reached-Decides : (ia : ℕ) (segments : List Chain) (other : ℕ)
    → Decides (is_reached ia segments other) (IsReached ia segments other)
unfolding is_reached
is_reached-Decides ia segments other =
    Decides-or _ _ (Decides-eqb other ia)
    (any-Decides (λ s. first_as s == other) (λ s. first_as s ≡ other) (λ s. Decides-eqb (first_as s) other) segments)

joins-plain : (segments : List Chain) (near far : ℕ → Bool) (Near Far : ℕ → Type 0)
    → ((ia : ℕ) → Decides (near ia) (Near ia)) → ((ia : ℕ) → Decides (far ia) (Far ia))
    → (now : ℕ) (segment : Chain)
    → Contains (filter (leads_between near far now) segments) segment ↔ LeadsBetween segments Near Far now segment
unfolding leads_between
joins-plain segments near far Near Far nears fars now segment =
    let there = Contains-filter (leads_between near far now) segments segment in
    let first = first_as segment in
    let last = last_as segment in
    let ways = Decides-or _ _ (Decides-and _ _ (nears first) (fars last)) (Decides-and _ _ (nears last) (fars first)) in
    let test =
    Decides-and _ _ (same_kind-Decides segment.kind Core) (Decides-and _ _ (is_live-Decides now segment) ways) in (
      λ h. (let is = there.0 h in let facts = test.0 is.1 in record { there = is.0; kind = facts.0; live = facts.1.0; ends = facts.1.1 }),
      λ h. there.1 (h.there, test.1 (h.kind, (h.live, h.ends))),
    )

pub ups_are_plain : (segments : List Chain) (src dst now : ℕ) (segment : Chain)
    → Contains (segments_for segments src dst now).ups segment ↔ LeadsTo segments src now segment
unfolding segments_for
ups_are_plain segments src dst now segment = ends_in-plain segments src now segment

pub downs_are_plain : (segments : List Chain) (src dst now : ℕ) (segment : Chain)
    → Contains (segments_for segments src dst now).downs segment ↔ LeadsTo segments dst now segment
unfolding segments_for
downs_are_plain segments src dst now segment = ends_in-plain segments dst now segment

pub cores_are_plain : (segments : List Chain) (src dst now : ℕ) (segment : Chain)
    → Contains (segments_for segments src dst now).cores segment ↔ LeadsBetween segments (IsReached src (segments_for segments src dst now).ups) (IsReached dst (segments_for segments src dst now).downs) now segment
unfolding segments_for
cores_are_plain segments src dst now segment =
    joins-plain segments _ _ (IsReached src (filter (is_intra_to src now) segments))
    (IsReached dst (filter (is_intra_to dst now) segments))
    (is_reached-Decides src (filter (is_intra_to src now) segments))
    (is_reached-Decides dst (filter (is_intra_to dst now) segments)) now segment
