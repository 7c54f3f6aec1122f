-- Hops that agree in all but the first way in and the last way out.
use Rattle.std.proofs.Common.{◌≡◌, ℕ, zero, suc, ◌+◌, ◌-◌, ◌<◌, ◌≤◌, List, Some, [], ◌∷◌, length, map, take, refl, sym, ap, subst, ◌∙◌, arith, add-one}
use Rattle.std.specs.Prelude.{◌↔◌, Bool, slice_get}
use Rattle.std.proofs.lemmas.Option.{same_Some}
use Rattle.path_segment.specs.declared.entry.Entry.{Entry}
use Rattle.path_segment.specs.Chain.{as_at}
use Rattle.policy_expr.specs.declared.hop.WalkHop.{WalkHop}
use Rattle.path_verifier.specs.Piece.{PieceValue, HasRange, kind_of, travelled_entries, begins_in}
use Rattle.path_verifier.specs.Walk.{hop_of, hops_of, left_by}
use Rattle.path_verifier.specs.Header.{len_of}
use Rattle.path_verifier.proofs.Entries.{length_travelled}
use Rattle.path_verifier.proofs.Hops.{length_hops_of}
use Rattle.combinator.specs.inner.Alike.{AreAlike, AreSameHops}
use Rattle.combinator.proofs.Collected.{take_past}
use Rattle.combinator.proofs.Joined.{closed, closed_of}

abbrev hop_at : ℕ → ℕ → ℕ → WalkHop
hop_at ia ingress egress = record { ia = ia; ingress = ingress; egress = egress }

same_hop : (one other : WalkHop) → one.ia ≡ other.ia → one.ingress ≡ other.ingress → one.egress ≡ other.egress → one ≡ other
same_hop one other ia ingress egress =
    ap (λ n. hop_at n one.ingress one.egress) ia ∙ ap (λ n. hop_at other.ia n one.egress) ingress ∙ ap (hop_at other.ia other.ingress) egress

same_left : (hop other : WalkHop) (hops others : List WalkHop) → hop.ingress ≡ other.ingress
    → AreSameHops (hop ∷ hops) (other ∷ others) → left_by 0 (hop ∷ hops) ≡ left_by 0 (other ∷ others)
same_left hop other [] [] ingress same =
    ap (λ h. h ∷ []) (same_hop (record hop { egress = 0 }) (record other { egress = 0 }) same ingress refl)
same_left hop other [] (second ∷ others) ingress same = absurd same
same_left hop other (next ∷ hops) [] ingress same = absurd same
same_left hop other (next ∷ hops) (second ∷ others) ingress same =
    ap (λ h. h ∷ left_by 0 (next ∷ hops)) (same_hop hop other same.0 ingress same.1)
    ∙ ap (λ hs. other ∷ hs) (same_left next second hops others same.2 same.3)

same_closed : (hops others : List WalkHop) → AreSameHops hops others → closed hops ≡ closed others
same_closed [] [] same = refl
same_closed [] (other ∷ others) same = absurd same
same_closed (hop ∷ hops) [] same = absurd same
same_closed (hop ∷ []) (other ∷ []) same = same_left (record hop { ingress = 0 }) (record other { ingress = 0 }) [] [] refl same
same_closed (hop ∷ []) (other ∷ second ∷ others) same = absurd same
same_closed (hop ∷ next ∷ hops) (other ∷ []) same = absurd same
same_closed (hop ∷ next ∷ hops) (other ∷ second ∷ others) same =
    same_left (record hop { ingress = 0 }) (record other { ingress = 0 }) (next ∷ hops) (second ∷ others) refl same

pub alike_by_hops : (one other : PieceValue) → kind_of one ≡ kind_of other → (one.from ≡ 0) ↔ (other.from ≡ 0)
    → AreSameHops (hops_of one) (hops_of other) → AreAlike one other
alike_by_hops one other kind first same = record {
  kind = kind;
  walk = closed_of one ∙ same_closed (hops_of one) (hops_of other) same ∙ sym (closed_of other);
  first = first;
}

-- ---- hops one by one

first_of : (along also : Bool) (entries others : List Entry) → 0 < length entries → 0 < length others
    → as_at entries 0 ≡ as_at others 0 → AreSameHops (take 1 (map (hop_of along) entries)) (take 1 (map (hop_of also) others))
unfolding hop_of
first_of along also [] others some too same = absurd (omega (arith, some))
first_of along also (entry ∷ entries) [] some too same = absurd (omega (arith, too))
first_of along also (entry ∷ entries) (other ∷ others) some too same = same

pub same_first : (one other : PieceValue) → HasRange one → HasRange other → begins_in one ≡ begins_in other
    → AreSameHops (take 1 (hops_of one)) (take 1 (hops_of other))
unfolding hops_of begins_in
same_first one other range also same =
    let long = length_travelled one range in
    let too = length_travelled other also in
    first_of one.along other.along (travelled_entries one) (travelled_entries other) (omega (arith, long, range.order)) (omega (arith, too, also.order)) same

more_suc : (hops others : List WalkHop) (k : ℕ) (hop other next second : WalkHop)
    → AreSameHops (take (suc k) hops) (take (suc k) others)
    → slice_get hops k ≡ Some hop → slice_get others k ≡ Some other
    → slice_get hops (suc k) ≡ Some next → slice_get others (suc k) ≡ Some second
    → hop.egress ≡ other.egress → next.ia ≡ second.ia → next.ingress ≡ second.ingress
    → AreSameHops (take (suc (suc k)) hops) (take (suc (suc k)) others)
more_suc [] others k hop other next second same is also there too way ia ingress = absurd cc
more_suc (a ∷ hops) [] k hop other next second same is also there too way ia ingress = absurd cc
more_suc (a ∷ []) (b ∷ others) k hop other next second same is also there too way ia ingress = absurd cc
more_suc (a ∷ n ∷ hops) (b ∷ []) k hop other next second same is also there too way ia ingress = absurd cc
more_suc (a ∷ n ∷ hops) (b ∷ m ∷ others) zero hop other next second same is also there too way ia ingress = (
  same,
  ap (λ (h : WalkHop). h.egress) (same_Some a hop is) ∙ way ∙ sym (ap (λ (h : WalkHop). h.egress) (same_Some b other also)),
  ap (λ (h : WalkHop). h.ingress) (same_Some n next there) ∙ ingress ∙ sym (ap (λ (h : WalkHop). h.ingress) (same_Some m second too)),
  ap (λ (h : WalkHop). h.ia) (same_Some n next there) ∙ ia ∙ sym (ap (λ (h : WalkHop). h.ia) (same_Some m second too)),
)
more_suc (a ∷ n ∷ hops) (b ∷ m ∷ others) (suc k) hop other next second same is also there too way ia ingress =
    (same.0, same.1, same.2, more_suc (n ∷ hops) (m ∷ others) k hop other next second same.3 is also there too way ia ingress)

-- the hops agree up to a place, and the one there is reached by the same link
pub same_more : (hops others : List WalkHop) (place : ℕ) (hop other next second : WalkHop) → 1 ≤ place
    → AreSameHops (take place hops) (take place others)
    → slice_get hops (place - 1) ≡ Some hop → slice_get others (place - 1) ≡ Some other
    → slice_get hops place ≡ Some next → slice_get others place ≡ Some second
    → hop.egress ≡ other.egress → next.ia ≡ second.ia → next.ingress ≡ second.ingress
    → AreSameHops (take (place + 1) hops) (take (place + 1) others)
same_more hops others zero hop other next second some same is also there too way ia ingress = absurd (omega (arith, some))
same_more hops others (suc k) hop other next second some same is also there too way ia ingress =
    let at : suc k - 1 ≡ k = omega arith in
    rw add-one (more_suc hops others k hop other next second same
    (subst (λ (i : ℕ). slice_get hops i ≡ Some hop) at is) (subst (λ (i : ℕ). slice_get others i ≡ Some other) at also) there too way ia ingress)

pub same_all : (one other : PieceValue) (place : ℕ) → len_of one ≤ place → len_of one ≡ len_of other
    → AreSameHops (take place (hops_of one)) (take place (hops_of other)) → AreSameHops (hops_of one) (hops_of other)
same_all one other place past len same =
    subst (λ (hops : List WalkHop). AreSameHops hops (hops_of other)) (take_past (hops_of one) place (rw (length_hops_of one) past))
    (subst (AreSameHops (take place (hops_of one))) (take_past (hops_of other) place (rw (length_hops_of other) (omega (arith, past, len)))) same)
