-- The earliest expiry of segments, and what it says of a sweep.
use Rattle.std.proofs.Common.{◌≡◌, ℕ, suc, ◌≤◌, min, Bool, true, List, [], ◌∷◌, ◌++◌, length, get_or, filter, All, refl, subst, ap, sym, arith}
use Rattle.std.proofs.lemmas.List.{length_push, get_or_append_left, get_or_push}
use Rattle.std.proofs.lemmas.List.Elements.{All-push}
use Rattle.hop_mac.specs.Lifetime.{expiry_of}
use Rattle.path_segment.specs.Chain.{Chain, IsChainLive, IsLeastExpiry}
use Rattle.path_segment.specs.Tests.{is_live}
use Rattle.path_segment.proofs.Decided.{is_live-Decides}
use Rattle.path_server.specs.Expiry.{LastsUntil, IsEarliestExpiry}
use Rattle.path_server.specs.Store.{live_segments, expired_count}
use Rattle.path_server.proofs.Counts.{left_out}

-- what lasts until a half second lasts until an earlier one
all_sooner : (later sooner : ℕ) (segments : List Chain) → sooner ≤ later → All (LastsUntil later) segments
    → All (LastsUntil sooner) segments
all_sooner later sooner segments early lasting k d within i e inside =
    let hop = lasting k d within i e inside in omega arith

-- a segment lasts no longer than until its earliest expiry
no_longer : (segment : Chain) (expiry later : ℕ) → IsLeastExpiry segment.timestamp segment.entries expiry
    → LastsUntil later segment → later ≤ expiry
no_longer segment expiry later expires lasting =
    let first = expires.reached in
    let hop = subst (λ entry. later ≤ expiry_of segment.timestamp entry.exp_time) first.3 (lasting first.0 first.1 first.2) in
    omega (arith, hop, first.4)

-- the earliest expiry with one more segment
pub earliest_with : (segments : List Chain) (segment : Chain) (before expiry least : ℕ)
    → IsEarliestExpiry segments before → IsLeastExpiry segment.timestamp segment.entries expiry
    → least ≡ min before expiry → IsEarliestExpiry (segments ++ segment ∷ []) least
earliest_with segments segment before expiry least earliest expires is = record {
  lasting = All-push (LastsUntil least) segments segment (all_sooner before least segments (omega arith) earliest.lasting)
      (λ i e inside. (let hop = expires.lower i e inside in omega arith));
  reached = λ later fits lasting. (
      let long = length_push segments segment in
      let old = earliest.reached later fits (λ k d within. subst (LastsUntil later)
      (get_or_append_left segments (segment ∷ []) d k within) (lasting k d (omega arith))) in
      let new = no_longer segment expiry later expires (subst (LastsUntil later)
      (get_or_push segments segment segment (length segments) refl) (lasting (length segments) segment (omega arith))) in
      omega arith);
}

all_pass : {X : Type 0} (p : X → Bool) (xs : List X) → All (λ x. p x ≡ true) xs → filter p xs ≡ xs
all_pass p [] passes = refl
all_pass p (x ∷ xs) passes =
    rw (passes 0 x (omega arith)) (ap (λ rest. x ∷ rest) (all_pass p xs (λ k d within. passes (suc k) d (omega arith))))

all_live : (segments : List Chain) (now : ℕ) → All (λ segment. IsChainLive segment now) segments
    → filter (is_live now) segments ≡ segments
all_live segments now live =
    all_pass (is_live now) segments (λ k d within. (is_live-Decides now (get_or segments k d)).1 (live k d within))

-- a sweep takes nothing out where all segments are live
pub swept_live : (segments : List Chain) (now : ℕ) → All (λ segment. IsChainLive segment now) segments
    → segments ≡ live_segments segments now
unfolding live_segments
swept_live segments now live = sym (all_live segments now live)

pub none_expired : (segments : List Chain) (now : ℕ) → All (λ segment. IsChainLive segment now) segments
    → 0 ≡ expired_count segments now
none_expired segments now live =
    let out = left_out (is_live now) segments in
    let same = ap length (all_live segments now live) in
    omega (arith, out, same)
