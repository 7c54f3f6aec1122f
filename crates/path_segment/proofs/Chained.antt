-- The accumulators along the entries, and the moment up to which entries are live.
use Rattle.std.proofs.Common.{◌≡◌, ℕ, zero, suc, ◌+◌, ◌*◌, ◌^◌, ◌<◌, ◌≤◌, List, [], ◌∷◌, length, get_or, take, Some, All, Any, ap, arith, add-one}
use Rattle.std.specs.Prelude.{◌↔◌, slice_get, slice_index}
use Rattle.std.proofs.lemmas.List.{take-append-le}
use Rattle.std.proofs.lemmas.Nat.{xor_lt}
use Rattle.std.proofs.lemmas.Option.{same_Some}
use Rattle.hop_mac.specs.Hop.{beta_after}
use Rattle.hop_mac.specs.Lifetime.{expiry_of, IsLive}
use Rattle.path_segment.specs.declared.entry.Entry.{Entry}
use Rattle.path_segment.specs.Chain.{Chain, with_last, beta_over, beta_of, IsLeastExpiry}

over_next : (beta : ℕ) (es : List Entry) (i : ℕ) (e : Entry) → slice_get es i ≡ Some e
    → beta_over beta (take (suc i) es) ≡ beta_after (beta_over beta (take i es)) e.mac
over_next beta [] i e at = absurd cc
over_next beta (x ∷ xs) zero e at = let is : x ≡ e = same_Some x e at in ap (λ (o : Entry). beta_after beta o.mac) is
over_next beta (x ∷ xs) (suc i) e at = over_next (beta_after beta x.mac) xs i e at

pub beta_of-next : (chain : Chain) (i : ℕ) (e : Entry) → slice_get chain.entries i ≡ Some e
    → beta_of chain (i + 1) ≡ beta_after (beta_of chain i) e.mac
beta_of-next chain i e at = rw (add-one i) (over_next chain.beta0 chain.entries i e at)

pub beta_of-with_last : (chain : Chain) (i : ℕ) (e : Entry) → i ≤ length chain.entries
    → beta_of (with_last chain e) i ≡ beta_of chain i
beta_of-with_last chain i e within = ap (beta_over chain.beta0) (take-append-le i chain.entries (e ∷ []) within)

below_all : (timestamp least : ℕ) (es : List Entry) → Any (λ e. least ≡ expiry_of timestamp e.exp_time) es
    → (n : ℕ) → All (λ e. n ≤ expiry_of timestamp e.exp_time) es → n ≤ least
below_all timestamp least es some n all =
    let lower = all some.0 some.1 some.2 in
    let at : get_or es some.0 some.1 ≡ some.1 = some.3 in
    let here : n ≤ expiry_of timestamp some.1.exp_time = rw at at lower in
    rw some.4 here

pub least_is_one : (timestamp least other : ℕ) (es : List Entry) → IsLeastExpiry timestamp es least
    → IsLeastExpiry timestamp es other → least ≡ other
least_is_one timestamp least other es a b =
    let up = below_all timestamp least es a.reached other b.lower in
    let down = below_all timestamp other es b.reached least a.lower in
    omega arith

pub live_up_to : (timestamp least now : ℕ) (es : List Entry) → IsLeastExpiry timestamp es least
    → All (λ e. IsLive timestamp e.exp_time now) es ↔ (2 * now ≤ least)
live_up_to timestamp least now es is = (
  λ all. below_all timestamp least es is.reached (2 * now) all,
  λ up k d within. (let lower = is.lower k d within in omega arith),
)

-- an accumulator of 16 bits stays one over authenticators of bytes
over_take : (beta : ℕ) (es : List Entry) (i : ℕ) → beta < 2 ^ 16
    → All (λ e. (k : ℕ) → slice_index e.mac k < 256) es → beta_over beta (take i es) < 2 ^ 16
over_take beta es zero small bytes = small
over_take beta [] (suc i) small bytes = small
over_take beta (x ∷ xs) (suc i) small bytes =
    let high = bytes 0 x (omega arith) 0 in
    let low = bytes 0 x (omega arith) 1 in
    let front : slice_index x.mac 0 * 256 + slice_index x.mac 1 < 2 ^ 16 = omega arith in
    over_take (beta_after beta x.mac) xs i
    (xor_lt 16 beta (slice_index x.mac 0 * 256 + slice_index x.mac 1) small front)
    (λ k d within. bytes (suc k) d (omega arith))

pub beta_of-lt : (chain : Chain) (i : ℕ) → chain.beta0 < 2 ^ 16
    → All (λ e. (k : ℕ) → slice_index e.mac k < 256) chain.entries → beta_of chain i < 2 ^ 16
beta_of-lt chain i small bytes = over_take chain.beta0 chain.entries i small bytes
