-- The moment at which a path expires.
use Rattle.std.proofs.Common.{◌≡◌, ℕ, zero, suc, ◌*◌, ◌≤◌, List, [], ◌∷◌, get_or, min, All, Any, refl, inl, inr, arith}
use Rattle.std.specs.Prelude.{◌↔◌}
use Rattle.std.proofs.lemmas.Bool.{cases_lt}
use Rattle.hop_mac.specs.Lifetime.{expiry_of, IsLive}
use Rattle.path_segment.specs.declared.entry.Entry.{Entry}
use Rattle.path_segment.specs.Chain.{IsLeastExpiry}
use Rattle.path_verifier.specs.Piece.{PieceValue, entries_of}
use Rattle.path_verifier.specs.Accepted.{AreLive, IsExpiry}

any_here : {X : Type 0} (P : X → Type 0) (x : X) (xs : List X) → P x → Any P (x ∷ xs)
any_here P x xs p = (0, x, omega arith, refl, p)

any_there : {X : Type 0} (P : X → Type 0) (x : X) (xs : List X) → Any P xs → Any P (x ∷ xs)
any_there P x xs some = (suc some.0, some.1, (let within = some.2 in omega arith), some.3, some.4)

all_cons : {X : Type 0} (P : X → Type 0) (x : X) (xs : List X) → P x → All P xs → All P (x ∷ xs)
all_cons P x xs p all zero d within = p
all_cons P x xs p all (suc k) d within = all k d (omega arith)

all_lower : (m n timestamp : ℕ) (entries : List Entry) → m ≤ n
    → All (λ entry. n ≤ expiry_of timestamp entry.exp_time) entries
    → All (λ entry. m ≤ expiry_of timestamp entry.exp_time) entries
all_lower m n timestamp entries below all k d within = let at = all k d within in omega arith

pub expiry_of_one : (piece : PieceValue) (least : ℕ)
    → IsLeastExpiry piece.segment.timestamp (entries_of piece) least → IsExpiry (piece ∷ []) least
expiry_of_one piece least is = record {
  reached = any_here
      (λ p. Any (λ entry. least ≡ expiry_of p.segment.timestamp entry.exp_time) (entries_of p)) piece [] is.reached;
  lower = all_cons
      (λ p. All (λ entry. least ≤ expiry_of p.segment.timestamp entry.exp_time) (entries_of p)) piece [] is.lower
      (λ k d within. absurd (omega arith));
}

-- the earlier of two moments
pub expiry_of_more : (piece : PieceValue) (pieces : List PieceValue) (m n : ℕ)
    → IsLeastExpiry piece.segment.timestamp (entries_of piece) m → IsExpiry pieces n
    → IsExpiry (piece ∷ pieces) (min m n)
expiry_of_more piece pieces m n one more = elim (cases_lt m n) [
  | inl lt ↦ (let first : min m n ≡ m = omega arith in rw first (record {
    reached = any_here
        (λ p. Any (λ entry. m ≡ expiry_of p.segment.timestamp entry.exp_time) (entries_of p)) piece pieces one.reached;
    lower = all_cons
        (λ p. All (λ entry. m ≤ expiry_of p.segment.timestamp entry.exp_time) (entries_of p)) piece pieces one.lower
        (λ k d within. all_lower m n (get_or pieces k d).segment.timestamp (entries_of (get_or pieces k d)) (omega arith) (more.lower k d within));
  }))
  | inr le ↦ (let second : min m n ≡ n = omega arith in rw second (record {
    reached = any_there
        (λ p. Any (λ entry. n ≡ expiry_of p.segment.timestamp entry.exp_time) (entries_of p)) piece pieces more.reached;
    lower = all_cons (λ p. All (λ entry. n ≤ expiry_of p.segment.timestamp entry.exp_time) (entries_of p)) piece pieces
        (all_lower n m piece.segment.timestamp (entries_of piece) le one.lower) more.lower;
  }))
]

live_at : (pieces : List PieceValue) (least now : ℕ) → IsExpiry pieces least → AreLive now pieces → 2 * now ≤ least
live_at pieces least now is live =
    let piece = is.reached.1 in
    let entry = is.reached.4.1 in
    let hops : All (λ e. IsLive piece.segment.timestamp e.exp_time now) (entries_of piece) =
    rw is.reached.3 at (live is.reached.0 piece is.reached.2) in
    let hop : IsLive piece.segment.timestamp entry.exp_time now =
    rw is.reached.4.3 at (hops is.reached.4.0 entry is.reached.4.2) in
    rw is.reached.4.4 hop

pub live_up_to : (pieces : List PieceValue) (least now : ℕ) → IsExpiry pieces least
    → AreLive now pieces ↔ (2 * now ≤ least)
live_up_to pieces least now is = (
  live_at pieces least now is,
  λ up j p there k d within. (let lower = is.lower j p there k d within in omega arith),
)
