-- The least of some numbers, and the moment at which pieces expire.
use Rattle.std.proofs.Common.{◌≡◌, ◌⊎◌, ℕ, zero, suc, ◌<◌, ◌≤◌, List, [], ◌∷◌, length, map, get_or, All, Any, refl, subst, ◌∙◌, inl, inr, arith, Option, Some, None, ap}
use Rattle.std.specs.Prelude.{min}
use Rattle.std.proofs.lemmas.Bool.{cases_lt}
use Rattle.hop_mac.specs.Lifetime.{expiry_of}
use Rattle.path_segment.specs.Chain.{IsLeastExpiry}
use Rattle.path_verifier.specs.Piece.{PieceValue, HasRange, entries_of}
use Rattle.path_verifier.proofs.Entries.{length-entries_of}
use Rattle.path_verifier.specs.Accepted.{IsAccepted, IsExpiry, Request}
use Rattle.path_verifier.proofs.Breaches.{path_kept}
use Rattle.path_requests.specs.Expiry.{least_of, piece_expiry, path_expiry}
use Rattle.path_server.specs.Lookup.{Selection}
use Rattle.policy_expr.specs.Options.{WeighedRules}
use Rattle.combinator.specs.Candidate.{PathValue}
use Rattle.combinator.specs.Answer.{AnswersWith}

-- the less of two numbers is one of them
either : (m n : ℕ) → (min m n ≡ m) ⊎ (min m n ≡ n)
either m n = elim (cases_lt m n) [
  | inl less ↦ inl (omega arith)
  | inr more ↦ inr (omega arith)
]

-- the least is at most each
least_below : {X : Type 0} (f : X → ℕ) (xs : List X) (k : ℕ) (d : X) → k < length xs
    → least_of (map f xs) ≤ f (get_or xs k d)
least_below f [] k d within = absurd (omega arith)
least_below f (x ∷ []) zero d within = omega arith
least_below f (x ∷ []) (suc k) d within = absurd (omega arith)
least_below f (x ∷ (y ∷ later)) zero d within = omega arith
least_below f (x ∷ (y ∷ later)) (suc k) d within =
    let rest = least_below f (y ∷ later) k d (omega arith) in omega arith

-- what is at most each is at most the least, where there is one
below_least : {X : Type 0} (f : X → ℕ) (xs : List X) (n : ℕ) → 0 < length xs → All (λ x. n ≤ f x) xs
    → n ≤ least_of (map f xs)
below_least f [] n some all = absurd (omega arith)
below_least f (x ∷ []) n some all = all 0 x (omega arith)
below_least f (x ∷ (y ∷ later)) n some all =
    let first = all 0 x (omega arith) in
    let rest = below_least f (y ∷ later) n (omega arith) (λ k d within. all (suc k) d (omega arith)) in
    omega arith

-- what is one of them and at most each is the least
least_is : {X : Type 0} (f : X → ℕ) (xs : List X) (n : ℕ) → Any (λ x. n ≡ f x) xs → All (λ x. n ≤ f x) xs
    → n ≡ least_of (map f xs)
least_is f xs n some all =
    let within = some.2 in
    let down : least_of (map f xs) ≤ f some.1 = rw some.3 at (least_below f xs some.0 some.1 some.2) in
    let up = below_least f xs n (omega arith) all in
    let here = some.4 in
    omega arith

pub piece_expires : (piece : PieceValue) (n : ℕ) → IsLeastExpiry piece.segment.timestamp (entries_of piece) n
    → n ≡ piece_expiry piece
piece_expires piece n is =
    least_is (λ entry. expiry_of piece.segment.timestamp entry.exp_time) (entries_of piece) n is.reached is.lower

-- a piece that has its range has an entry
has_entry : (piece : PieceValue) → HasRange piece → 0 < length (entries_of piece)
has_entry piece range =
    let long = length-entries_of piece range in let order = range.order in omega arith

-- what the verifier tells as the expiry of a path is that of its pieces
pub path_expires : (request : Request) (n : ℕ) → IsAccepted request → IsExpiry request.pieces n
    → n ≡ path_expiry request.pieces
unfolding path_expiry
path_expires request n accepted is =
    let pieces = request.pieces in
    let ranges = (path_kept accepted).ranges in
    let up = below_least piece_expiry pieces n (let within = is.reached.2 in omega arith) (λ k d within.
    below_least (λ entry. expiry_of (get_or pieces k d).segment.timestamp entry.exp_time)
    (entries_of (get_or pieces k d)) n (has_entry (get_or pieces k d) (ranges k d within)) (is.lower k d within)) in
    let piece = is.reached.1 in
    let first : least_of (map piece_expiry pieces) ≤ piece_expiry piece =
    rw is.reached.3 at (least_below piece_expiry pieces is.reached.0 piece is.reached.2) in
    let entry = is.reached.4.1 in
    let then : piece_expiry piece ≤ expiry_of piece.segment.timestamp entry.exp_time =
    rw is.reached.4.3 at (least_below (λ e. expiry_of piece.segment.timestamp e.exp_time) (entries_of piece)
    is.reached.4.0 entry is.reached.4.2) in
    let here = is.reached.4.4 in
    omega arith

-- the least is one of them, where there is one
least_reached : {X : Type 0} (f : X → ℕ) (xs : List X) → 0 < length xs → Any (λ x. least_of (map f xs) ≡ f x) xs
least_reached f [] some = absurd (omega arith)
least_reached f (x ∷ []) some = (0, x, omega arith, refl, refl)
least_reached f (x ∷ (y ∷ later)) some =
    let rest = least_reached f (y ∷ later) (omega arith) in
    elim (either (f x) (least_of (map f (y ∷ later)))) [
      | inl first ↦ (0, x, omega arith, refl, first)
      | inr next ↦ (suc rest.0, rest.1, (let within = rest.2 in omega arith), rest.3, next ∙ rest.4)
    ]

-- the earliest expiry of the hops of pieces is theirs
pub expires_first : (pieces : List PieceValue) → 0 < length pieces → All HasRange pieces
    → IsExpiry pieces (path_expiry pieces)
unfolding path_expiry
expires_first pieces some ranges =
    let piece = least_reached piece_expiry pieces some in
    let range : HasRange piece.1 = subst HasRange piece.3 (ranges piece.0 piece.1 piece.2) in
    let entry =
    least_reached (λ e. expiry_of piece.1.segment.timestamp e.exp_time) (entries_of piece.1) (has_entry piece.1 range) in
    record {
      reached = (piece.0, piece.1, piece.2, piece.3, (entry.0, entry.1, entry.2, entry.3, piece.4 ∙ entry.4));
      lower = λ k d within j e inside.
          let first = least_below piece_expiry pieces k d within in
          let next =
          least_below (λ e. expiry_of (get_or pieces k d).segment.timestamp e.exp_time) (entries_of (get_or pieces k d)) j e inside in
          omega arith;
    }

-- each piece of an answer's paths has its range
pub ranges_answered : (set : Selection) (src dst : ℕ) (options : List WeighedRules) (limit : ℕ) (used : Option ℕ)
    (paths : List PathValue) → AnswersWith set src dst options limit used paths
    → All (λ path. All HasRange path.pieces) paths
ranges_answered set src dst options limit None paths is = λ k path within.
    absurd (let none = ap (λ (ps : List PathValue). length ps) is.0 in omega (arith, none, within))
ranges_answered set src dst options limit (Some used) paths is = λ k path within.
    (path_kept (is.answer.best k path within).candidate.accepted).ranges
