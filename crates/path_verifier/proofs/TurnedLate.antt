-- A path that is no longer live is refused for that; the way back expires when the way does.
use Rattle.std.proofs.Common.{◌≡◌, ℕ, ◌≤◌, List, All, Any}
use Rattle.hop_mac.specs.Lifetime.{expiry_of}
use Rattle.path_header.specs.Value.{HeaderValue}
use Rattle.policy_expr.specs.Policy.{Rules}
use Rattle.path_verifier.specs.declared.fault.VerifyFault.TheVariants as faults
use Rattle.path_verifier.specs.Piece.{PieceValue, entries_of}
use Rattle.path_verifier.specs.Accepted.{AreLive, IsExpiry, MakesPath, request_of, IsRefused}
use Rattle.path_verifier.specs.Turned.{turned_pieces}
use Rattle.path_verifier.proofs.Breaches.{keeps_but_time, refused}
use Rattle.path_verifier.proofs.TurnedPath.{all_turned, any_turned}

-- a path of which a hop is no longer live is refused for this, and nothing before it
pub too_late : (pieces : List PieceValue) (src dst now moment : ℕ) (header : HeaderValue)
    (rules : Rules) → MakesPath pieces src dst now → (AreLive moment pieces → ⊥)
    → IsRefused (request_of pieces header src dst moment rules) faults.Expired
too_late pieces src dst now moment header rules path dead =
    let request = request_of pieces header src dst moment rules in
    refused request faults.Expired (keeps_but_time request now path) dead

-- the way back expires when the way does
pub expiry_turned : (pieces : List PieceValue) (least : ℕ) → IsExpiry pieces least
    → IsExpiry (turned_pieces pieces) least
expiry_turned pieces least is = record {
  reached =
      any_turned
      (λ piece. Any (λ entry. least ≡ expiry_of piece.segment.timestamp entry.exp_time)
      (entries_of piece))
      (λ piece. Any (λ entry. least ≡ expiry_of piece.segment.timestamp entry.exp_time)
      (entries_of piece))
      (λ piece is. is) pieces is.reached;
  lower = all_turned
      (λ piece. All (λ entry. least ≤ expiry_of piece.segment.timestamp entry.exp_time)
      (entries_of piece))
      (λ piece. All (λ entry. least ≤ expiry_of piece.segment.timestamp entry.exp_time)
      (entries_of piece))
      (λ piece is. is) pieces is.lower;
}
