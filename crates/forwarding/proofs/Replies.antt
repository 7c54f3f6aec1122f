-- The way back of a path that may be sent may be sent too, up to the moment at which the path
-- expires, and no longer.
use Rattle.std.proofs.Common.{◌≡◌, ℕ, ◌*◌, ◌<◌, ◌≤◌, List, sym, subst, arith}
use Rattle.std.specs.Prelude.{◌↔◌}
use Rattle.std.proofs.lemmas.List.Elements.{recursion_from_All}
use Rattle.path_header.specs.Reversal.{reversed_header}
use Rattle.path_header.specs.Value.{HeaderValue}
use Rattle.policy_expr.specs.Policy.{Rules}
use Rattle.path_verifier.specs.declared.fault.VerifyFault.{VerifyFault}
use Rattle.path_verifier.specs.declared.fault.VerifyFault.TheVariants as faults
use Rattle.path_verifier.specs.Piece.{PieceValue, HasRange}
use Rattle.path_verifier.specs.Header.{header_of}
use Rattle.path_verifier.specs.Accepted.{IsExpiry, MakesPath, request_of, IsAccepted, IsRefused}
use Rattle.path_verifier.specs.Turned.{turned_piece, turned_pieces}
use Rattle.path_verifier.proofs.Breaches.{accepts, refusal_is_one}
use Rattle.path_verifier.proofs.Expiry.{live_up_to}
use Rattle.path_verifier.proofs.Lengths.{path_is_short}
use Rattle.path_verifier.proofs.TurnedPath.{path_turned}
use Rattle.path_verifier.proofs.TurnedLate.{too_late, expiry_turned}
use Rattle.scion_topology.specs.Network.{Network}
use Rattle.forwarding.specs.Sound.{IsIssuedAndAccepted}
use Rattle.forwarding.specs.Turned.{header_behind, no_rules}
use Rattle.forwarding.proofs.Way.{long_each}
use Rattle.forwarding.proofs.TurnedHeader.{header_back}

-- the header that a packet has at the path's end, reversed, is that of the way back
pub header_turned : (pieces : List PieceValue) (src dst now : ℕ) → MakesPath pieces src dst now
    → reversed_header (header_behind pieces) ≡ header_of (turned_pieces pieces)
header_turned pieces src dst now path =
    let ranges = recursion_from_All HasRange pieces path.ranges in
    header_back pieces (path_is_short pieces src dst now path) (long_each pieces ranges) ranges

-- with that header the way back is accepted under the policy that allows all, up to the expiry
pub back_in_time : (pieces : List PieceValue) (src dst now moment least : ℕ)
    → MakesPath pieces src dst now → IsExpiry pieces least → 2 * moment ≤ least
    → IsAccepted (request_of (turned_pieces pieces) (reversed_header (header_behind pieces)) dst src moment
    no_rules)
back_in_time pieces src dst now moment least path is early =
    let live = (live_up_to pieces least moment is).1 early in
    accepts _ (path_turned pieces src dst now moment path live) (header_turned pieces src dst now path) tt tt

-- past it the way back is refused for that, whatever its header and the policy
pub back_expired : (pieces : List PieceValue) (src dst now moment least : ℕ) (header : HeaderValue)
    (rules : Rules) → MakesPath pieces src dst now → IsExpiry pieces least → least < 2 * moment
    → (fault : VerifyFault)
    → IsRefused (request_of (turned_pieces pieces) header dst src moment rules) fault
    ↔ (fault ≡ faults.Expired)
back_expired pieces src dst now moment least header rules path is late fault =
    let back = turned_pieces pieces in
    let request = request_of back header dst src moment rules in
    let expired : IsRefused request faults.Expired =
    too_late back dst src now moment header rules (path_turned pieces src dst now now path path.live)
    (λ live. (let up =
    (live_up_to back least moment (expiry_turned pieces least is)).0 live in omega arith)) in (
      λ refused. refusal_is_one request fault faults.Expired refused expired,
      λ same. subst (IsRefused request) (sym same) expired,
    )

-- a sound piece is sound the other way
pub sound_turned : (n : Network) (keys : List (List ℕ)) (piece : PieceValue) → IsIssuedAndAccepted n keys piece
    → IsIssuedAndAccepted n keys (turned_piece piece)
sound_turned n keys piece s = record {
  network = s.network;
  range = record { order = s.range.order; within = s.range.within };
  issued = s.issued;
  holds = s.holds;
}
