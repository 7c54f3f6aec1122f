-- A path that was accepted at some second is accepted at second 0 too: a hop has no earliest moment.
-- And what is said of a path.
use Rattle.std.proofs.Common.{◌≡◌, ℕ, ◌/◌, arith, ◌∙◌, ap, sym, subst, List, Result, Ok, Err}
use Rattle.std.specs.Prelude.{String, IfOk}
use Rattle.std.specs.String.{string_bytes}
use Rattle.path_header.specs.Value.{HeaderValue}
use Rattle.policy_expr.specs.Policy.{Rules}
use Rattle.path_verifier.specs.Piece.{PieceValue}
use Rattle.path_verifier.specs.Accepted.{IsAccepted, IsExpiry, AreLive, MakesPath, request_of}
use Rattle.path_verifier.proofs.Breaches.{accepts, header_kept, hops_kept, path_kept, word_kept}
use Rattle.network_core.specs.Value.{Way, asked_at}
use Rattle.views.specs.Path.{TellsPath, path_lines}

live_at_once : (pieces : List PieceValue) → AreLive 0 pieces
live_at_once pieces = λ k piece within. λ j entry inside. omega arith

accepted_at : (way : Way) (moment : ℕ) → IsAccepted (asked_at moment way) → IsAccepted (asked_at 0 way)
accepted_at way moment accepted =
    let was = path_kept accepted in
    let path : MakesPath way.pieces way.source way.destination 0 = record {
      some = was.some;
      ranges = was.ranges;
      kinds = was.kinds;
      cuts = was.cuts;
      meet = was.meet;
      source = was.source;
      destination = was.destination;
      few = was.few;
      once = was.once;
      live = live_at_once way.pieces;
    } in
    accepts (asked_at 0 way) path (header_kept accepted) (hops_kept accepted) (word_kept accepted)

accepted_at_once : (way : Way) → (moment : ℕ) × IsAccepted (asked_at moment way) → IsAccepted (asked_at 0 way)
accepted_at_once way accepted = accepted_at way accepted.0 accepted.1

-- the same for a request of equal parts
pub request_accepted : (way : Way) (pieces : List PieceValue) (header : HeaderValue) (src dst : ℕ) (given : Rules)
    → pieces ≡ way.pieces → header ≡ way.header → src ≡ way.source → dst ≡ way.destination → given ≡ way.rules
    → (moment : ℕ) × IsAccepted (asked_at moment way) → IsAccepted (request_of pieces header src dst 0 given)
request_accepted way pieces header src dst given same_pieces same_header same_src same_dst same_rules accepted =
    let same = ap (λ (p : List PieceValue). request_of p header src dst 0 given) same_pieces
    ∙ ap (λ (h : HeaderValue). request_of way.pieces h src dst 0 given) same_header
    ∙ ap (λ (s : ℕ). request_of way.pieces way.header s dst 0 given) same_src
    ∙ ap (λ (d : ℕ). request_of way.pieces way.header way.source d 0 given) same_dst
    ∙ ap (λ (r : Rules). request_of way.pieces way.header way.source way.destination 0 r) same_rules in
    subst IsAccepted (sym same) (accepted_at_once way accepted)

-- the text with the second of its expiry tells of the path
pub tells_path : {A F : Type 0} (result : Result (String A) F) (pieces : List PieceValue) (half : ℕ)
    → IsExpiry pieces half
    → IfOk result (λ text. string_bytes text ≡ path_lines pieces (half / 2))
    → IfOk result (λ text. TellsPath pieces (string_bytes text))
tells_path (Ok text) pieces half expires is = (half, (expires, is))
tells_path (Err fault) pieces half expires is = is
