-- How a history may go on so that a packet arrives.
use Rattle.std.specs.Prelude.{◌≡◌, ℕ, ◌*◌, ◌<◌, List, ◌++◌, length, All, slice_get, Some}
use Rattle.path_verifier.specs.Piece.{PieceValue}
use Rattle.path_verifier.specs.Header.{total_hops}
use Rattle.forwarding.specs.declared.location.PacketLocation.TheVariants.{Delivered}
use Rattle.forwarding.specs.Sound.{AvoidsAs, AvoidsLink}
use Rattle.network_core.specs.Event.{Turn, CutLink, RotateKey}
use Rattle.network_core.specs.Value.{Shipment, PacketValue, NetValue}
use Rattle.network_core.specs.History.{EventRecord, IsHistory, net_after}
use Rattle.network_core.specs.Delivery.{AllFramed}
use Rattle.network_core.specs.Headline.{IsDone, Undisturbed}

-- no AS of these pieces changes its key twice in this history
abbrev pub RenewsNoKeyTwiceOf : List PieceValue → List EventRecord → Type 0
RenewsNoKeyTwiceOf pieces history = (i j ia : ℕ) (key other : List ℕ) → i < j
    → IsDone history i (RotateKey ia key) → IsDone history j (RotateKey ia other)
    → All (λ piece. AvoidsAs piece.segment piece.from piece.to ia) pieces

-- no link between two ASes of these pieces is cut in this history
abbrev pub CutsNoLinkOf : List PieceValue → List EventRecord → Type 0
CutsNoLinkOf pieces history = (k ia interface : ℕ) → IsDone history k (CutLink ia interface)
    → All (λ piece. AvoidsLink piece.segment piece.from piece.to ia interface) pieces

-- the history can go on by turns of the packet alone, two for each hop field; the packet is still
-- undisturbed then, and it is delivered
pub record MayArrive (start : NetValue) (history : List EventRecord) (number p : ℕ)
    (sent : Shipment) : Type 0 where
  pub later : List EventRecord
  pub turns : All (λ one. one.event ≡ Turn p) later
  pub count : length later ≡ 2 * total_hops sent.way.pieces
  pub is : IsHistory start (history ++ later)
  pub framed : AllFramed (history ++ later)
  pub quiet : Undisturbed start (history ++ later) number p sent.way.pieces
  pub packet : PacketValue
  pub there : slice_get (net_after start (history ++ later)).packets p ≡ Some packet
  pub delivered : packet.packet.place ≡ Delivered
