-- The headline: conditions on the history in which a packet is sent, by the numbers of its events,
-- and what they guarantee for the packet (draft-dekater-scion-dataplane;
-- draft-dekater-scion-controlplane).
use Rattle.std.specs.Prelude.{◌≡◌, ℕ, ◌+◌, ◌*◌, ◌<◌, ◌≤◌, true, List, length, slice_get, All, Any, take, drop, Some, Ok}
use Rattle.path_verifier.specs.Piece.{PieceValue}
use Rattle.path_verifier.specs.Walk.{walk_of}
use Rattle.path_verifier.specs.Header.{total_hops}
use Rattle.path_verifier.specs.declared.fault.VerifyFault.TheVariants.{Expired}
use Rattle.path_verifier.specs.Turned.{turned_pieces}
use Rattle.path_verifier.specs.Accepted.{IsExpiry, IsAccepted}
use Rattle.forwarding.specs.declared.location.PacketLocation.TheVariants.{Delivered}
use Rattle.forwarding.specs.Journey.{turns_for}
use Rattle.forwarding.specs.Sound.{AvoidsAs, AvoidsLink}
use Rattle.network_core.specs.declared.fault.EventFault.TheVariants.{Path}
use Rattle.network_core.specs.declared.reply.Reply.{Reply}
use Rattle.network_core.specs.declared.reply.Reply.TheVariants.{Refused}
use Rattle.network_core.specs.Event.{BackOf, EventValue, Send, Turn, Lose, Alter, CutLink, RotateKey}
use Rattle.network_core.specs.Value.{asked_at, Shipment, PacketValue, NetValue}
use Rattle.network_core.specs.Step.{shipment_by, Step}
use Rattle.network_core.specs.History.{EventRecord, net_at, Occurs, IssuedIn}
use Rattle.network_core.specs.Delivery.{is_done, turns_of, IsForwarded}

-- event number `k` is this one and was done
pub record IsDone (history : List EventRecord) (k : ℕ) (event : EventValue) : Type 0 where
  pub reply : Reply
  pub occurs : Occurs history k event reply
  pub done : is_done reply ≡ true

-- each piece is of a segment that was issued by events of the history, from number `begin` on and
-- before event `number`
abbrev pub AreIssuedFrom : NetValue → List EventRecord → (begin number : ℕ)
    → List PieceValue → Type 0
AreIssuedFrom start history begin number pieces =
    All (λ piece. (first last : ℕ) × ((begin ≤ first) × ((last < number)
    × IssuedIn start history first last piece.segment))) pieces

-- `AreIssuedFrom`, and `begin` is the number of the first of all these events
pub record HaveBeginning (start : NetValue) (history : List EventRecord) (number : ℕ)
    (pieces : List PieceValue) : Type 0 where
  pub begin : ℕ
  pub each : AreIssuedFrom start history begin number pieces
  pub earliest : Any (λ piece. (last : ℕ) × ((last < number)
      × IssuedIn start history begin last piece.segment)) pieces

-- the pieces were issued by events from number `begin` on. Since then no AS of their travelled
-- entries has changed its key twice, and no link between two of these entries was cut.
pub record Kept (start : NetValue) (history : List EventRecord) (number : ℕ)
    (pieces : List PieceValue) : Type 0 where
  pub begin : ℕ
  pub issued : AreIssuedFrom start history begin number pieces
  pub keys : (i j ia : ℕ) (key other : List ℕ) → begin ≤ i → i < j
      → IsDone history i (RotateKey ia key) → IsDone history j (RotateKey ia other)
      → All (λ piece. AvoidsAs piece.segment piece.from piece.to ia) pieces
  pub links : (k ia number : ℕ) → begin ≤ k → IsDone history k (CutLink ia number)
      → All (λ piece. AvoidsLink piece.segment piece.from piece.to ia number) pieces

-- `Kept`, and nobody alters the packet, nothing loses it, and each of its turns comes no later than
-- the expiry of its path
pub record Undisturbed (start : NetValue) (history : List EventRecord) (number p : ℕ)
    (pieces : List PieceValue) : Type 0 where
  pub kept : Kept start history number pieces
  pub unaltered : (k at change : ℕ) → ¬ (IsDone history k (Alter p at change))
  pub unlost : (k : ℕ) → ¬ (IsDone history k (Lose p))
  pub expiry : ℕ
  pub least : IsExpiry pieces expiry
  pub in_time : (k : ℕ) → IsDone history k (Turn p) → 2 * (net_at start history k).moment ≤ expiry

-- the number of turns of the packet among the first `k` events, after event `number`
abbrev pub turns_since : (history : List EventRecord) (number p k : ℕ) → ℕ
turns_since history number p k = turns_of p (drop (number + 1) (take k history))

-- a reply to the delivered packet goes the way back: from its destination to its source, over its
-- pieces in reverse order and direction. The verifier accepts this way at each second up to the
-- expiry of the path; after that the event is refused as Expired.
pub record IsAnswerable (net : NetValue) (p : ℕ) (sent : Shipment) (payload : List ℕ) : Type 0 where
  pub back : Shipment
  pub replies : shipment_by net (BackOf p) payload ≡ Ok back
  pub source : back.way.source ≡ sent.way.destination
  pub destination : back.way.destination ≡ sent.way.source
  pub pieces : back.way.pieces ≡ turned_pieces sent.way.pieces
  pub in_time : (moment expiry : ℕ) → IsExpiry sent.way.pieces expiry → 2 * moment ≤ expiry
      → IsAccepted (asked_at moment back.way)
  pub late : (expiry : ℕ) → IsExpiry sent.way.pieces expiry → expiry < 2 * net.moment
      → (reply : Reply) (new : NetValue) → Step net (Send (BackOf p) payload) reply new
      → (reply ≡ Refused (Path Expired)) × (new ≡ net)

-- the guarantees for the packet that event number `number` sent. Its path was accepted. After `k`
-- events, if the packet was undisturbed so far, it is forwarded as `IsForwarded` says; and it is
-- delivered once it has had two turns for each hop field. From then on it stays as it is, whatever
-- happens; and a payload of up to 1,024 bytes has a way back, which is accepted until the path
-- expires.
pub record Headline (start : NetValue) (history : List EventRecord) (number p : ℕ) (sent : Shipment)
    : Type 0 where
  pub accepted : IsAccepted (asked_at (net_at start history number).moment sent.way)
  pub forwarded : (k : ℕ) → number < k → Undisturbed start (take k history) number p sent.way.pieces
      → IsForwarded (net_at start history k) p
      (turns_for (net_at start history number).network (walk_of sent.way.pieces))
      (turns_since history number p k) sent
  pub delivers : (k : ℕ) → (after : number < k)
      → (quiet : Undisturbed start (take k history) number p sent.way.pieces)
      → 2 * total_hops sent.way.pieces ≤ turns_since history number p k
      → (forwarded k after quiet).packet.packet.place ≡ Delivered
  pub answerable : (k j : ℕ) → (after : number < k) → k ≤ j
      → (quiet : Undisturbed start (take k history) number p sent.way.pieces)
      → (forwarded k after quiet).packet.packet.place ≡ Delivered → (payload : List ℕ)
      → length payload ≤ 1024 → IsAnswerable (net_at start history j) p sent payload
  pub stays : (k j : ℕ) (one : PacketValue) → k ≤ j
      → slice_get (net_at start history k).packets p ≡ Some one
      → one.packet.place ≡ Delivered → slice_get (net_at start history j).packets p ≡ Some one
