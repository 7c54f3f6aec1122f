-- A packet that was delivered may be answered.
use Rattle.std.proofs.Common.{◌≡◌, ℕ, ◌*◌, ◌<◌, ◌≤◌, List, length, Some, Result, Ok, Err, refl, ap, ◌∙◌, subst, inl, inr}
use Rattle.std.specs.Prelude.{slice_get, nat_le}
use Rattle.std.specs.Option.{ok_or}
use Rattle.std.proofs.lemmas.Bool.{le-leb}
use Rattle.refusal.specs.Refusal.{◌>>=◌, check, or_else}
use Rattle.refusal.proofs.Steps.{bind_from, ok_is}
use Rattle.path_header.specs.Value.{HeaderValue}
use Rattle.path_header.specs.Reversal.{reversed_header}
use Rattle.path_verifier.specs.Piece.{PieceValue}
use Rattle.path_verifier.specs.declared.fault.VerifyFault.TheVariants.{Expired}
use Rattle.path_verifier.specs.Accepted.{IsExpiry, MakesPath}
use Rattle.path_verifier.specs.Turned.{turned_pieces}
use Rattle.path_verifier.proofs.Breaches.{refused_is_not_accepted}
use Rattle.router_step.specs.Packet.{destination_of, source_of}
use Rattle.forwarding.specs.Frame.{HasFrame}
use Rattle.forwarding.specs.Turn.{Packet}
use Rattle.forwarding.specs.Turned.{header_behind, no_rules}
use Rattle.forwarding.specs.OnPath.{arrived_with}
use Rattle.forwarding.proofs.Received.{received}
use Rattle.forwarding.proofs.Replies.{back_in_time, back_expired}
use Rattle.network_core.specs.declared.fault.EventFault.{EventFault}
use Rattle.network_core.specs.declared.fault.EventFault.TheVariants as faults
use Rattle.network_core.specs.declared.reply.Reply.{Reply}
use Rattle.network_core.specs.declared.reply.Reply.TheVariants as replies
use Rattle.network_core.specs.Value.{Way, asked_at, Shipment, PacketValue, NetValue, way_with}
use Rattle.network_core.specs.Event.{BackOf, ByWay}
use Rattle.network_core.specs.Step.{packet_at, header_back, way_by, shipment_by, Sends}
use Rattle.network_core.specs.Headline.{IsAnswerable}

abbrev header_ok : HeaderValue → Result HeaderValue EventFault
header_ok h = Ok h

abbrev way_ok : Way → Result Way EventFault
way_ok w = Ok w

module _ (net : NetValue) (p moment : ℕ) (sent : Shipment) (one : PacketValue)
    (there : slice_get net.packets p ≡ Some one) (holds : one.sent ≡ sent)
    (arrived : one.packet
    ≡ arrived_with sent.way.source sent.way.destination sent.payload sent.way.pieces)
    (path : MakesPath sent.way.pieces sent.way.source sent.way.destination moment)
    (frame : HasFrame sent.way.source sent.way.destination sent.way.pieces) (payload : List ℕ)
    (few : length payload ≤ 1024) where
  abbrev header : HeaderValue
  header = reversed_header (header_behind sent.way.pieces)

  abbrev way : ℕ → ℕ → List PieceValue → Way
  way source destination pieces = record {
    source = source;
    destination = destination;
    pieces = pieces;
    header = header;
    rules = no_rules;
  }

  abbrev back : Shipment
  back = record {
    way = way sent.way.destination sent.way.source (turned_pieces sent.way.pieces);
    payload = payload;
  }

  header_is : header_back one.packet one.packet.place ≡ Ok header
  header_is =
      let read = received sent.way.source sent.way.destination moment sent.payload sent.way.pieces path frame in
      ap (λ (packet : Packet). header_back packet packet.place) arrived
      ∙ ap (λ r. or_else faults.NotDelivered r >>= λ (x : HeaderValue × ℕ). header_ok (reversed_header x.0)) read.2

  way_is : way_with (destination_of one.packet.bytes) (source_of one.packet.bytes) (turned_pieces one.sent.way.pieces)
      header no_rules ≡ back.way
  way_is =
      let read = received sent.way.source sent.way.destination moment sent.payload sent.way.pieces path frame in
      let source = ap (λ (packet : Packet). destination_of packet.bytes) arrived ∙ read.1 in
      let destination = ap (λ (packet : Packet). source_of packet.bytes) arrived ∙ read.0 in
      let pieces = ap (λ (s : Shipment). turned_pieces s.way.pieces) holds in
      ap (λ s. way s (source_of one.packet.bytes) (turned_pieces one.sent.way.pieces)) source
      ∙ ap (λ d. way sent.way.destination d (turned_pieces one.sent.way.pieces)) destination
      ∙ ap (λ ps. way sent.way.destination sent.way.source ps) pieces

  checked : check (nat_le (length payload) 1024) faults.PayloadTooLong ≡ Ok tt
  checked = ap (λ b. check b faults.PayloadTooLong) (le-leb (length payload) 1024 few)

  sent_is : shipment_by net (ByWay back.way) payload ≡ Ok back
  sent_is = bind_from (check (nat_le (length payload) 1024) faults.PayloadTooLong) _ tt (Ok back) checked refl

  routed : way_by net (BackOf p) ≡ Ok back.way
  routed = bind_from (packet_at net p) _ one (Ok back.way) (ap (λ o. ok_or o faults.NoPacket) there)
      (bind_from (header_back one.packet one.packet.place) _ header (Ok back.way) header_is (ap way_ok way_is))

  replied_is : shipment_by net (BackOf p) payload ≡ Ok back
  replied_is = bind_from (way_by net (BackOf p)) _ back.way (Ok back) routed sent_is

  -- past the path's expiry the event is refused, and changes nothing
  refused_late : (expiry : ℕ) → IsExpiry sent.way.pieces expiry → expiry < 2 * net.moment
      → (reply : Reply) (new : NetValue) (answer : Result Shipment EventFault) → answer ≡ Ok back
      → Sends answer net reply new → (reply ≡ replies.Refused (faults.Path Expired)) × (new ≡ net)
  refused_late expiry least past reply new (Ok other) is sends =
      let same = ok_is other back is in
      let late = back_expired sent.way.pieces sent.way.source sent.way.destination moment net.moment
      expiry header no_rules path least past in
      elim (subst (λ (s : Shipment). Sends (Ok s) net reply new) same sends) [
        | inl done ↦ absurd
            (refused_is_not_accepted (asked_at net.moment back.way) Expired ((late Expired).1 refl) done.0)
        | inr none ↦ (
          none.1.1.0 ∙ ap (λ f. replies.Refused (faults.Path f)) ((late none.0).0 none.1.0),
          none.1.1.1,
        )
      ]
  refused_late expiry least past reply new (Err fault) is sends = absurd cc

  pub answerable : IsAnswerable net p sent payload
  answerable = record {
    back = back;
    replies = replied_is;
    source = refl;
    destination = refl;
    pieces = refl;
    in_time = λ at expiry least low. back_in_time sent.way.pieces sent.way.source
        sent.way.destination moment at expiry path least low;
    late = λ expiry least past reply new step. refused_late expiry least past reply new
        (shipment_by net (BackOf p) payload) replied_is step;
  }
