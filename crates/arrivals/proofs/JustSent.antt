-- A packet that was just sent is undisturbed so far.
use Rattle.std.proofs.Common.{◌≡◌, ℕ, zero, suc, ◌+◌, ◌<◌, ◌≤◌, List, [], ◌∷◌, ◌++◌, Bool, true, false, Result, Ok, Err, length, refl, sym, ap, subst, ◌∙◌, arith, inl, inr, length-append}
use Rattle.std.specs.Prelude.{slice_get, slice_set}
use Rattle.std.proofs.lemmas.Bool.{cases_eq}
use Rattle.std.proofs.lemmas.List.{take_all}
use Rattle.std.proofs.lemmas.List.Elements.{All-weaker}
use Rattle.std.proofs.lemmas.Option.{same_Some, slice_get_past, slice_get_within}
use Rattle.refusal.specs.Refusal.{◌>>=◌, check}
use Rattle.scion_topology.specs.Network.{Network}
use Rattle.scion_topology.specs.Topology.{IsNetwork}
use Rattle.path_verifier.specs.declared.fault.VerifyFault.TheVariants.{Expired, PieceCount, Range}
use Rattle.path_verifier.specs.Piece.{PieceValue}
use Rattle.path_verifier.proofs.Expiry.{live_up_to}
use Rattle.network_core.specs.declared.fault.EventFault.{EventFault}
use Rattle.network_core.specs.declared.fault.EventFault.TheVariants as faults
use Rattle.network_core.specs.declared.reply.Reply.{Reply}
use Rattle.network_core.specs.declared.reply.Reply.TheVariants.{Sent, Refused}
use Rattle.network_core.specs.Event.{EventValue, ByAnswer, Send, Turn, Lose, Alter}
use Rattle.network_core.specs.Value.{Shipment, NetValue, new_net}
use Rattle.network_core.specs.Step.{Made, Leads, Sends, Step, packet_of, flying_at, shipment_by}
use Rattle.network_core.specs.History.{EventRecord, IsHistory, net_after, net_at, Occurs, IssuedIn}
use Rattle.network_core.specs.Delivery.{is_done, AllFramed}
use Rattle.network_core.specs.Headline.{IsDone, AreIssuedFrom, Headline}
use Rattle.network_core.proofs.Effects.{Moves, effect}
use Rattle.network_core.proofs.Numbers.{becomes_at, kept_to}
use Rattle.network_core.proofs.Headlines.{of_send}
use Rattle.network_core.proofs.Asked.{of_answer}
use Rattle.arrivals.specs.Arrivals.{CutsNoLinkOf, MayArrive, RenewsNoKeyTwiceOf}
use Rattle.arrivals.proofs.Least.{expiry_there}
use Rattle.arrivals.proofs.Going.{may_arrive, same_ok}

-- ---- there is no such packet before

set_length : {A : Type 0} (xs : List A) (k : ℕ) (x : A) → length (slice_set xs k x) ≡ length xs
set_length [] k x = refl
set_length (y ∷ xs) zero x = refl
set_length (y ∷ xs) (suc k) x = ap suc (set_length xs k x)

grows : (old new : NetValue) (event : EventValue) → Moves old event new
    → length old.packets ≤ length new.packets
grows old new event (inl same) = let e = ap length same in omega (arith, e)
grows old new event (inr (inl d)) =
    let e = ap length d.packets in
    let more = length-append old.packets (packet_of d.sent d.router ∷ []) in omega (arith, e, more)
grows old new event (inr (inr m)) =
    let e = ap length m.packets in
    let same = set_length old.packets m.number (record m.one { packet = m.packet }) in omega
    (arith, e, same)

all_grow : (start : NetValue) (history : List EventRecord) (i j : ℕ) → IsHistory start history
    → i ≤ j
    → length (net_at start history i).packets ≤ length (net_at start history j).packets
all_grow start history i j is order =
    let n = length (net_at start history i).packets in
    kept_to start history (λ net. n ≤ length net.packets) i j order is
    (λ k m low there step before. (
    let more = grows (net_at start history k) (net_at start history (k + 1)) m.event
    (effect (net_at start history k) (net_at start history (k + 1)) m.event m.reply step).packets in
    omega (arith, more, before)))
    (omega arith)

no_flying : (net : NetValue) (p : ℕ) → length net.packets ≤ p
    → flying_at net p ≡ Err faults.NoPacket
no_flying net p past = rw (slice_get_past net.packets p past) refl

not_done : {A : Type 0} (old new : NetValue) (reply : Reply) (r : Result A EventFault)
    (f : A → Made)
    (fault : EventFault) → r ≡ Err fault → Leads (r >>= f) old reply new → is_done reply ≡ true → ⊥
not_done old new reply (Ok x) f fault is leads done = absurd cc
not_done old new reply (Err other) f fault is leads done =
    let e : is_done (Refused other) ≡ true = subst (λ x. is_done x ≡ true) leads.0 done in absurd cc

-- ---- the packet that was sent

departed : (r : Result ℕ EventFault) (room : Bool) (old : NetValue) (sent : Shipment) (p : ℕ)
    (new : NetValue)
    → Leads (r >>= λ router. check room faults.TooMany >>= λ _. Ok (
      Sent (length old.packets),
      record old { packets = old.packets ++ packet_of sent router ∷ [] },
    )) old (Sent p) new
    → (p ≡ length old.packets) × (new.moment ≡ old.moment)
departed (Ok router) true old sent p new leads =
    (number p (length old.packets) leads.0, ap (λ (net : NetValue). net.moment) leads.1)
  where
    number : (p q : ℕ) → Sent p ≡ Sent q → p ≡ q
    number p q e = cc
departed (Ok router) false old sent p new leads = absurd (let e = leads.0 in cc)
departed (Err fault) room old sent p new leads = absurd (let e = leads.0 in cc)

sent_so : (old new : NetValue) (sent : Shipment) (p : ℕ) → Sends (Ok sent) old (Sent p) new
    → (p ≡ length old.packets) × (new.moment ≡ old.moment)
sent_so old new sent p (inl done) = departed _ _ old sent p new done.1
sent_so old new sent p (inr none) = absurd (let e = none.1.1.0 in cc)

pub sent_may_arrive : (network : Network) (history : List EventRecord) (number p ask path : ℕ)
    (payload : List ℕ) (sent : Shipment) → IsNetwork network → IsHistory (new_net network) history
    → AllFramed history → Occurs history number (Send (ByAnswer ask path) payload) (Sent p)
    → length history ≡ number + 1
    → shipment_by (net_at (new_net network) history number) (ByAnswer ask path) payload ≡ Ok sent
    → RenewsNoKeyTwiceOf sent.way.pieces history → CutsNoLinkOf sent.way.pieces history
    → MayArrive (new_net network) history number p sent
sent_may_arrive network history number p ask path payload sent known is framed sends last by keys
    links =
    let start = new_net network in
    let m : EventRecord = record {
      event = Send (ByAnswer ask path) payload;
      reply = Sent p;
      net = sends.net;
    } in
    let step = becomes_at start history number m is sends.there in
    let so = sent_so (net_at start history number) (net_at start history (number + 1)) sent p
    (subst (λ r. Sends r (net_at start history number) (Sent p) (net_at start history (number + 1)))
    by step) in
    let a = of_answer network history number p ask path payload known is framed sends in
    let h = of_send start history number p (ByAnswer ask path) payload known is framed sends in
    let accepted = subst (λ s. Headline start history number p s)
    (same_ok h.0 sent (sym h.1.0 ∙ by)) h.1.1 in
    let path_is = accepted.accepted in
    let least = expiry_there sent.way.pieces (path_is.keeps PieceCount) (path_is.keeps Range) in
    let begun = subst (λ (s : Shipment). AreIssuedFrom start history a.1.1.begin number
    s.way.pieces)
    (same_ok a.0 sent (sym a.1.0 ∙ by)) a.1.1.each in
    let issued : AreIssuedFrom start history 0 number sent.way.pieces =
    All-weaker (λ (piece : PieceValue). (first last : ℕ) × ((a.1.1.begin ≤ first) × ((last < number)
    × IssuedIn start history first last piece.segment)))
    (λ (piece : PieceValue). (first last : ℕ) × ((0 ≤ first) × ((last < number)
    × IssuedIn start history first last piece.segment)))
    (λ piece i. (i.0, i.1, (omega arith, i.2.1))) sent.way.pieces begun in
    let before : (k : ℕ) → k < number → flying_at (net_at start history k) p ≡ Err faults.NoPacket =
    λ k low. no_flying (net_at start history k) p (
    let grown = all_grow start history k number is (omega (arith, low)) in
    let e = so.0 in omega (arith, grown, e)) in
    let early : (k : ℕ) (event : EventValue) → IsDone history k event
    → (Send (ByAnswer ask path) payload ≡ event → ⊥) → k < number =
    λ k event done other. earlier history number k event (Send (ByAnswer ask path) payload) (Sent p)
    sends done last other in
    may_arrive start history number p (ByAnswer ask path) payload sent known is framed sends by
    (record {
      kept = record {
        begin = 0;
        issued = issued;
        keys = λ i j ia key other low order first second. keys i j ia key other order first second;
        links = λ k ia interface low cut. links k ia interface cut;
      };
      unaltered = λ k at change done. (
          let low = early k (Alter p at change) done (λ e. absurd cc) in
          not_done (net_at start history k) (net_at start history (k + 1)) done.reply
          (flying_at (net_at start history k) p) _
          faults.NoPacket (before k low) (step_of start history k (Alter p at change) is done)
          done.done);
      unlost = λ k done. (
          let low = early k (Lose p) done (λ e. absurd cc) in
          not_done (net_at start history k) (net_at start history (k + 1)) done.reply
          (flying_at (net_at start history k) p) _
          faults.NoPacket (before k low) (step_of start history k (Lose p) is done) done.done);
      expiry = least.0;
      least = least.1;
      in_time = λ k done. absurd (
          let low = early k (Turn p) done (λ e. absurd cc) in
          not_done (net_at start history k) (net_at start history (k + 1)) done.reply
          (flying_at (net_at start history k) p) _
          faults.NoPacket (before k low) (step_of start history k (Turn p) is done) done.done);
    }) (
    let now = (live_up_to sent.way.pieces least.0 (net_at start history number).moment least.1).0
    (path_is.keeps Expired) in
    let same = so.1 in
    let whole = ap (λ (h : List EventRecord). (net_after start h).moment)
    (take_all (number + 1) history (omega (arith, last))) in
    omega (arith, now, same, whole))
  where
    step_of : (start : NetValue) (history : List EventRecord) (k : ℕ) (event : EventValue)
        → IsHistory start history
        → (done : IsDone history k event)
        → Step (net_at start history k) event done.reply (net_at start history (k + 1))
    step_of start history k event is done =
        becomes_at start history k (record
        { event = event; reply = done.reply; net = done.occurs.net }) is done.occurs.there

    earlier : (history : List EventRecord) (number k : ℕ) (event last_event : EventValue)
        (reply : Reply)
        → Occurs history number last_event reply → IsDone history k event
        → length history ≡ number + 1
        → (last_event ≡ event → ⊥) → k < number
    earlier history number k event last_event reply sends done last other =
        let m : EventRecord = record { event = event; reply = done.reply; net = done.occurs.net } in
        let l : EventRecord = record { event = last_event; reply = reply; net = sends.net } in
        let within = slice_get_within history k m done.occurs.there in
        elim (cases_eq k number) [
          | inl same ↦ absurd (other (ap (λ (x : EventRecord). x.event)
              (same_Some l m (sym sends.there ∙ ap (slice_get history) (sym same)
              ∙ done.occurs.there))))
          | inr apart ↦ omega (arith, within, last, apart)
        ]
