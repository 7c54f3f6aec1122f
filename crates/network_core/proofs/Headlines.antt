-- The headline, by the numbers of the events.
use Rattle.std.proofs.Common.{◌≡◌, ℕ, zero, suc, ◌+◌, ◌-◌, ◌<◌, ◌≤◌, List, [], ◌∷◌, take, drop, get_or, All, Some, Ok, Err, Result, refl, sym, ap, ◌∙◌, subst, arith}
use Rattle.std.specs.Prelude.{slice_get}
use Rattle.std.proofs.lemmas.Option.{slice_get_within, get_or_from_slice_get}
use Rattle.scion_topology.specs.Topology.{IsNetwork}
use Rattle.path_verifier.specs.Walk.{walk_of}
use Rattle.path_verifier.specs.Accepted.{IsAccepted}
use Rattle.path_verifier.proofs.Expiry.{live_up_to}
use Rattle.path_verifier.proofs.Breaches.{path_kept}
use Rattle.forwarding.specs.Frame.{HasFrame}
use Rattle.forwarding.specs.Journey.{turns_for}
use Rattle.forwarding.proofs.Bounds.{turns_are_few}
use Rattle.forwarding.proofs.Made.{sound_is_let_through}
use Rattle.network_core.specs.declared.fault.EventFault.{EventFault}
use Rattle.network_core.specs.declared.reply.Reply.TheVariants as replies
use Rattle.network_core.specs.Event.{RouteValue, Send, Turn, Lose, Alter}
use Rattle.network_core.specs.Value.{asked_at, Shipment, NetValue}
use Rattle.network_core.specs.Step.{shipment_by, Sends}
use Rattle.network_core.specs.History.{EventRecord, IsHistory, net_after, net_at, Occurs}
use Rattle.network_core.specs.Delivery.{LetsGoOn, AllLetGoOn, AreSound, turns_of, IsForwarded, HasSentFrame, IsFramed, AllFramed}
use Rattle.network_core.specs.Headline.{Kept, Undisturbed, turns_since, Headline}
use Rattle.network_core.proofs.Numbers.{becomes_at, left_at, network_at}
use Rattle.network_core.proofs.Rotating.{done_at}
use Rattle.network_core.proofs.Chained.{sound_from}
use Rattle.network_core.proofs.Delivering.{accepted_then, frame_sent, history_take, delivery}
use Rattle.network_core.proofs.Answerable.{answerable}
use Rattle.network_core.proofs.Staying.{delivered_stays}

-- ---- a history from a number on

none_left : (start : NetValue) (j : ℕ) → net_at start [] j ≡ start
none_left start zero = refl
none_left start (suc j) = refl

pub history_drop : (start : NetValue) (history : List EventRecord) (n : ℕ) → IsHistory start history
    → IsHistory (net_at start history n) (drop n history)
history_drop start history zero is = is
history_drop start [] (suc n) is = tt
history_drop start (m ∷ later) (suc n) is = history_drop m.net later n is.1

pub net_drop : (start : NetValue) (history : List EventRecord) (n j : ℕ)
    → net_at (net_at start history n) (drop n history) j ≡ net_at start history (n + j)
net_drop start history zero j = let same : j ≡ 0 + j = omega arith in ap (net_at start history) same
net_drop start [] (suc n) j = none_left start j ∙ sym (none_left start (suc n + j))
net_drop start (m ∷ later) (suc n) j =
    let same : suc (n + j) ≡ suc n + j = omega arith in
    net_drop m.net later n j ∙ ap (net_at start (m ∷ later)) same

pub there_drop : (history : List EventRecord) (n j : ℕ) → slice_get (drop n history) j ≡ slice_get history (n + j)
there_drop history zero j = let same : j ≡ 0 + j = omega arith in ap (slice_get history) same
there_drop [] (suc n) j = refl
there_drop (m ∷ later) (suc n) j =
    let same : suc (n + j) ≡ suc n + j = omega arith in
    there_drop later n j ∙ ap (slice_get (m ∷ later)) same

none_taken : (j : ℕ) → take {A = EventRecord} j [] ≡ []
none_taken zero = refl
none_taken (suc j) = refl

drop_take : (n k : ℕ) (history : List EventRecord) → drop n (take (n + k) history) ≡ take k (drop n history)
drop_take zero k history = let same : 0 + k ≡ k = omega arith in ap (λ j. take j history) same
drop_take (suc n) k [] = ap (λ (xs : List EventRecord). drop (suc n) xs) (none_taken (suc n + k)) ∙ sym (none_taken k)
drop_take (suc n) k (m ∷ history) =
    let same : suc n + k ≡ suc (n + k) = omega arith in
    ap (λ j. drop (suc n) (take j (m ∷ history))) same ∙ drop_take n k history

-- from each number to the recursion on the list
by_number : (p : ℕ) (sent : Shipment) (net : NetValue) (later : List EventRecord)
    → ((j : ℕ) (m : EventRecord) → slice_get later j ≡ Some m
    → LetsGoOn p sent (net_at net later j) m.event m.reply)
    → AllLetGoOn p sent net later
by_number p sent net [] each = tt
by_number p sent net (m ∷ later) each =
    (each 0 m refl, by_number p sent m.net later (λ j x at. each (suc j) x at))

-- ---- a packet that event number `number` sent

module _ (start : NetValue) (history : List EventRecord) (is : IsHistory start history)
    (network : IsNetwork start.network) (number p : ℕ) (sent : Shipment)
    (sends : Sends (Ok sent) (net_at start history number) (replies.Sent p) (net_at start history (number + 1)))
    (frame : HasFrame sent.way.source sent.way.destination sent.way.pieces) where
  accepted : IsAccepted (asked_at (net_at start history number).moment sent.way)
  accepted = (accepted_then p (net_at start history number) (net_at start history (number + 1)) sent sends).0

  -- its pieces are sound from the Send on
  sound : (k : ℕ) → number ≤ k → Kept start history number sent.way.pieces
      → AreSound (net_at start history k).network sent.way.pieces
  sound k order kept i d within =
      let one = kept.issued i d within in
      let before = one.2.1.0 in
      (sound_from start history is network (get_or sent.way.pieces i d) kept.begin
      (λ a b ia key other low later first second. kept.keys a b ia key other low later first second i d within)
      (λ a ia interface low cut. kept.links a ia interface low cut i d within)
      one.0 one.1 k ((path_kept accepted).ranges i d within) one.2.0 (omega arith) one.2.1.1).1

  -- each event behind it lets the packet go on
  lets_at : (k : ℕ) (m : EventRecord) → number < k → slice_get history k ≡ Some m
      → Undisturbed start history number p sent.way.pieces
      → LetsGoOn p sent (net_at start history k) m.event m.reply
  lets_at k m after there quiet = record {
    unlost = λ event done. quiet.unlost k (done_at history k m (Lose p) there event done);
    unaltered = λ at change event done. quiet.unaltered k at change (done_at history k m (Alter p at change) there event done);
    let_through = λ event done. sound_is_let_through (net_at start history k).network
        (net_at start history k).moment sent.way.source sent.way.destination
        (net_at start history number).moment sent.way.pieces
        (network_at start history k is network) (path_kept accepted)
        ((live_up_to sent.way.pieces quiet.expiry (net_at start history k).moment quiet.least).1
        (quiet.in_time k (done_at history k m (Turn p) there event done)))
        (sound k (omega arith) quiet.kept);
  }

  all_forwarded : (k : ℕ) → Undisturbed start history number p sent.way.pieces → number < k
      → IsForwarded (net_at start history k) p
      (turns_for (net_at start history number).network (walk_of sent.way.pieces))
      (turns_since history number p k) sent
  all_forwarded k quiet after =
      let new = net_at start history (number + 1) in
      let later = drop (number + 1) history in
      let total = turns_for (net_at start history number).network (walk_of sent.way.pieces) in
      let j : ℕ = k - (number + 1) in
      let sum : number + 1 + (k - (number + 1)) ≡ k = omega arith in
      let lets = by_number p sent new later (λ i m there. (
      let behind : number < number + 1 + i = omega arith in
      subst (λ (net : NetValue). LetsGoOn p sent net m.event m.reply) (sym (net_drop start history (number + 1) i))
      (lets_at (number + 1 + i) m behind (sym (there_drop history (number + 1) i) ∙ there) quiet))) in
      let f = delivery p (k - (number + 1)) (net_at start history number) new sent later sends frame
      (history_drop start history (number + 1) is) lets in
      let here : net_at new later (k - (number + 1)) ≡ net_at start history k =
      net_drop start history (number + 1) (k - (number + 1)) ∙ ap (net_at start history) sum in
      let count : turns_of p (take (k - (number + 1)) later) ≡ turns_since history number p k =
      ap (turns_of p) (sym (drop_take (number + 1) (k - (number + 1)) history))
      ∙ ap (λ i. turns_of p (drop (number + 1) (take i history))) sum in
      subst (λ net. IsForwarded net p total (turns_since history number p k) sent) here
      (subst (λ done. IsForwarded (net_at new later (k - (number + 1))) p total done sent) count f)

-- ---- the same of the first k events alone

take_take : (j k : ℕ) (history : List EventRecord) → j ≤ k → take j (take k history) ≡ take j history
take_take zero k history low = refl
take_take (suc j) zero history low = absurd (omega arith)
take_take (suc j) (suc k) [] low = refl
take_take (suc j) (suc k) (m ∷ history) low = ap (λ later. m ∷ later) (take_take j k history (omega arith))

net_take : (start : NetValue) (history : List EventRecord) (j k : ℕ) → j ≤ k
    → net_at start (take k history) j ≡ net_at start history j
net_take start history j k low = ap (net_after start) (take_take j k history low)

module _ (start : NetValue) (history : List EventRecord) (is : IsHistory start history)
    (network : IsNetwork start.network) (number p : ℕ) (sent : Shipment)
    (sends : Sends (Ok sent) (net_at start history number) (replies.Sent p) (net_at start history (number + 1)))
    (frame : HasFrame sent.way.source sent.way.destination sent.way.pieces) where
  sends_first : (k : ℕ) → number < k → Sends (Ok sent) (net_at start (take k history) number)
      (replies.Sent p) (net_at start (take k history) (number + 1))
  sends_first k after =
      subst (λ net. Sends (Ok sent) (net_at start (take k history) number) (replies.Sent p) net)
      (sym (net_take start history (number + 1) k (omega arith)))
      (subst (λ net. Sends (Ok sent) net (replies.Sent p) (net_at start history (number + 1)))
      (sym (net_take start history number k (omega arith))) sends)

  forwarded : (k : ℕ) → number < k → Undisturbed start (take k history) number p sent.way.pieces
      → IsForwarded (net_at start history k) p
      (turns_for (net_at start history number).network (walk_of sent.way.pieces))
      (turns_since history number p k) sent
  forwarded k after quiet =
      let first = take k history in
      let walk = walk_of sent.way.pieces in
      let f = all_forwarded start first (history_take start history k is) network number p sent
      (sends_first k after) frame k quiet after in
      subst (λ h. IsForwarded (net_at start history k) p (turns_for (net_at start history number).network walk)
      (turns_of p (drop (number + 1) h)) sent) (take_take k k history (omega arith))
      (subst (λ (net : NetValue). IsForwarded (net_at start history k) p (turns_for net.network walk)
      (turns_since first number p k) sent) (net_take start history number k (omega arith))
      (subst (λ net. IsForwarded net p (turns_for (net_at start first number).network walk)
      (turns_since first number p k) sent) (net_take start history k k (omega arith)) f))

  pub headline : Headline start history number p sent
  headline = record {
    accepted = accepted start history is network number p sent sends frame;
    forwarded = forwarded;
    delivers = λ k after quiet enough. (
        let few = turns_are_few (net_at start history number).network sent.way.pieces sent.way.source
        sent.way.destination (net_at start history number).moment
        (path_kept (accepted start history is network number p sent sends frame)) in
        (forwarded k after quiet).exact.1 (omega arith));
    answerable = λ k j after order quiet delivered payload few. (
        let f = forwarded k after quiet in
        answerable (net_at start history j) p (net_at start history number).moment sent f.packet
        (delivered_stays start history p k j f.packet is order f.there delivered)
        f.holds (f.whole delivered) (path_kept (accepted start history is network number p sent sends frame))
        frame payload few);
    stays = λ k j one order there delivered. delivered_stays start history p k j one is order there delivered;
  }

-- ---- by a Send

-- what is so of each element is so of the one at a place
pub all_at : {X : Type 0} (P : X → Type 0) (xs : List X) (place : ℕ) (x : X) → All P xs
    → slice_get xs place ≡ Some x → P x
all_at P xs place x all there =
    subst P (get_or_from_slice_get xs place x x there) (all place x (slice_get_within xs place x there))

sends_ok : (r : Result Shipment EventFault) (p : ℕ) (old new : NetValue)
    → Sends r old (replies.Sent p) new
    → (sent : Shipment) × ((r ≡ Ok sent) × Sends (Ok sent) old (replies.Sent p) new)
sends_ok (Ok sent) p old new is = (sent, (refl, is))
sends_ok (Err fault) p old new is = absurd (let e = is.0 in cc)

-- of what an event sent the numbers have a place for their bits, where they have it of each
framed_at : (start : NetValue) (history : List EventRecord) (number p : ℕ) (route : RouteValue)
    (payload : List ℕ) → IsHistory start history → AllFramed history
    → Occurs history number (Send route payload) (replies.Sent p)
    → HasSentFrame (replies.Sent p) (net_at start history (number + 1))
framed_at start history number p route payload is framed occurs =
    let m : EventRecord = record { event = Send route payload; reply = replies.Sent p; net = occurs.net } in
    let of : IsFramed (Send route payload) (replies.Sent p) occurs.net =
    all_at (λ (x : EventRecord). IsFramed x.event x.reply x.net) history number m framed occurs.there in
    subst (HasSentFrame (replies.Sent p)) (left_at start history number m is occurs.there) (of route payload refl)

pub of_send : (start : NetValue) (history : List EventRecord) (number p : ℕ) (route : RouteValue)
    (payload : List ℕ) → IsNetwork start.network → IsHistory start history → AllFramed history
    → Occurs history number (Send route payload) (replies.Sent p)
    → (sent : Shipment) × ((shipment_by (net_at start history number) route payload ≡ Ok sent)
    × Headline start history number p sent)
of_send start history number p route payload network is framed occurs =
    let step = becomes_at start history number
    (record { event = Send route payload; reply = replies.Sent p; net = occurs.net }) is occurs.there in
    let s =
    sends_ok (shipment_by (net_at start history number) route payload) p (net_at start history number) (net_at start history (number + 1)) step in
    let frame = frame_sent p (net_at start history number) (net_at start history (number + 1)) s.0 s.1.1
    (framed_at start history number p route payload is framed occurs) in
    (s.0, (s.1.0, headline start history is network number p s.0 s.1.1 frame))
