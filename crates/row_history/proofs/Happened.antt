-- The history of the events, and its packet.
use Rattle.std.proofs.Common.{◌≡◌, ℕ, zero, suc, ◌*◌, ◌<◌, ◌≤◌, List, [], ◌∷◌, All, Bool, true, false, Some, Ok, take, refl, sym, ap, subst, ◌∙◌, arith, inl}
use Rattle.std.specs.Prelude.{slice_get}
use Rattle.std.proofs.lemmas.List.Elements.{All-nil, All-cons, All-take, All-from_recursion}
use Rattle.std.proofs.lemmas.Option.{same_Some}
use Rattle.path_verifier.specs.Piece.{PieceValue}
use Rattle.path_verifier.specs.Walk.{walk_of}
use Rattle.forwarding.specs.declared.location.PacketLocation.TheVariants as places
use Rattle.forwarding.specs.declared.location.RouterStop.{RouterStop}
use Rattle.forwarding.specs.Journey.{turns_for}
use Rattle.forwarding.specs.Frame.{HasFrame}
use Rattle.network_core.specs.declared.reply.Reply.{Reply}
use Rattle.network_core.specs.declared.reply.Reply.TheVariants.{Done, Begun, Answered, Registered, Sent}
use Rattle.network_core.specs.Event.{EventValue, ByAnswer, Tick, Originate, Extend, Terminate, Ask, Send, Turn, Lose, Alter, CutLink, RotateKey}
use Rattle.network_core.specs.Value.{Shipment, PacketValue, NetValue, new_net}
use Rattle.network_core.specs.Step.{IsAnswerTo, Step, turns, packet_of}
use Rattle.network_core.specs.History.{EventRecord, IsHistory, net_at, net_after, Occurs, IssuedIn, IssuedBefore}
use Rattle.network_core.specs.Delivery.{is_done, IsFramed, AllFramed}
use Rattle.network_core.specs.Headline.{IsDone, AreIssuedFrom, Undisturbed, Headline}
use Rattle.network_core.specs.Ran.{IsRun}
use Rattle.network_core.proofs.Headlines.{all_at}
use Rattle.network_core.proofs.Runs.{is_run}
use Rattle.arrivals.proofs.Going.{same_ok}
use Rattle.arrivals.proofs.Turning.{net_of, reply_of, leads, turned, same_moment}
use Rattle.row_history.specs.Row.{top, middle, leaf, row, any_path, hi}
use Rattle.row_history.proofs.Path.{begun, passed, segment, piece, pieces, answer, way}
use Rattle.row_history.proofs.Found.{answered}
use Rattle.row_history.specs.Arrives.{Arrives}
use Rattle.row_history.proofs.Small.{network_is, begins, goes_on, ends, answers, registers, owner, total}
use Rattle.row_history.proofs.Allowed.{accepted, has_frame, least}

-- ---- the networks

abbrev pub shipment : Shipment
shipment = record { way = way; payload = hi }

abbrev pub net_0 : NetValue
net_0 = new_net row

abbrev pub net_1 : NetValue
net_1 = record net_0 { moment = 1000 }

abbrev pub net_2 : NetValue
net_2 = record net_1 { beacons = begun ∷ [] }

abbrev pub net_3 : NetValue
net_3 = record net_2 { beacons = begun ∷ passed ∷ [] }

abbrev pub net_4 : NetValue
net_4 = record net_3 { segments = segment ∷ [] }

abbrev pub net_5 : NetValue
net_5 = record net_4 { answers = answer ∷ [] }

abbrev pub net_6 : NetValue
net_6 = record net_5 { packets = packet_of shipment 0 ∷ [] }

abbrev pub net_7 : NetValue
net_7 = net_of net_6 (turns net_6 0)

abbrev pub net_8 : NetValue
net_8 = net_of net_7 (turns net_7 0)

abbrev pub net_9 : NetValue
net_9 = net_of net_8 (turns net_8 0)

abbrev pub record_of : EventValue → Reply → NetValue → EventRecord
record_of event reply net = record { event = event; reply = reply; net = net }

abbrev pub history : List EventRecord
history =
    record_of (Tick 1000) Done net_1
    ∷ record_of (Originate top.ia 1 4660) (Begun 0) net_2
    ∷ record_of (Extend 0 middle.ia 2) (Begun 1) net_3
    ∷ record_of (Terminate 1 leaf.ia) (Registered true) net_4
    ∷ record_of (Ask leaf.ia top.ia (Ok (any_path ∷ [])) 4) (Answered 0) net_5
    ∷ record_of (Send (ByAnswer 0 0) hi) (Sent 0) net_6
    ∷ turned net_6 0 3

pub begin_step : Step net_1 (Originate top.ia 1 4660) (Begun 0) net_2
begin_step = rw begins (refl, refl)

pub extend_step : Step net_2 (Extend 0 middle.ia 2) (Begun 1) net_3
extend_step = rw goes_on (refl, refl)

pub end_step : Step net_3 (Terminate 1 leaf.ia) (Registered true) net_4
end_step = rw ends (rw answers (rw registers (refl, refl)))

answer_is : IsAnswerTo net_4 leaf.ia top.ia (any_path ∷ []) 4 answer
answer_is = record { source = refl; destination = refl; answers = answered; rules = refl }

ask_step : Step net_4 (Ask leaf.ia top.ia (Ok (any_path ∷ [])) 4) (Answered 0) net_5
ask_step = (answer, (answer_is, (refl, refl)))

pub send_step : Step net_5 (Send (ByAnswer 0 0) hi) (Sent 0) net_6
send_step = inl (accepted, rw owner (refl, refl))

pub is : IsHistory net_0 history
is = (
  (refl, refl),
  (
    begin_step,
    (
      extend_step,
      (
        end_step,
        (
          ask_step,
          (
            send_step,
            (
              leads net_6 (turns net_6 0),
              (
                leads net_7 (turns net_7 0),
                (leads net_8 (turns net_8 0), tt),
              ),
            ),
          ),
        ),
      ),
    ),
  ),
)

framed_send : (p : ℕ) (one : PacketValue) → Sent 0 ≡ Sent p → slice_get net_6.packets p ≡ Some one
    → HasFrame one.sent.way.source one.sent.way.destination one.sent.way.pieces
framed_send zero one reply there =
    subst (λ (x : PacketValue). HasFrame x.sent.way.source x.sent.way.destination x.sent.way.pieces)
    (same_Some (packet_of shipment 0) one there) has_frame
framed_send (suc p) one reply there = absurd cc

framed : AllFramed history
framed = All-from_recursion (λ (m : EventRecord). IsFramed m.event m.reply m.net) history ((
  (λ route payload e. absurd cc),
  (
    (λ route payload e. absurd cc),
    (
      (λ route payload e. absurd cc),
      (
        (λ route payload e. absurd cc),
        (
          (λ route payload e. absurd cc),
          (
            (λ route payload e. framed_send),
            (
              (λ route payload e. absurd cc),
              (
                (λ route payload e. absurd cc),
                (
                  (λ route payload e. absurd cc),
                  tt,
                ),
              ),
            ),
          ),
        ),
      ),
    ),
  ),
))

pub run : IsRun row history
run = is_run row history network_is is framed

pub sends : Occurs history 5 (Send (ByAnswer 0 0) hi) (Sent 0)
sends = record { net = net_6; there = refl }

-- ---- nothing disturbs it

abbrev is_calm : EventValue → Bool
is_calm (Tick now) = true
is_calm (Originate ia egress beta) = true
is_calm (Extend number ia egress) = true
is_calm (Terminate number ia) = true
is_calm (Ask src dst options limit) = true
is_calm (Send route payload) = true
is_calm (Turn packet) = true
is_calm event = false

all_calm : All (λ (m : EventRecord). is_calm m.event ≡ true) history
all_calm = All-from_recursion (λ (m : EventRecord). is_calm m.event ≡ true) history
    (refl, (refl, (refl, (refl, (refl, (refl, (refl, (refl, (refl, tt)))))))))

calm : (h : List EventRecord) → All (λ (m : EventRecord). is_calm m.event ≡ true) h
    → (k : ℕ) (event : EventValue) → IsDone h k event → is_calm event ≡ true
calm h all k event done =
    all_at (λ (m : EventRecord). is_calm m.event ≡ true) h k
    (record_of event done.reply done.occurs.net) all done.occurs.there

after_two : net_8.moment ≡ 1000
after_two = same_moment net_6 0 2 2

after_three : net_9.moment ≡ 1000
after_three = same_moment net_6 0 3 3

none_left : (net : NetValue) (k : ℕ) → net_after net (take k []) ≡ net
none_left net zero = refl
none_left net (suc k) = refl

in_time : (k : ℕ) → 2 * (net_at net_0 history k).moment ≤ 45200
in_time zero = omega arith
in_time (suc zero) = omega arith
in_time (suc (suc zero)) = omega arith
in_time (suc (suc (suc zero))) = omega arith
in_time (suc (suc (suc (suc zero)))) = omega arith
in_time (suc (suc (suc (suc (suc zero))))) = omega arith
in_time (suc (suc (suc (suc (suc (suc zero)))))) = omega arith
in_time (suc (suc (suc (suc (suc (suc (suc zero))))))) = omega arith
in_time (suc (suc (suc (suc (suc (suc (suc (suc zero)))))))) = omega (arith, after_two)
in_time (suc (suc (suc (suc (suc (suc (suc (suc (suc k))))))))) =
    (let e = ap (λ (net : NetValue). net.moment) (none_left net_9 k)
    ∙ after_three in omega (arith, e))

issued : (h : List EventRecord) → IsRun row h → (net_at net_0 h 5).segments ≡ segment ∷ []
    → AreIssuedFrom net_0 h 0 5 pieces
issued h its stored =
    let P : PieceValue → Type 0 = λ one. (first last : ℕ) × ((0 ≤ first) × ((last < 5)
    × IssuedIn net_0 h first last one.segment)) in
    let own = subst (All (IssuedBefore net_0 h 5)) stored (its.issued 5) 0 segment (omega arith) in
    All-cons P piece [] (own.0, own.1, (omega arith, (own.2, own.3))) (All-nil P)

quiet_in : (h : List EventRecord) → IsRun row h → (net_at net_0 h 5).segments ≡ segment ∷ []
    → All (λ (m : EventRecord). is_calm m.event ≡ true) h
    → ((k : ℕ) → 2 * (net_at net_0 h k).moment ≤ 45200) → Undisturbed net_0 h 5 0 pieces
quiet_in h its stored all times = record {
  kept = record {
    begin = 0;
    issued = issued h its stored;
    keys = λ i j ia key other low order first second.
        (let c = calm h all i (RotateKey ia key) first in absurd cc);
    links = λ k ia number low cut. (let c = calm h all k (CutLink ia number) cut in absurd cc);
  };
  unaltered = λ k at change done. (let c = calm h all k (Alter 0 at change) done in absurd cc);
  unlost = λ k done. (let c = calm h all k (Lose 0) done in absurd cc);
  expiry = 45200;
  least = least;
  in_time = λ k done. times k;
}

pub quiet : Undisturbed net_0 history 5 0 pieces
quiet = quiet_in history run refl all_calm in_time

-- and so after the first events
shorter : (k n : ℕ) (h : List EventRecord) → (j : ℕ) × (take k (take n h) ≡ take j h)
shorter zero n h = (0, refl)
shorter (suc k) zero h = (0, refl)
shorter (suc k) (suc n) [] = (0, refl)
shorter (suc k) (suc n) (m ∷ h) = let r =
    shorter k n h in (suc r.0, ap (λ (xs : List EventRecord). m ∷ xs) r.1)

in_time_of : (n k : ℕ) → 2 * (net_at net_0 (take n history) k).moment ≤ 45200
in_time_of n k =
    let r = shorter k n history in
    subst (λ h. 2 * (net_after net_0 h).moment ≤ 45200) (sym r.1) (in_time r.0)

run_7 : IsRun row (take 7 history)
run_7 = is_run row (take 7 history) network_is (
  (refl, refl),
  (
    begin_step,
    (
      extend_step,
      (end_step, (ask_step, (send_step, (leads net_6 (turns net_6 0), tt)))),
    ),
  ),
)
    (All-take (λ (m : EventRecord). IsFramed m.event m.reply m.net) 7 history framed)

run_8 : IsRun row (take 8 history)
run_8 = is_run row (take 8 history) network_is (
  (refl, refl),
  (
    begin_step,
    (
      extend_step,
      (
        end_step,
        (
          ask_step,
          (
            send_step,
            (
              leads net_6 (turns net_6 0),
              (leads net_7 (turns net_7 0), tt),
            ),
          ),
        ),
      ),
    ),
  ),
)
    (All-take (λ (m : EventRecord). IsFramed m.event m.reply m.net) 8 history framed)

quiet_7 : Undisturbed net_0 (take 7 history) 5 0 pieces
quiet_7 = quiet_in (take 7 history) run_7 refl
    (All-take (λ (m : EventRecord). is_calm m.event ≡ true) 7 history all_calm) (in_time_of 7)

quiet_8 : Undisturbed net_0 (take 8 history) 5 0 pieces
quiet_8 = quiet_in (take 8 history) run_8 refl
    (All-take (λ (m : EventRecord). is_calm m.event ≡ true) 8 history all_calm) (in_time_of 8)

-- ---- so it arrives

headline : Headline net_0 history 5 0 shipment
headline =
    let d = run.delivered 5 0 (ByAnswer 0 0) hi sends in
    subst (λ s. Headline net_0 history 5 0 s) (sym (same_ok shipment d.0 d.1.0)) d.1.1

-- a turn of a packet that is at a router is done
turn_done : (net : NetValue) (one : PacketValue) (stop : RouterStop)
    → slice_get net.packets 0 ≡ Some one
    → one.packet.place ≡ places.AtRouter stop → is_done (reply_of (turns net 0)) ≡ true
turn_done net one stop there at = rw there (rw at refl)

all_done : All (λ (m : EventRecord). is_done m.reply ≡ true) history
all_done =
    let a = headline.forwarded 7 (omega arith) quiet_7 in
    let b = headline.forwarded 8 (omega arith) quiet_8 in
    let first : 1 < turns_for row (walk_of pieces) = omega (arith, total) in
    let second : 2 < turns_for row (walk_of pieces) = omega (arith, total) in
    let one = a.waits first in
    let two = b.waits second in
    All-from_recursion (λ (m : EventRecord). is_done m.reply ≡ true) history (
      refl,
      (
        refl,
        (
          refl,
          (
            refl,
            (
              refl,
              (
                refl,
                (
                  refl,
                  (
                    turn_done net_7 a.packet one.0 a.there one.1,
                    (turn_done net_8 b.packet two.0 b.there two.1, tt),
                  ),
                ),
              ),
            ),
          ),
        ),
      ),
    )

not_yet : (one : PacketValue) → slice_get (net_at net_0 history 8).packets 0 ≡ Some one
    → one.packet.place ≡ places.Delivered → ⊥
not_yet one there delivered =
    let b = headline.forwarded 8 (omega arith) quiet_8 in
    let two = b.waits (omega (arith, total)) in
    let same = same_Some b.packet one (sym b.there ∙ there) in
    let place = sym two.1 ∙ ap (λ (x : PacketValue). x.packet.place) same ∙ delivered in
    absurd cc

pub arrives : Arrives
arrives =
    let f = headline.forwarded 9 (omega arith) quiet in
    let enough : turns_for row (walk_of pieces) ≤ 3 = omega (arith, total) in
    record {
      history = history;
      of = refl;
      run = run;
      done = all_done;
      sends = sends;
      sent = shipment;
      by = refl;
      quiet = quiet;
      not_yet = not_yet;
      packet = f.packet;
      there = f.there;
      delivered = f.exact.1 enough;
    }

pub arrives_history : arrives.history ≡ history
unfolding arrives
arrives_history = refl
