-- A beaconing: none of any event, one event more, and the run that it is.
use Rattle.std.proofs.Common.{arith, ◌≡◌, ℕ, true, false, List, [], ◌∷◌, ◌++◌, All, Option, Some, refl, sym, ap, ◌∙◌, subst, inl, inr}
use Rattle.std.specs.Prelude.{nat_le, nat_lt, ◌^◌, option_map, Ok}
use Rattle.std.proofs.lemmas.Bool.{cases_Bool}
use Rattle.std.proofs.lemmas.Bool.Decides.{nat_tests}
use Rattle.refusal.specs.Refusal.{◌>>=◌, check}
use Rattle.std.proofs.lemmas.List.{map-append}
use Rattle.std.proofs.lemmas.List.Elements.{All-nil, All-cons, All-push}
use Rattle.scion_topology.specs.Network.{Network}
use Rattle.network_core.specs.declared.fault.EventFault.TheVariants as faults
use Rattle.network_core.specs.declared.reply.Reply.{Reply}
use Rattle.network_core.specs.declared.reply.Reply.TheVariants.{Done}
use Rattle.network_core.specs.declared.reply.Reply.TheVariants as replies
use Rattle.network_core.specs.Event.{EventValue, Tick}
use Rattle.network_core.specs.Value.{NetValue, new_net}
use Rattle.network_core.specs.Step.{Leads, Step, ticks}
use Rattle.network_core.specs.History.{EventRecord, IsHistory, net_after}
use Rattle.network_core.specs.Delivery.{IsFramed}
use Rattle.beacon_lines.specs.declared.event.BeaconEvent.{BeaconEvent}
use Rattle.beacon_lines.specs.declared.event.BeaconEvent.TheVariants as events
use Rattle.beacon_lines.specs.declared.event.Effect.{Effect}
use Rattle.beacon_lines.specs.Beaconing.{IsBeaconing, IsOfBeaconing, StaysStored, brings_new, network_event}
use Rattle.beacon_lines.specs.inner.Events.{Happens, effect_of, is_new}
use Rattle.beacon_lines.specs.inner.Search.{begun_net}
use Rattle.beacon_lines.proofs.Growing.{done_of, grows, stays, unchanged}

-- the first event sets the second, and is not refused
no_earlier : (now : ℕ) → nat_le 0 now ≡ true
no_earlier now = grind (arith, nat_tests)

ticked : (network : Network) (now : ℕ)
    → ticks (new_net network) now ≡ Ok (Done, record (new_net network) { moment = now })
ticked network now =
    ap (λ ahead. check ahead faults.TimeBack >>= λ _.
    Ok (Done, record (new_net network) { moment = now })) (no_earlier now)

led_by_tick : (network : Network) (now : ℕ) (reply : Reply) (net : NetValue)
    → Step (new_net network) (Tick now) reply net
    → (reply ≡ Done) × (net ≡ record (new_net network) { moment = now })
led_by_tick network now reply net step =
    subst (λ made. Leads made (new_net network) reply net) (ticked network now) step

pub begins : (network : Network) (now : ℕ) (reply : Reply) (net : NetValue)
    → Step (new_net network) (Tick now) reply net → IsFramed (Tick now) reply net
    → IsBeaconing network now [] net
begins network now reply net step framed =
    let m : EventRecord = record { event = Tick now; reply = reply; net = net } in
    record {
      history = m ∷ [];
      is = (step, tt);
      framed = All-cons (λ (x : EventRecord). IsFramed x.event x.reply x.net) m [] framed
          (All-nil (λ (x : EventRecord). IsFramed x.event x.reply x.net));
      of = refl;
      ends = refl;
      done = All-cons (λ (x : EventRecord). brings_new x.reply ≡ true) m []
          (ap brings_new (led_by_tick network now reply net step).0)
          (All-nil (λ (x : EventRecord). brings_new x.reply ≡ true));
      own = All-nil IsOfBeaconing;
      stored = All-nil (StaysStored net);
    }

-- the topology is that of the new network
pub begun_network : (network : Network) (now : ℕ) (reply : Reply) (net : NetValue)
    → Step (new_net network) (Tick now) reply net → net.network ≡ network
begun_network network now reply net step =
    ap (λ (n : NetValue). n.network) (led_by_tick network now reply net step).1

history_more : (start : NetValue) (history : List EventRecord) (m : EventRecord)
    → IsHistory start history
    → Step (net_after start history) m.event m.reply m.net → IsHistory start (history ++ m ∷ [])
history_more start [] m is step = (step, tt)
history_more start (x ∷ history) m is step = (is.0, history_more x.net history m is.1 step)

net_more : (start : NetValue) (history : List EventRecord) (m : EventRecord)
    → net_after start (history ++ m ∷ []) ≡ m.net
net_more start [] m = refl
net_more start (x ∷ history) m = net_more x.net history m

pub goes_on : (network : Network) (now : ℕ) (events : List EventValue) (net new : NetValue)
    (event : EventValue) (reply : Reply)
    → IsBeaconing network now events net → Step net event reply new → IsFramed event reply new
    → brings_new reply ≡ true
    → IsOfBeaconing event → IsBeaconing network now (events ++ event ∷ []) new
goes_on network now events net new event reply b step framed done own =
    let m : EventRecord = record { event = event; reply = reply; net = new } in
    let start = new_net network in
    let facts = grows net new event reply own step (done_of reply done) in
    let still : All (StaysStored new) events =
    λ k d within. stays net new facts.0 _ (b.stored k d within) in
    record {
      history = b.history ++ m ∷ [];
      is = history_more start b.history m b.is
          (subst (λ (n : NetValue). Step n event reply new) (sym b.ends) step);
      framed = All-push (λ (x : EventRecord). IsFramed x.event x.reply x.net) b.history m b.framed
          framed;
      of = map-append (λ (x : EventRecord). x.event) b.history (m ∷ [])
          ∙ ap (λ es. es ++ event ∷ []) b.of;
      ends = net_more start b.history m;
      done = All-push (λ (x : EventRecord). brings_new x.reply ≡ true) b.history m b.done done;
      own = All-push IsOfBeaconing events event b.own own;
      stored = All-push (StaysStored new) events event still facts.1;
    }

pub same_network : (net new : NetValue) (event : EventValue) (reply : Reply) → IsOfBeaconing event
    → Step net event reply new
    → brings_new reply ≡ true → new.network ≡ net.network
same_network net new event reply own step done =
    (grows net new event reply own step (done_of reply done)).0.network

-- the same, from the topology that the network has
pub next : (net new : NetValue) (now : ℕ) (events : List EventValue) (event : EventValue)
    (reply : Reply)
    → IsBeaconing net.network now events net → Step net event reply new → IsFramed event reply new
    → brings_new reply ≡ true
    → IsOfBeaconing event → IsBeaconing new.network now (events ++ event ∷ []) new
next net new now events event reply b step framed done own =
    subst (λ n. IsBeaconing n now (events ++ event ∷ []) new)
    (sym (same_network net new event reply own step done))
    (goes_on net.network now events net new event reply b step framed done own)

pub is_own : (event : BeaconEvent) → IsOfBeaconing (network_event event)
is_own (events.Originate ia egress beta0) = tt
is_own (events.Extend beacon ia egress) = tt
is_own (events.Terminate beacon ia) = tt

-- what is mapped to something
pub image_is : {A B : Type 0} (f : A → B) (found : Option A) (one : A) (image : B)
    → found ≡ Some one
    → option_map f found ≡ Some image → f one ≡ image
image_is f found one image is mapped = (let same = sym (ap (option_map f) is) ∙ mapped in cc)

-- an effect is new where its reply brings something new
pub new_effect : (reply : Reply) → is_new (effect_of reply) ≡ brings_new reply
new_effect (replies.Refused fault) = refl
new_effect (replies.Registered new) = refl
new_effect (replies.Begun beacon) = elim (cases_Bool (nat_lt beacon (2 ^ 32))) [
  | inl small ↦ rw small refl
  | inr large ↦ rw large refl
]
new_effect replies.Done = refl
new_effect (replies.Swept count) = refl
new_effect (replies.Answered answer) = refl
new_effect (replies.Sent packet) = refl
new_effect (replies.Turned turn) = refl

-- the network of a new run
pub begun_as : (n : Network) (now : ℕ) (reply : Reply) (net : NetValue)
    → Step (new_net n) (Tick now) reply net → net ≡ begun_net n now
begun_as n now reply net step = (led_by_tick n now reply net step).1

-- an event that brings nothing new leaves the run as it was
pub stays_as : (net new : NetValue) (now : ℕ) (events : List EventValue) (event : BeaconEvent)
    (effect : Effect)
    → IsBeaconing net.network now events net → Happens net event effect new → is_new effect ≡ false
    → IsBeaconing new.network now events new
stays_as net new now events event effect b happens none =
    let brings : brings_new happens.reply ≡ false = sym (new_effect happens.reply)
    ∙ (ap is_new (sym happens.says) ∙ none) in
    let kept : new ≡ net = unchanged net new (network_event event) happens.reply (is_own event)
    happens.step brings in
    subst (λ (n : NetValue). IsBeaconing n.network now events n) (sym kept) b

-- an event that brings something new goes on
pub goes_as : (net new : NetValue) (now : ℕ) (events : List EventValue) (event : BeaconEvent)
    (effect : Effect)
    → IsBeaconing net.network now events net → (happens : Happens net event effect new)
    → IsFramed (network_event event) happens.reply new → is_new effect ≡ true
    → IsBeaconing new.network now (events ++ network_event event ∷ []) new
goes_as net new now events event effect b happens framed new_is =
    let brings : brings_new happens.reply ≡ true = sym (new_effect happens.reply)
    ∙ (ap is_new (sym happens.says) ∙ new_is) in
    next net new now events (network_event event) happens.reply b happens.step framed brings
    (is_own event)
