-- What an event of a beaconing does: beacons and segments stay, and a segment that it ends is
-- stored.
use Rattle.std.proofs.Common.{◌≡◌, ℕ, zero, suc, Bool, true, false, List, [], ◌∷◌, ◌++◌, Contains, Option, Some, Result, Ok, Err, refl, sym, ap, ◌∙◌, subst, arith}
use Rattle.std.specs.Prelude.{slice_get, ok_or}
use Rattle.std.proofs.lemmas.Bool.{lt-ltb, ltb-true}
use Rattle.std.proofs.lemmas.List.{length_push}
use Rattle.std.proofs.lemmas.List.Elements.{Contains-append_right}
use Rattle.refusal.specs.Refusal.{◌>>=◌, check, refused_as}
use Rattle.refusal.proofs.Steps.{ok_is, ok_or_ok}
use Rattle.scion_topology.specs.Network.{Network}
use Rattle.path_segment.specs.Chain.{Chain}
use Rattle.beaconing.specs.Calls.{terminated_beacon, originated_beacon, extended_beacon}
use Rattle.path_server.specs.declared.fault.StoreFault.{StoreFault}
use Rattle.path_server.specs.Store.{answer_to, with_registered, with_new, IsRegisterAnswer}
use Rattle.path_server.proofs.Plain.{answer_is_plain, Contains-registered_kept}
use Rattle.network_core.specs.declared.fault.EventFault.TheVariants as faults
use Rattle.network_core.specs.declared.reply.Reply.{Reply}
use Rattle.network_core.specs.declared.reply.Reply.TheVariants.{Done}
use Rattle.network_core.specs.Event.{EventValue, Originate, Extend, Terminate}
use Rattle.network_core.specs.Value.{NetValue}
use Rattle.network_core.specs.Step.{Made, has_room, with_beacon, with_segment, beacon_at, new_segment, originates, extends, terminates, Leads, Step}
use Rattle.network_core.specs.Delivery.{is_done}
use Rattle.network_core.proofs.Effects.{both_done, done_below}
use Rattle.network_core.specs.declared.reply.Reply.TheVariants as replies
use Rattle.beacon_lines.specs.Beaconing.{IsOfBeaconing, StaysStored, brings_new}
use Rattle.beacon_lines.specs.inner.Growth.{Grows}

pub still_there : {X : Type 0} (xs ys : List X) (k : ℕ) (x : X) → slice_get xs k ≡ Some x
    → slice_get (xs ++ ys) k ≡ Some x
still_there [] ys k x is = absurd cc
still_there (y ∷ xs) ys zero x is = is
still_there (y ∷ xs) ys (suc k) x is = still_there xs ys k x is

-- an event that is done leads to what it made
led : (made : Made) (old : NetValue) (reply : Reply) (new : NetValue) → Leads made old reply new
    → is_done reply ≡ true
    → (x : Reply × NetValue) × ((made ≡ Ok x) × (new ≡ x.1))
led (Ok x) old reply new is done = (x, (refl, is.1))
led (Err fault) old reply new is done = absurd
    (let refused : is_done reply ≡ false = ap is_done is.0 in cc)

-- where there is room for one more beacon, there was before the last one
pub room_before : (beacons : List Chain) (chain : Chain) → has_room (beacons ++ chain ∷ []) ≡ true
    → has_room beacons ≡ true
room_before beacons chain free =
    let longer = length_push beacons chain in
    let few = ltb-true _ _ free in
    lt-ltb _ _ (omega arith)

-- one more beacon
adds : (old new : NetValue) (chain : Chain) (x : Reply × NetValue) → with_beacon old chain ≡ Ok x
    → new ≡ x.1
    → Grows old new
adds old new chain x made is =
    let inner = both_done (check (has_room old.beacons) faults.TooMany) _ x made in
    let more : new ≡ record old { beacons = old.beacons ++ chain ∷ [] } =
    is ∙ ap (λ (p : Reply × NetValue). p.1) (sym (ok_is _ x inner.1.1)) in
    record {
      network = ap (λ (n : NetValue). n.network) more;
      moment = ap (λ (n : NetValue). n.moment) more;
      beacons = λ number other there. ap (λ (n : NetValue). slice_get n.beacons number) more
          ∙ still_there old.beacons (chain ∷ []) number other there;
      room = λ free. room_before old.beacons chain
          (sym (ap (λ (n : NetValue). has_room n.beacons) more) ∙ free);
      segments = λ segment there. subst (λ (n : NetValue). Contains n.segments segment) (sym more)
          there;
    }

-- a segment that is registered is in the store
with_itself : (answer : Result Bool StoreFault) (is_new : Bool) (segments : List Chain)
    (segment : Chain) (now : ℕ)
    → answer ≡ Ok is_new → IsRegisterAnswer segments segment now answer
    → Contains (with_new answer segments segment) segment
with_itself (Ok true) is_new segments segment now is plain =
    Contains-append_right segments (segment ∷ []) segment (0, omega arith, refl)
with_itself (Ok false) is_new segments segment now is plain = plain.1
with_itself (Err fault) is_new segments segment now is plain = absurd cc

pub has_itself : (segments : List Chain) (segment : Chain) (now : ℕ) (is_new : Bool)
    → answer_to segments segment now ≡ Ok is_new
    → Contains (with_registered segments segment now) segment
unfolding with_registered
has_itself segments segment now is_new is =
    with_itself (answer_to segments segment now) is_new segments segment now is
    (answer_is_plain segments segment now)

-- what a beacon becomes stays
ended_same : (old new : NetValue) (beacon ia : ℕ) (segment : Chain) → Grows old new
    → new_segment old beacon ia ≡ Ok segment
    → new_segment new beacon ia ≡ Ok segment
ended_same old new beacon ia segment grows is =
    let was = both_done (beacon_at old beacon) _ segment is in
    let here = grows.beacons beacon was.0
    (ok_or_ok (slice_get old.beacons beacon) faults.NoBeacon was.0 was.1.0) in
    ap (λ (o : Option Chain). ok_or o faults.NoBeacon >>= λ chain. refused_as faults.Beacon
    (terminated_beacon new.network chain ia)) here
    ∙ ap (λ (n : Network). refused_as faults.Beacon (terminated_beacon n was.0 ia)) grows.network
    ∙ was.1.1

pub stays : (old new : NetValue) → Grows old new → (event : EventValue) → StaysStored old event
    → StaysStored new event
stays old new grows (Terminate beacon ia) (segment, (is, there)) =
    (segment, (ended_same old new beacon ia segment grows is, grows.segments segment there))
stays old new grows event stored = tt

-- an end of a beacon
ends : (old new : NetValue) (beacon ia : ℕ) (x : Reply × NetValue) → terminates old beacon ia ≡ Ok x
    → new ≡ x.1
    → Grows old new × StaysStored new (Terminate beacon ia)
ends old new beacon ia x made is =
    let outer = both_done (new_segment old beacon ia) (with_segment old) x made in
    let segment = outer.0 in
    let inner = both_done (refused_as faults.Store (answer_to old.segments segment old.moment)) _ x
    outer.1.1 in
    let answer = done_below faults.Store (answer_to old.segments segment old.moment) inner.0
    inner.1.0 in
    let more : new ≡ record old { segments = with_registered old.segments segment old.moment } =
    is ∙ ap (λ (p : Reply × NetValue). p.1) (sym (ok_is _ x inner.1.1)) in
    let grows : Grows old new = record {
      network = ap (λ (n : NetValue). n.network) more;
      moment = ap (λ (n : NetValue). n.moment) more;
      beacons = λ number chain there. ap (λ (n : NetValue). slice_get n.beacons number) more
          ∙ there;
      room = λ free. sym (ap (λ (n : NetValue). has_room n.beacons) more) ∙ free;
      segments = λ other there. subst (λ (n : NetValue). Contains n.segments other) (sym more)
          (Contains-registered_kept old.segments segment old.moment other there);
    } in (
      grows,
      (
        segment,
        (
          ended_same old new beacon ia segment grows outer.1.0,
          subst (λ (n : NetValue). Contains n.segments segment) (sym more)
              (has_itself old.segments segment old.moment inner.0 answer),
        ),
      ),
    )

pub grows : (old new : NetValue) (event : EventValue) (reply : Reply) → IsOfBeaconing event
    → Step old event reply new → is_done reply ≡ true
    → Grows old new × StaysStored new event
grows old new (Originate ia egress beta) reply own is done =
    let made = led (originates old ia egress beta) old reply new is done in
    let inner = both_done (refused_as faults.Beacon
    (originated_beacon old.network ia egress old.moment beta)) (with_beacon old) made.0
    made.1.0 in
    (adds old new inner.0 made.0 inner.1.1 made.1.1, tt)
grows old new (Extend beacon ia egress) reply own is done =
    let made = led (extends old beacon ia egress) old reply new is done in
    let inner = both_done (beacon_at old beacon >>= λ from. refused_as faults.Beacon
    (extended_beacon old.network from ia egress)) (with_beacon old) made.0 made.1.0 in
    (adds old new inner.0 made.0 inner.1.1 made.1.1, tt)
grows old new (Terminate beacon ia) reply own is done =
    let made = led (terminates old beacon ia) old reply new is done in
    ends old new beacon ia made.0 made.1.0 made.1.1
grows old new event reply own is done = absurd own

-- what brings something new was done
pub done_of : (reply : Reply) → brings_new reply ≡ true → is_done reply ≡ true
done_of (replies.Registered is_new) new = refl
done_of reply new = new

-- an event of a beaconing that brings nothing new changes nothing
unled : (made : Made) (old : NetValue) (reply : Reply) (new : NetValue) → Leads made old reply new
    → brings_new reply ≡ false
    → ((x : Reply × NetValue) → made ≡ Ok x → brings_new x.0 ≡ true) → new ≡ old
unled (Ok x) old reply new is none made = absurd (let done = ap brings_new is.0 ∙ made x refl in cc)
unled (Err fault) old reply new is none made = is.1

begun_new : (net : NetValue) (chain : Chain) (x : Reply × NetValue) → with_beacon net chain ≡ Ok x
    → brings_new x.0 ≡ true
begun_new net chain x made =
    let inner = both_done (check (has_room net.beacons) faults.TooMany) _ x made in
    ap (λ (p : Reply × NetValue). brings_new p.0) (sym (ok_is _ x inner.1.1))

known_same : (segments : List Chain) (segment : Chain) (now : ℕ) → answer_to segments segment now
    ≡ Ok false
    → with_registered segments segment now ≡ segments
unfolding with_registered
known_same segments segment now is = ap
    (λ (a : Result Bool StoreFault). with_new a segments segment) is

-- the end of a beacon whose segment is stored already
ends_same : (old new : NetValue) (beacon ia : ℕ) (x : Reply × NetValue) → terminates old beacon ia
    ≡ Ok x → new ≡ x.1
    → brings_new x.0 ≡ false → new ≡ old
ends_same old new beacon ia x made is none =
    let outer = both_done (new_segment old beacon ia) (with_segment old) x made in
    let segment = outer.0 in
    let inner = both_done (refused_as faults.Store (answer_to old.segments segment old.moment)) _ x
    outer.1.1 in
    let pair = ok_is _ x inner.1.1 in
    let known : inner.0 ≡ false = ap (λ (p : Reply × NetValue). brings_new p.0) pair ∙ none in
    let answer : answer_to old.segments segment old.moment ≡ Ok false =
    done_below faults.Store (answer_to old.segments segment old.moment) inner.0 inner.1.0 ∙ ap
    (λ (b : Bool). Ok b) known in
    is ∙ ap (λ (p : Reply × NetValue). p.1) (sym pair)
    ∙ ap (λ (s : List Chain). record old { segments = s })
    (known_same old.segments segment old.moment answer)

ends_none : (made : Made) (old : NetValue) (reply : Reply) (new : NetValue) → Leads made old reply
    new
    → brings_new reply ≡ false
    → ((x : Reply × NetValue) → made ≡ Ok x → new ≡ x.1 → brings_new x.0 ≡ false → new ≡ old) → new
    ≡ old
ends_none (Ok x) old reply new is none made = made x refl is.1 (sym (ap brings_new is.0) ∙ none)
ends_none (Err fault) old reply new is none made = is.1

pub unchanged : (old new : NetValue) (event : EventValue) (reply : Reply) → IsOfBeaconing event
    → Step old event reply new → brings_new reply ≡ false
    → new ≡ old
unchanged old new (Originate ia egress beta) reply own is none =
    unled (originates old ia egress beta) old reply new is none (λ x made.
    (let inner = both_done (refused_as faults.Beacon
    (originated_beacon old.network ia egress old.moment beta)) (with_beacon old) x made in
    begun_new old inner.0 x inner.1.1))
unchanged old new (Extend beacon ia egress) reply own is none =
    unled (extends old beacon ia egress) old reply new is none (λ x made.
    (let inner = both_done (beacon_at old beacon >>= λ from. refused_as faults.Beacon
    (extended_beacon old.network from ia egress)) (with_beacon old) x made in begun_new old
    inner.0 x inner.1.1))
unchanged old new (Terminate beacon ia) reply own is none =
    ends_none (terminates old beacon ia) old reply new is none
    (λ x made at known. ends_same old new beacon ia x made at known)
unchanged old new event reply own is none = absurd own
