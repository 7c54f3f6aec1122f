-- Every stored segment was issued by events of the history.
use Rattle.std.proofs.Common.{◌≡◌, ℕ, zero, suc, ◌+◌, ◌<◌, ◌⊎◌, Bool, true, false, List, [], ◌∷◌, ◌++◌, length, map, filter, Some, Result, Ok, Err, All, refl, sym, ap, ◌∙◌, subst, arith, inl, inr}
use Rattle.std.specs.Prelude.{slice_get}
use Rattle.std.specs.Option.{option_map_or}
use Rattle.std.proofs.lemmas.Bool.{cases_Bool}
use Rattle.std.proofs.lemmas.List.{map-append}
use Rattle.std.proofs.lemmas.List.Elements.{All-nil, All-cons, All-head, All-tail, All-push, All-weaker}
use Rattle.std.proofs.lemmas.Option.{same_Some}
use Rattle.scion_topology.specs.Topology.{IsNetwork}
use Rattle.path_segment.specs.Chain.{Chain}
use Rattle.path_segment.specs.Tests.{is_live}
use Rattle.beaconing.specs.Entry.{key_in}
use Rattle.beaconing.specs.Issued.{IsUnderWay, IsIssued}
use Rattle.beaconing.proofs.Made.{begun_under_way, passed_under_way, ended_issued}
use Rattle.path_server.specs.declared.fault.StoreFault.{StoreFault}
use Rattle.path_server.specs.Store.{answer_to, with_new, with_registered, live_segments}
use Rattle.network_core.specs.declared.reply.Reply.{Reply}
use Rattle.network_core.specs.declared.reply.Reply.TheVariants.{Begun, Registered}
use Rattle.network_core.specs.Event.{EventValue, Originate, Extend, Terminate}
use Rattle.network_core.specs.Value.{NetValue}
use Rattle.network_core.specs.History.{EventRecord, IsHistory, net_at, Occurs, PassOn, doer, key_then, IssuedIn, IssuedBefore}
use Rattle.network_core.proofs.Effects.{IsStart, IsPass, IsEnd, effect}
use Rattle.network_core.proofs.Numbers.{StepAt, becomes_at, event_or_none, network_at, under_on}

-- ---- the chain of events that gave a beacon

pub record IsPassed (start : NetValue) (history : List EventRecord) (k b : ℕ) (chain : Chain) : Type 0 where
  pub first : ℕ
  pub ia : ℕ
  pub egress : ℕ
  pub beta0 : ℕ
  pub begun : ℕ
  pub start_of : Occurs history first (Originate ia egress beta0) (Begun begun)
  pub between : List ℕ
  pub passed_on : PassOn history begun between b
  pub under : IsUnderWay (net_at start history k).network
      (map (key_then start history) (first ∷ between)) chain

pub occurs_at : (history : List EventRecord) (k : ℕ) (m : EventRecord) (event : EventValue) (reply : Reply)
    → slice_get history k ≡ Some m → m.event ≡ event → m.reply ≡ reply → Occurs history k event reply
occurs_at history k m event reply there event_is reply_is = record {
  net = m.net;
  there =
      there
      ∙ ap (λ e. Some (record { event = e; reply = m.reply; net = m.net })) event_is
      ∙ ap (λ r. Some (record { event = event; reply = r; net = m.net })) reply_is;
}

-- the key at the number of an event
pub key_is : (start : NetValue) (history : List EventRecord) (k : ℕ) (m : EventRecord) (ia : ℕ)
    → slice_get history k ≡ Some m → doer m.event ≡ ia
    → key_then start history k ≡ key_in (net_at start history k).network ia
key_is start history k m ia there of =
    ap (λ o. option_map_or (λ (x : EventRecord). key_in (net_at start history k).network (doer x.event)) o []) there
    ∙ ap (key_in (net_at start history k).network) of

pass_more : (history : List EventRecord) (between : List ℕ) (begun b k ia egress next : ℕ)
    → PassOn history begun between b → Occurs history k (Extend b ia egress) (Begun next)
    → PassOn history begun (between ++ k ∷ []) next
pass_more history [] begun b k ia egress next passes answers =
    (ia, egress, next, subst (λ x. Occurs history k (Extend x ia egress) (Begun next)) (sym passes) answers, refl)
pass_more history (j ∷ later) begun b k ia egress next passes answers =
    (passes.0, passes.1, passes.2, passes.3, pass_more history later passes.2 b k ia egress next passes.4 answers)

-- the last of a longer list, or one of the others
pub last_or : {X : Type 0} (xs : List X) (c : X) (b : ℕ) (chain : X) → slice_get (xs ++ c ∷ []) b ≡ Some chain
    → (slice_get xs b ≡ Some chain) ⊎ ((length xs ≡ b) × (c ≡ chain))
last_or [] c zero chain at = inr (refl, same_Some c chain at)
last_or [] c (suc b) chain at = absurd cc
last_or (x ∷ xs) c zero chain at = inl at
last_or (x ∷ xs) c (suc b) chain at = elim (last_or xs c b chain at) [
  | inl old ↦ inl old
  | inr new ↦ inr (ap suc new.0, new.1)
]

-- ---- what stays of a property of all stored segments

pub all_filter : (P : Chain → Type 0) (p : Chain → Bool) (xs : List Chain) → All P xs → All P (filter p xs)
all_filter P p [] all = all
all_filter P p (x ∷ xs) all = elim (cases_Bool (p x)) [
  | inl stays ↦ rw stays (All-cons P x (filter p xs) (All-head P x xs all) (all_filter P p xs (All-tail P x xs all)))
  | inr goes ↦ rw goes (all_filter P p xs (All-tail P x xs all))
]

all_swept : (P : Chain → Type 0) (segments : List Chain) (now : ℕ) → All P segments
    → All P (live_segments segments now)
unfolding live_segments
all_swept P segments now all = all_filter P (is_live now) segments all

all_with_new : (P : Chain → Type 0) (r : Result Bool StoreFault) (segments : List Chain) (s : Chain)
    → P s → All P segments → All P (with_new r segments s)
all_with_new P (Ok true) segments s new all = All-push P segments s all new
all_with_new P (Ok false) segments s new all = all
all_with_new P (Err fault) segments s new all = all

all_registered : (P : Chain → Type 0) (segments : List Chain) (s : Chain) (now : ℕ)
    → P s → All P segments → All P (with_registered segments s now)
unfolding with_registered
all_registered P segments s now new all = all_with_new P (answer_to segments s now) segments s new all

-- ---- in a history that begins with nothing made

module _ (start : NetValue) (history : List EventRecord) (is : IsHistory start history)
    (network : IsNetwork start.network) (no_beacons : start.beacons ≡ []) (no_segments : start.segments ≡ []) where
  abbrev at : ℕ → NetValue
  at k = net_at start history k

  abbrev AllPassed : ℕ → Type 0
  AllPassed k = (b : ℕ) (chain : Chain) → slice_get (at k).beacons b ≡ Some chain → IsPassed start history k b chain

  -- an event leaves the chain of a beacon as it was
  passed_still : (k b : ℕ) (m : EventRecord) (chain : Chain) → StepAt start history k m
      → IsPassed start history k b chain → IsPassed start history (k + 1) b chain
  passed_still k b m chain step p = record {
    first = p.first;
    ia = p.ia;
    egress = p.egress;
    beta0 = p.beta0;
    begun = p.begun;
    start_of = p.start_of;
    between = p.between;
    passed_on = p.passed_on;
    under = under_on (at k) (at (k + 1)) m.event m.reply
        (map (key_then start history) (p.first ∷ p.between)) chain step p.under;
  }

  started : (k : ℕ) (m : EventRecord) → slice_get history k ≡ Some m → StepAt start history k m
      → (s : IsStart (at k) m.event m.reply (at (k + 1)))
      → IsPassed start history (k + 1) (length (at k).beacons) s.chain
  started k m there step s =
      let key = key_is start history k m s.ia there (ap doer s.event_is) in
      let under =
      begun_under_way (at k).network s.ia s.egress (at k).moment s.beta0 s.chain (network_at start history k is network) s.made in
      record {
        first = k;
        ia = s.ia;
        egress = s.egress;
        beta0 = s.beta0;
        begun = length (at k).beacons;
        start_of = occurs_at history k m (Originate s.ia s.egress s.beta0)
            (Begun (length (at k).beacons)) there s.event_is s.reply_is;
        between = [];
        passed_on = refl;
        under = under_on (at k) (at (k + 1)) m.event m.reply (key_then start history k ∷ []) s.chain step
            (subst (λ x. IsUnderWay (at k).network (x ∷ []) s.chain) (sym key) under);
      }

  -- one key more
  keys_more : (k : ℕ) (first : ℕ) (between : List ℕ) (key : List ℕ) → key_then start history k ≡ key
      → map (key_then start history) (first ∷ between) ++ key ∷ []
      ≡ map (key_then start history) (first ∷ between ++ k ∷ [])
  keys_more k first between key of =
      ap (λ x. map (key_then start history) (first ∷ between) ++ x ∷ []) (sym of)
      ∙ sym (map-append (key_then start history) (first ∷ between) (k ∷ []))

  went_on : (k : ℕ) (m : EventRecord) → slice_get history k ≡ Some m → StepAt start history k m → AllPassed k
      → (s : IsPass (at k) m.event m.reply (at (k + 1)))
      → IsPassed start history (k + 1) (length (at k).beacons) s.chain
  went_on k m there step all s =
      let p = all s.beacon s.from s.was in
      let keys = map (key_then start history) (p.first ∷ p.between) in
      let answers =
      occurs_at history k m (Extend s.beacon s.ia s.egress) (Begun (length (at k).beacons)) there s.event_is s.reply_is in
      let key = key_is start history k m s.ia there (ap doer s.event_is) in
      let under =
      passed_under_way (at k).network keys s.from s.ia s.egress s.chain (network_at start history k is network) p.under s.made in
      let more = keys_more k p.first p.between (key_in (at k).network s.ia) key in
      record {
        first = p.first;
        ia = p.ia;
        egress = p.egress;
        beta0 = p.beta0;
        begun = p.begun;
        start_of = p.start_of;
        between = p.between ++ k ∷ [];
        passed_on = pass_more history p.between p.begun s.beacon k s.ia s.egress
            (length (at k).beacons) p.passed_on answers;
        under = under_on (at k) (at (k + 1)) m.event m.reply
            (map (key_then start history) (p.first ∷ p.between ++ k ∷ [])) s.chain step
            (subst (λ ks. IsUnderWay (at k).network ks s.chain) more under);
      }

  one_longer : (k : ℕ) (m : EventRecord) (c : Chain) → StepAt start history k m → AllPassed k
      → (at (k + 1)).beacons ≡ (at k).beacons ++ c ∷ []
      → IsPassed start history (k + 1) (length (at k).beacons) c → AllPassed (k + 1)
  one_longer k m c step all longer last b chain there =
      elim (last_or (at k).beacons c b chain (ap (λ bs. slice_get bs b) (sym longer) ∙ there)) [
        | inl old ↦ passed_still k b m chain step (all b chain old)
        | inr new ↦ subst (λ x. IsPassed start history (k + 1) b x) new.1
            (subst (λ x. IsPassed start history (k + 1) x c) new.0 last)
      ]

  no_longer : (k : ℕ) (m : EventRecord) → StepAt start history k m → AllPassed k
      → (at (k + 1)).beacons ≡ (at k).beacons → AllPassed (k + 1)
  no_longer k m step all same b chain there =
      passed_still k b m chain step (all b chain (ap (λ bs. slice_get bs b) (sym same) ∙ there))

  passed_next : (k : ℕ) (m : EventRecord) → slice_get history k ≡ Some m → AllPassed k → AllPassed (k + 1)
  passed_next k m there all =
      let step = becomes_at start history k m is there in
      elim (effect (at k) (at (k + 1)) m.event m.reply step).stores [
        | inl l ↦ no_longer k m step all l.0
        | inr some ↦ elim some [
          | inl s ↦ one_longer k m s.chain step all s.beacons (started k m there step s)
          | inr more ↦ elim more [
            | inl p ↦ one_longer k m p.chain step all p.beacons (went_on k m there step all p)
            | inr rest ↦ elim rest [
              | inl e ↦ no_longer k m step all e.beacons
              | inr w ↦ no_longer k m step all w.0
            ]
          ]
        ]
      ]

  none_at_first : (b : ℕ) (chain : Chain) → slice_get start.beacons b ≡ Some chain → ⊥
  none_at_first b chain there =
      let e : slice_get {X = Chain} [] b ≡ Some chain = ap (λ bs. slice_get bs b) (sym no_beacons) ∙ there in absurd cc

  unmoved : (k : ℕ) → at (k + 1) ≡ at k → AllPassed k → AllPassed (k + 1)
  unmoved k same all b chain there =
      let p = all b chain (ap (λ (net : NetValue). slice_get net.beacons b) (sym same) ∙ there) in
      record {
        first = p.first;
        ia = p.ia;
        egress = p.egress;
        beta0 = p.beta0;
        begun = p.begun;
        start_of = p.start_of;
        between = p.between;
        passed_on = p.passed_on;
        under = subst
            (λ (net : NetValue). IsUnderWay net.network (map (key_then start history) (p.first ∷ p.between)) chain)
            (sym same) p.under;
      }

  -- each beacon after the first k events was given by a chain of events
  pub passed_all : (k : ℕ) → AllPassed k
  passed_all zero = λ b chain there. absurd (none_at_first b chain there)
  passed_all (suc k) =
      let place : k + 1 ≡ suc k = omega arith in
      subst AllPassed place (elim (event_or_none start history k) [
        | inl some ↦ passed_next k some.0 some.1 (passed_all k)
        | inr none ↦ unmoved k none (passed_all k)
      ])

  -- ---- and each stored segment

  later_too : (k : ℕ) (segments : List Chain) → All (IssuedBefore start history k) segments
      → All (IssuedBefore start history (k + 1)) segments
  later_too k segments all = All-weaker (IssuedBefore start history k) (IssuedBefore start history (k + 1))
      (λ s i. (let before = i.2 in let more : i.1 < k + 1 = omega arith in (i.0, i.1, more, i.3))) segments all

  issued_there : (k : ℕ) (m : EventRecord) → slice_get history k ≡ Some m
      → (e : IsEnd (at k) m.event m.reply (at (k + 1))) → IssuedBefore start history (k + 1) e.chain
  issued_there k m there e =
      let p = passed_all k e.beacon e.from e.was in
      let keys = map (key_then start history) (p.first ∷ p.between) in
      let key = key_is start history k m e.ia there (ap doer e.event_is) in
      let made =
      ended_issued (at k).network keys e.from e.ia e.chain (network_at start history k is network) p.under e.made in
      let more = keys_more k p.first p.between (key_in (at k).network e.ia) key in
      let before : k < k + 1 = omega arith in
      let issued : IssuedIn start history p.first k e.chain = record {
        ia = p.ia;
        egress = p.egress;
        beta0 = p.beta0;
        begun = p.begun;
        start_of = p.start_of;
        between = p.between;
        beacon = e.beacon;
        passed_on = p.passed_on;
        at = e.ia;
        is_new = e.is_new;
        ended = occurs_at history k m (Terminate e.beacon e.ia) (Registered e.is_new) there e.event_is e.reply_is;
        chain = e.from;
        kept = e.was;
        gives = e.made;
        made = subst (λ ks. IsIssued (at k).network ks e.chain) more made;
      } in
      (p.first, k, before, issued)

  stored_next : (k : ℕ) (m : EventRecord) → slice_get history k ≡ Some m
      → All (IssuedBefore start history k) (at k).segments
      → All (IssuedBefore start history (k + 1)) (at (k + 1)).segments
  stored_next k m there all =
      let after = later_too k (at k).segments all in
      let P = IssuedBefore start history (k + 1) in
      elim (effect (at k) (at (k + 1)) m.event m.reply (becomes_at start history k m is there)).stores [
        | inl l ↦ subst (All P) (sym l.1) after
        | inr some ↦ elim some [
          | inl s ↦ subst (All P) (sym s.segments) after
          | inr more ↦ elim more [
            | inl p ↦ subst (All P) (sym p.segments) after
            | inr rest ↦ elim rest [
              | inl e ↦ subst (All P) (sym e.segments)
                  (all_registered P (at k).segments e.chain (at k).moment (issued_there k m there e) after)
              | inr w ↦ subst (All P) (sym w.1) (all_swept P (at k).segments (at k).moment after)
            ]
          ]
        ]
      ]

  pub stored_all : (k : ℕ) → All (IssuedBefore start history k) (at k).segments
  stored_all zero = subst (All (IssuedBefore start history 0)) (sym no_segments)
      (All-nil (IssuedBefore start history 0))
  stored_all (suc k) =
      let place : k + 1 ≡ suc k = omega arith in
      subst (λ j. All (IssuedBefore start history j) (at j).segments) place (elim (event_or_none start history k) [
        | inl some ↦ stored_next k some.0 some.1 (stored_all k)
        | inr none ↦ subst (λ (net : NetValue). All (IssuedBefore start history (k + 1)) net.segments) (sym none)
            (later_too k (at k).segments (stored_all k))
      ])
