-- A segment's chain of events, number by number: the beacon is under way, its keys are held and its
-- links up where the piece goes, and so it stays up to the chain's end and from there on.
use Rattle.std.proofs.Common.{◌≡◌, ℕ, ◌+◌, ◌<◌, ◌≤◌, ◌⊎◌, Bool, true, false, List, [], ◌∷◌, ◌++◌, length, map, Some, Result, Ok, Err, refl, sym, ap, ◌∙◌, subst, arith, inl, inr, append_assoc, append-nil, length-append}
use Rattle.std.specs.Prelude.{slice_get}
use Rattle.std.proofs.lemmas.Bool.{cases_lt}
use Rattle.std.proofs.lemmas.List.{map-append}
use Rattle.std.proofs.lemmas.Option.{same_Some, slice_get_within}
use Rattle.refusal.specs.Refusal.{◌>>=◌, check, refused_as}
use Rattle.refusal.proofs.Steps.{ok_or_ok}
use Rattle.scion_topology.specs.Topology.{IsNetwork, set_up}
use Rattle.path_segment.specs.declared.entry.Entry.{Entry}
use Rattle.path_segment.specs.Chain.{Chain, with_last}
use Rattle.path_verifier.specs.Piece.{PieceValue, HasRange}
use Rattle.beaconing.specs.Entry.{key_in}
use Rattle.beaconing.specs.Calls.{originated_beacon, extended_beacon}
use Rattle.beaconing.specs.Issued.{IsMade, IsUnderWay, IsIssued}
use Rattle.beaconing.proofs.Made.{extended_grows, terminated_grows, begun_under_way, passed_under_way}
use Rattle.beaconing.proofs.Outlasting.{segment_linked, segment_keyed}
use Rattle.forwarding.specs.Sound.{KeysAndLinksHold, KeyIsInUse, IsIssuedAndAccepted, AvoidsAs, AvoidsLink}
use Rattle.forwarding.proofs.Growing.{begun_holds, begun_in_use, passed_holds, passed_in_use, ended_holds, ended_in_use}
use Rattle.forwarding.proofs.Steady.{mended_holds, cut_holds, rotated_holds, renewed_holds, in_use_linked, in_use_keyed}
use Rattle.network_core.specs.declared.fault.EventFault.{EventFault}
use Rattle.network_core.specs.declared.fault.EventFault.TheVariants as faults
use Rattle.network_core.specs.declared.reply.Reply.{Reply}
use Rattle.network_core.specs.declared.reply.Reply.TheVariants as replies
use Rattle.network_core.specs.declared.reply.Reply.TheVariants.{Begun, Registered}
use Rattle.network_core.specs.Event.{EventValue, Originate, Extend, Terminate, CutLink, RotateKey}
use Rattle.network_core.specs.Value.{NetValue}
use Rattle.network_core.specs.Step.{Made, has_room, with_beacon, beacon_at, Leads, Step}
use Rattle.network_core.specs.History.{EventRecord, IsHistory, net_at, Occurs, PassOn, key_then, IssuedIn}
use Rattle.network_core.specs.Delivery.{is_done}
use Rattle.network_core.specs.Headline.{IsDone}
use Rattle.network_core.proofs.Effects.{effect, switching, done_below, both_done}
use Rattle.network_core.proofs.Numbers.{StepAt, becomes_at, network_at, under_on}
use Rattle.network_core.proofs.Keeping.{there_still}
use Rattle.network_core.proofs.Issuing.{key_is}
use Rattle.network_core.proofs.Rotating.{Unrotated, rotated_or, unrotated_before, done_at, kept_between}

-- ---- beacons stay where they are

pub record KeepsBeacons (old new : NetValue) : Type 0 where
  pub there : (b : ℕ) (chain : Chain) → slice_get old.beacons b ≡ Some chain
      → slice_get new.beacons b ≡ Some chain
  pub longer : length old.beacons ≤ length new.beacons

same_beacons : (old new : NetValue) → new.beacons ≡ old.beacons → KeepsBeacons old new
same_beacons old new same = record {
  there = λ b chain at. ap (λ bs. slice_get bs b) same ∙ at;
  longer = (let long = ap (λ (bs : List Chain). length bs) same in omega arith);
}

more_beacons : (old new : NetValue) (c : Chain) → new.beacons ≡ old.beacons ++ c ∷ []
    → KeepsBeacons old new
more_beacons old new c more = record {
  there = λ b chain at. ap (λ bs. slice_get bs b) more
      ∙ there_still old.beacons (c ∷ []) b (slice_get_within old.beacons b chain at) ∙ at;
  longer = (
      let long = ap (λ (bs : List Chain). length bs) more in
      let count = length-append old.beacons (c ∷ []) in omega arith);
}

beacons_step : (old new : NetValue) (event : EventValue) (reply : Reply) → Step old event reply new
    → KeepsBeacons old new
beacons_step old new event reply is = elim (effect old new event reply is).stores [
  | inl l ↦ same_beacons old new l.0
  | inr some ↦ elim some [
    | inl s ↦ more_beacons old new s.chain s.beacons
    | inr more ↦ elim more [
      | inl p ↦ more_beacons old new p.chain p.beacons
      | inr rest ↦ elim rest [
        | inl e ↦ same_beacons old new e.beacons
        | inr w ↦ same_beacons old new w.0
      ]
    ]
  ]
]

-- ---- what a done event of beaconing made

then_at : {A : Type 0} (old new : NetValue) (reply : Reply) (r : Result A EventFault) (f : A → Made)
    → Leads (r >>= f) old reply new
    → ((x : A) × ((r ≡ Ok x) × Leads (f x) old reply new)) ⊎ ((fault : EventFault) × (reply ≡ replies.Refused fault))
then_at old new reply (Ok x) f is = inl (x, (refl, is))
then_at old new reply (Err fault) f is = inr (fault, is.0)

begun_or : (n : ℕ) (fault : EventFault) → Begun n ≡ replies.Refused fault → ⊥
begun_or n fault e = cc

same_number : (n m : ℕ) → Begun n ≡ Begun m → n ≡ m
same_number n m e = cc

at_seam : (xs : List Chain) (c : Chain) → slice_get (xs ++ c ∷ []) (length xs) ≡ Some c
at_seam [] c = refl
at_seam (x ∷ xs) c = at_seam xs c

-- a beacon more, of this number
record HasMore (old new : NetValue) (number : ℕ) (c : Chain) : Type 0 where
  pub numbered : number ≡ length old.beacons
  pub there : slice_get new.beacons number ≡ Some c
  pub network : new.network ≡ old.network

has_more : (old new : NetValue) (n : ℕ) (c : Chain) → Leads (with_beacon old c) old (Begun n) new
    → HasMore old new n c
has_more old new n c is =
    elim (then_at old new (Begun n) (check (has_room old.beacons) faults.TooMany) _ is) [
      | inl done ↦ (
          let number = same_number n (length old.beacons) done.1.1.0 in
          record {
            numbered = number;
            there = ap (λ (net : NetValue). slice_get net.beacons n) done.1.1.1
                ∙ ap (slice_get (old.beacons ++ c ∷ [])) number ∙ at_seam old.beacons c;
            network = ap (λ (net : NetValue). net.network) done.1.1.1;
          })
      | inr none ↦ absurd (begun_or n none.0 none.1)
    ]

originate_made : (old new : NetValue) (ia egress beta0 n : ℕ)
    → Step old (Originate ia egress beta0) (Begun n) new
    → (c : Chain) × ((originated_beacon old.network ia egress old.moment beta0 ≡ Ok c) × HasMore old new n c)
originate_made old new ia egress beta0 n is =
    elim (then_at old new (Begun n) (refused_as faults.Beacon (originated_beacon old.network ia egress old.moment beta0)) (with_beacon old) is) [
      | inl made ↦ (
        made.0,
        (
          done_below faults.Beacon (originated_beacon old.network ia egress old.moment beta0) made.0 made.1.0,
          has_more old new n made.0 made.1.1,
        ),
      )
      | inr none ↦ absurd (begun_or n none.0 none.1)
    ]

-- a beacon that was there, passed on
record HasPassed (old new : NetValue) (beacon ia egress number : ℕ) : Type 0 where
  pub from : Chain
  pub was : slice_get old.beacons beacon ≡ Some from
  pub to : Chain
  pub made : extended_beacon old.network from ia egress ≡ Ok to
  pub more : HasMore old new number to

extend_made : (old new : NetValue) (beacon ia egress n : ℕ)
    → Step old (Extend beacon ia egress) (Begun n) new → HasPassed old new beacon ia egress n
extend_made old new beacon ia egress n is =
    elim (then_at old new (Begun n) (beacon_at old beacon >>= λ from. refused_as faults.Beacon (extended_beacon old.network from ia egress)) (with_beacon old) is) [
      | inl made ↦ (
          let was = both_done (beacon_at old beacon) _ made.0 made.1.0 in
          record {
            from = was.0;
            was = ok_or_ok (slice_get old.beacons beacon) faults.NoBeacon was.0 was.1.0;
            to = made.0;
            made = done_below faults.Beacon (extended_beacon old.network was.0 ia egress) made.0 was.1.1;
            more = has_more old new n made.0 made.1.1;
          })
      | inr none ↦ absurd (begun_or n none.0 none.1)
    ]

-- ---- entries

in_front : (xs rest ys : List Entry) (k : ℕ) (e : Entry) → xs ++ rest ≡ ys → slice_get xs k ≡ Some e
    → slice_get ys k ≡ Some e
in_front xs rest ys k e is at =
    ap (λ zs. slice_get zs k) (sym is) ∙ there_still xs rest k (slice_get_within xs k e at) ∙ at

-- the entries before begin what the whole begins
shorter : (b c : Chain) (e : Entry) (rest ys : List Entry) → c ≡ with_last b e
    → c.entries ++ rest ≡ ys → b.entries ++ (e ∷ rest) ≡ ys
shorter b c e rest ys is front =
    sym (append_assoc b.entries (e ∷ []) rest) ∙ ap (λ (x : Chain). x.entries ++ rest) (sym is) ∙ front

-- ---- along the chain

module _ (start : NetValue) (history : List EventRecord) (is : IsHistory start history)
    (network : IsNetwork start.network) (piece : PieceValue) (begin : ℕ)
    (once : (i j ia : ℕ) (key other : List ℕ) → begin ≤ i → i < j → IsDone history i (RotateKey ia key)
    → IsDone history j (RotateKey ia other) → AvoidsAs piece.segment piece.from piece.to ia)
    (uncut : (k ia number : ℕ) → begin ≤ k → IsDone history k (CutLink ia number)
    → AvoidsLink piece.segment piece.from piece.to ia number) where
  abbrev at : ℕ → NetValue
  at k = net_at start history k

  -- the chain begins what the piece's segment is
  abbrev Begins : Chain → Type 0
  Begins chain = (rest : List Entry) × (chain.entries ++ rest ≡ piece.segment.entries)

  -- where the piece goes, its keys are held and its links up, and an AS that has not taken another
  -- key since has the key in use
  record Good (k : ℕ) (keys : List (List ℕ)) (chain : Chain) : Type 0 where
    pub holds : KeysAndLinksHold (at k).network keys chain piece.from piece.to
    pub fresh : (x : ℕ) → Unrotated history begin k x
        → KeyIsInUse (at k).network keys chain piece.from piece.to x

  alone_there : (chain : Chain) (ia number : ℕ) → Begins chain
      → AvoidsLink piece.segment piece.from piece.to ia number
      → AvoidsLink chain piece.from piece.to ia number
  alone_there chain ia number front alone i entry next low high there then_there =
      alone i entry next low high
      (in_front chain.entries front.0 piece.segment.entries i entry front.1 there)
      (in_front chain.entries front.0 piece.segment.entries (i + 1) next front.1 then_there)

  past_there : (chain : Chain) (ia : ℕ) → Begins chain → AvoidsAs piece.segment piece.from piece.to ia
      → AvoidsAs chain piece.from piece.to ia
  past_there chain ia front past i entry low high there =
      past i entry low high (in_front chain.entries front.0 piece.segment.entries i entry front.1 there)

  -- a link of the piece is not cut
  switched_holds : (k : ℕ) (m : EventRecord) (keys : List (List ℕ)) (chain : Chain) → begin ≤ k
      → slice_get history k ≡ Some m → IsMade (at k).network keys chain → Begins chain
      → (up : Bool) (ia number : ℕ) → m.event ≡ switching up ia number → is_done m.reply ≡ true
      → set_up up ia number (at k).network ≡ Ok (at (k + 1)).network
      → KeysAndLinksHold (at k).network keys chain piece.from piece.to
      → KeysAndLinksHold (at (k + 1)).network keys chain piece.from piece.to
  switched_holds k m keys chain from there made front false ia number event_is done change holds =
      cut_holds (at k).network (at (k + 1)).network ia number keys chain piece.from piece.to
      (network_at start history k is network) made change
      (alone_there chain ia number front
      (uncut k ia number from (done_at history k m (CutLink ia number) there event_is done)))
      holds
  switched_holds k m keys chain from there made front true ia number event_is done change holds =
      mended_holds (at k).network (at (k + 1)).network ia number keys chain piece.from piece.to change holds

  -- an event that is done
  good_on : (k : ℕ) (m : EventRecord) (keys : List (List ℕ)) (chain : Chain) → begin ≤ k
      → slice_get history k ≡ Some m → StepAt start history k m → IsMade (at k).network keys chain
      → Begins chain → Good k keys chain → Good (k + 1) keys chain
  good_on k m keys chain from there step made front good =
      elim (effect (at k) (at (k + 1)) m.event m.reply step).network [
        | inl same ↦ record {
          holds = subst (λ n. KeysAndLinksHold n keys chain piece.from piece.to) (sym same) good.holds;
          fresh = λ x none. subst (λ n. KeyIsInUse n keys chain piece.from piece.to x) (sym same)
              (good.fresh x (unrotated_before history begin k x none));
        }
        | inr some ↦ elim some [
          | inl s ↦ record {
            holds = switched_holds k m keys chain from there made front s.up s.ia s.number s.event_is s.done s.change good.holds;
            fresh = λ x none. in_use_linked (at k).network (at (k + 1)).network s.up s.ia s.number keys chain
                piece.from piece.to x s.change (good.fresh x (unrotated_before history begin k x none));
          }
          | inr r ↦ (
              let d = done_at history k m (RotateKey r.ia r.key) there r.event_is r.done in
              record {
                holds = elim (rotated_or history begin r.ia k) [
                  | inl none ↦ renewed_holds (at k).network (at (k + 1)).network r.ia r.key keys chain
                      piece.from piece.to r.change (good.fresh r.ia none) good.holds
                  | inr before ↦ rotated_holds (at k).network (at (k + 1)).network r.ia r.key keys chain
                      piece.from piece.to r.change
                      (past_there chain r.ia front (once before.0 k r.ia before.1.0 r.key before.1.1.0 before.1.1.1.0 before.1.1.1.1 d))
                      good.holds
                ];
                fresh = λ x none. in_use_keyed (at k).network (at (k + 1)).network r.ia r.key keys chain
                    piece.from piece.to x r.change
                    (λ same. none k r.key from (omega arith)
                    (subst (λ y. IsDone history k (RotateKey y r.key)) same d))
                    (good.fresh x (unrotated_before history begin k x none));
              })
        ]
      ]

  good_idle : (k : ℕ) (keys : List (List ℕ)) (chain : Chain) → at (k + 1) ≡ at k → Good k keys chain
      → Good (k + 1) keys chain
  good_idle k keys chain same good = record {
    holds = subst (λ (net : NetValue). KeysAndLinksHold net.network keys chain piece.from piece.to)
        (sym same) good.holds;
    fresh = λ x none. subst (λ (net : NetValue). KeyIsInUse net.network keys chain piece.from piece.to x) (sym same)
        (good.fresh x (unrotated_before history begin k x none));
  }

  -- ---- a beacon of the chain

  record Stands (b : ℕ) (keys : List (List ℕ)) (k : ℕ) : Type 0 where
    pub chain : Chain
    pub there : slice_get (at k).beacons b ≡ Some chain
    pub under : IsUnderWay (at k).network keys chain
    pub good : Begins chain → Good k keys chain

  stands_to : (i j b : ℕ) (keys : List (List ℕ)) → i ≤ j → begin ≤ i → Stands b keys i → Stands b keys j
  stands_to i j b keys order from s =
      kept_between start history (Stands b keys) i j order is
      (λ k m low there step before. record {
        chain = before.chain;
        there = (beacons_step (at k) (at (k + 1)) m.event m.reply step).there b before.chain before.there;
        under = under_on (at k) (at (k + 1)) m.event m.reply keys before.chain step before.under;
        good = λ front. good_on k m keys before.chain (omega arith) there step before.under.made front (before.good front);
      })
      (λ k low same before. record {
        chain = before.chain;
        there = ap (λ (net : NetValue). slice_get net.beacons b) same ∙ before.there;
        under = subst (λ (net : NetValue). IsUnderWay net.network keys before.chain) (sym same) before.under;
        good = λ front. good_idle k keys before.chain same (before.good front);
      })
      s

  -- such a beacon, made by event number `made`
  record MadeAt (b : ℕ) (keys : List (List ℕ)) : Type 0 where
    pub made : ℕ
    pub from : begin ≤ made
    pub numbered : b ≡ length (at made).beacons
    pub stands : Stands b keys (made + 1)

  -- into the network that the event leaves, under the key of that number
  stand : (k b : ℕ) (c : Chain) (keys ks : List (List ℕ)) → HasMore (at k) (at (k + 1)) b c → keys ≡ ks
      → IsUnderWay (at k).network keys c
      → (Begins c → KeysAndLinksHold (at k).network keys c piece.from piece.to)
      → (Begins c → (x : ℕ) → Unrotated history begin k x → KeyIsInUse (at k).network keys c piece.from piece.to x)
      → Stands b ks (k + 1)
  stand k b c keys ks more same under holds fresh = record {
    chain = c;
    there = more.there;
    under = subst (λ n. IsUnderWay n ks c) (sym more.network) (subst (λ x. IsUnderWay (at k).network x c) same under);
    good = λ front. record {
      holds = subst (λ n. KeysAndLinksHold n ks c piece.from piece.to) (sym more.network)
          (subst (λ x. KeysAndLinksHold (at k).network x c piece.from piece.to) same (holds front));
      fresh = λ x none. subst (λ n. KeyIsInUse n ks c piece.from piece.to x) (sym more.network)
          (subst (λ y. KeyIsInUse (at k).network y c piece.from piece.to x) same
          (fresh front x (unrotated_before history begin k x none)));
    };
  }

  first_made : (first ia egress beta0 b : ℕ) → begin ≤ first
      → Occurs history first (Originate ia egress beta0) (Begun b)
      → MadeAt b (key_then start history first ∷ [])
  first_made first ia egress beta0 b from answers =
      let m : EventRecord = record { event = Originate ia egress beta0; reply = Begun b; net = answers.net } in
      let made =
      originate_made (at first) (at (first + 1)) ia egress beta0 b (becomes_at start history first m is answers.there) in
      let key = key_is start history first m ia answers.there refl in
      let now = network_at start history first is network in
      record {
        made = first;
        from = from;
        numbered = made.1.1.numbered;
        stands = stand first b made.0 (key_in (at first).network ia ∷ []) (key_then start history first ∷ []) made.1.1
            (ap (λ k. k ∷ []) (sym key))
            (begun_under_way (at first).network ia egress (at first).moment beta0 made.0 now made.1.0)
            (λ front. begun_holds (at first).network ia egress (at first).moment beta0 made.0 piece.from piece.to now made.1.0)
            (λ front x none. begun_in_use (at first).network ia egress (at first).moment beta0 made.0 piece.from piece.to x now made.1.0);
      }

  -- an event that finds a beacon comes after the one that made it
  beacons_grow : (i j : ℕ) → i ≤ j → length (at i).beacons ≤ length (at j).beacons
  beacons_grow i j order =
      kept_between start history (λ k. length (at i).beacons ≤ length (at k).beacons) i j order is
      (λ k m low there step before. (
      let longer = (beacons_step (at k) (at (k + 1)) m.event m.reply step).longer in omega arith))
      (λ k low same before. subst (λ (net : NetValue). length (at i).beacons ≤ length net.beacons) (sym same) before)
      (omega arith)

  after_made : (made k b : ℕ) (chain : Chain) → b ≡ length (at made).beacons
      → slice_get (at k).beacons b ≡ Some chain → made < k
  after_made made k b chain numbered there = elim (cases_lt made k) [
    | inl after ↦ after
    | inr before ↦ absurd (
        let grow = beacons_grow k made before in
        let within = slice_get_within (at k).beacons b chain there in omega arith)
  ]

  next_made : (k b ia egress next : ℕ) (keys : List (List ℕ)) → MadeAt b keys
      → Occurs history k (Extend b ia egress) (Begun next)
      → MadeAt next (keys ++ key_then start history k ∷ [])
  next_made k b ia egress next keys before answers =
      let m : EventRecord = record { event = Extend b ia egress; reply = Begun next; net = answers.net } in
      let passed = extend_made (at k) (at (k + 1)) b ia egress next (becomes_at start history k m is answers.there) in
      let after = after_made before.made k b passed.from before.numbered passed.was in
      let low = before.from in
      let s = stands_to (before.made + 1) k b keys (omega arith) (omega arith) before.stands in
      let same : s.chain ≡ passed.from = same_Some s.chain passed.from (sym s.there ∙ passed.was) in
      let under : IsUnderWay (at k).network keys passed.from = subst (IsUnderWay (at k).network keys) same s.under in
      let good : Begins passed.from → Good k keys passed.from = subst (λ x. Begins x → Good k keys x) same s.good in
      let key = key_is start history k m ia answers.there refl in
      let now = network_at start history k is network in
      let grows = extended_grows (at k).network passed.from ia egress passed.to passed.made in
      let front : Begins passed.to → Begins passed.from = λ f. (
        grows.entry ∷ f.0,
        shorter passed.from passed.to grows.entry f.0 piece.segment.entries grows.is f.1,
      ) in
      record {
        made = k;
        from = omega arith;
        numbered = passed.more.numbered;
        stands = stand k next passed.to (keys ++ key_in (at k).network ia ∷ [])
            (keys ++ key_then start history k ∷ []) passed.more
            (ap (λ x. keys ++ x ∷ []) (sym key))
            (passed_under_way (at k).network keys passed.from ia egress passed.to now under passed.made)
            (λ f. passed_holds (at k).network keys passed.from ia egress passed.to piece.from piece.to now under (good (front f)).holds passed.made)
            (λ f x none. passed_in_use (at k).network keys passed.from ia egress passed.to piece.from piece.to x under ((good (front f)).fresh x none) passed.made);
      }

  last_made : (between : List ℕ) (b last : ℕ) (keys : List (List ℕ)) → MadeAt b keys
      → PassOn history b between last → MadeAt last (keys ++ map (key_then start history) between)
  last_made [] b last keys before passes =
      subst (MadeAt last) (sym (append-nil keys)) (subst (λ x. MadeAt x keys) passes before)
  last_made (k ∷ later) b last keys before passes =
      let next = next_made k b passes.0 passes.1 passes.2 keys before passes.3 in
      subst (MadeAt last) (append_assoc keys (key_then start history k ∷ []) (map (key_then start history) later))
      (last_made later passes.2 last (keys ++ key_then start history k ∷ []) next passes.4)

  -- ---- the segment

  record Issues (keys : List (List ℕ)) (k : ℕ) : Type 0 where
    pub issued : IsIssued (at k).network keys piece.segment
    pub good : Good k keys piece.segment

  whole : Begins piece.segment
  whole = ([], append-nil piece.segment.entries)

  issued_on : (k : ℕ) (m : EventRecord) (keys : List (List ℕ)) → StepAt start history k m
      → IsIssued (at k).network keys piece.segment → IsIssued (at (k + 1)).network keys piece.segment
  issued_on k m keys step issued = elim (effect (at k) (at (k + 1)) m.event m.reply step).network [
    | inl same ↦ subst (λ n. IsIssued n keys piece.segment) (sym same) issued
    | inr some ↦ elim some [
      | inl s ↦ segment_linked (at k).network (at (k + 1)).network s.up s.ia s.number keys piece.segment s.change issued
      | inr r ↦ segment_keyed (at k).network (at (k + 1)).network r.ia r.key keys piece.segment r.change issued
    ]
  ]

  issues_to : (i j : ℕ) (keys : List (List ℕ)) → i ≤ j → begin ≤ i → Issues keys i → Issues keys j
  issues_to i j keys order from s =
      kept_between start history (Issues keys) i j order is
      (λ k m low there step before. record {
        issued = issued_on k m keys step before.issued;
        good = good_on k m keys piece.segment (omega arith) there step before.issued.made whole before.good;
      })
      (λ k low same before. record {
        issued = subst (λ (net : NetValue). IsIssued net.network keys piece.segment) (sym same) before.issued;
        good = good_idle k keys piece.segment same before.good;
      })
      s

  -- at the chain's end, which comes after its beginning
  ended_issues : (first last : ℕ) → begin ≤ first → (issued : IssuedIn start history first last piece.segment)
      → (begin < last) × Issues (map (key_then start history) (first ∷ issued.between ++ last ∷ [])) last
  ended_issues first last from issued =
      let m : EventRecord = record { event = Terminate issued.beacon issued.at; reply = Registered issued.is_new; net = issued.ended.net } in
      let n = (at last).network in
      let beacon = last_made issued.between issued.begun issued.beacon (key_then start history first ∷ [])
      (first_made first issued.ia issued.egress issued.beta0 issued.begun from issued.start_of) issued.passed_on in
      let keys = key_then start history first ∷ map (key_then start history) issued.between in
      let after = after_made beacon.made last issued.beacon issued.chain beacon.numbered issued.kept in
      let low = beacon.from in
      let s = stands_to (beacon.made + 1) last issued.beacon keys (omega arith) (omega arith) beacon.stands in
      let same : s.chain ≡ issued.chain = same_Some s.chain issued.chain (sym s.there ∙ issued.kept) in
      let under : IsUnderWay n keys issued.chain = subst (IsUnderWay n keys) same s.under in
      let good : Begins issued.chain → Good last keys issued.chain = subst (λ x. Begins x → Good last keys x) same s.good in
      let grows = terminated_grows n issued.chain issued.at piece.segment issued.gives in
      let front : Begins issued.chain = (grows.entry ∷ [], sym (ap (λ (x : Chain). x.entries) grows.is)) in
      let key = key_is start history last m issued.at issued.ended.there refl in
      let now = network_at start history last is network in
      let all : keys ++ key_in n issued.at ∷ [] ≡ map (key_then start history) (first ∷ issued.between ++ last ∷ []) =
      ap (λ k. keys ++ k ∷ []) (sym key) ∙ sym (map-append (key_then start history) (first ∷ issued.between) (last ∷ [])) in (
        omega arith,
        record {
          issued = issued.made;
          good = record {
            holds = subst (λ ks. KeysAndLinksHold n ks piece.segment piece.from piece.to) all
                (ended_holds n keys issued.chain issued.at piece.segment piece.from piece.to now under (good front).holds issued.gives);
            fresh = λ x none. subst (λ ks. KeyIsInUse n ks piece.segment piece.from piece.to x) all
                (ended_in_use n keys issued.chain issued.at piece.segment piece.from piece.to x under ((good front).fresh x none) issued.gives);
          };
        },
      )

  -- the piece is sound from the chain's end on
  pub sound_from : (first last k : ℕ) → HasRange piece → begin ≤ first → last ≤ k
      → IssuedIn start history first last piece.segment
      → (begin < last) × ((keys : List (List ℕ)) × IsIssuedAndAccepted (at k).network keys piece)
  sound_from first last k range from order issued =
      let e = ended_issues first last from issued in
      let after = e.0 in
      let keys = map (key_then start history) (first ∷ issued.between ++ last ∷ []) in
      let there = issues_to last k keys order (omega arith) e.1 in (
        after,
        (
          keys,
          record {
            network = network_at start history k is network;
            range = range;
            issued = there.issued;
            holds = there.good.holds;
          },
        ),
      )
