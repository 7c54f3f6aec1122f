-- The packet arrives by turns alone.
use Rattle.std.proofs.Common.{◌≡◌, ℕ, ◌+◌, ◌*◌, ◌<◌, ◌≤◌, ◌⊎◌, List, ◌++◌, Some, Result, Ok, length, take, drop, sym, ap, subst, ◌∙◌, arith, inl, inr, length-append}
use Rattle.std.specs.Prelude.{slice_get}
use Rattle.std.proofs.lemmas.List.{take_all}
use Rattle.std.proofs.lemmas.List.Elements.{All-append}
use Rattle.std.proofs.lemmas.Option.{slice_get_within}
use Rattle.scion_topology.specs.Topology.{IsNetwork}
use Rattle.path_verifier.specs.Header.{total_hops}
use Rattle.network_core.specs.declared.fault.EventFault.{EventFault}
use Rattle.network_core.specs.declared.reply.Reply.TheVariants.{Sent}
use Rattle.network_core.specs.Event.{EventValue, RouteValue, Send, Turn, Lose, Alter, CutLink, RotateKey}
use Rattle.network_core.specs.Value.{Shipment, NetValue}
use Rattle.network_core.specs.Step.{shipment_by}
use Rattle.network_core.specs.History.{EventRecord, IsHistory, net_after, net_at, Occurs}
use Rattle.network_core.specs.Delivery.{IsFramed, AllFramed, turns_of}
use Rattle.network_core.specs.Headline.{IsDone, Undisturbed, turns_since, Headline}
use Rattle.network_core.proofs.Headlines.{all_at, of_send}
use Rattle.arrivals.specs.Arrivals.{MayArrive}
use Rattle.arrivals.proofs.Longer.{append_history, there_or, net_before, net_behind, occurs_more, are_issued_more}
use Rattle.arrivals.proofs.Turning.{turned, is_history, all_turns, all_framed, turned_length, same_moment, turns_in, turns_behind}

-- a shipment that is given is the one that is wanted
pub same_ok : (one other : Shipment) → ◌≡◌ {A = Result Shipment EventFault} (Ok one) (Ok other)
    → one ≡ other
same_ok one other e = cc

module _ (start : NetValue) (history : List EventRecord) (number p : ℕ) (route : RouteValue)
    (payload : List ℕ)
    (sent : Shipment) (network : IsNetwork start.network) (is : IsHistory start history)
    (framed : AllFramed history) (sends : Occurs history number (Send route payload) (Sent p))
    (by : shipment_by (net_at start history number) route payload ≡ Ok sent)
    (quiet : Undisturbed start history number p sent.way.pieces)
    (live : 2 * (net_after start history).moment ≤ quiet.expiry) where
  abbrev count : ℕ
  count = 2 * total_hops sent.way.pieces

  abbrev last : NetValue
  last = net_after start history

  abbrev later : List EventRecord
  later = turned last p count

  abbrev whole : List EventRecord
  whole = history ++ later

  -- an event that was done was done before, or is a turn of the packet
  done_or : (k : ℕ) (event : EventValue) → IsDone whole k event
      → IsDone history k event ⊎ ((event ≡ Turn p) × ((j : ℕ) × (k ≡ length history + j)))
  done_or k event done =
      let m : EventRecord = record { event = event; reply = done.reply; net = done.occurs.net } in
      elim (there_or history later k m done.occurs.there) [
        | inl old ↦ inl (record {
          reply = done.reply;
          occurs = record { net = done.occurs.net; there = old };
          done = done.done;
        })
        | inr new ↦ inr (
          all_at (λ (one : EventRecord). one.event ≡ Turn p) later new.0 m (all_turns last p count)
              new.1.1,
          (new.0, new.1.0),
        )
      ]

  within : number < length history
  within = slice_get_within history number
      (record { event = Send route payload; reply = Sent p; net = sends.net }) sends.there

  done_within : (k : ℕ) (event : EventValue) → IsDone history k event → k < length history
  done_within k event done = slice_get_within history k
      (record { event = event; reply = done.reply; net = done.occurs.net }) done.occurs.there

  still_quiet : Undisturbed start whole number p sent.way.pieces
  still_quiet = record {
    kept = record {
      begin = quiet.kept.begin;
      issued = are_issued_more start history later quiet.kept.begin number sent.way.pieces
          quiet.kept.issued;
      keys = λ i j ia key next low order first second. elim (done_or i (RotateKey ia key) first) [
        | inl one ↦ elim (done_or j (RotateKey ia next) second) [
          | inl two ↦ quiet.kept.keys i j ia key next low order one two
          | inr other ↦ absurd (let e = other.0 in cc)
        ]
        | inr other ↦ absurd (let e = other.0 in cc)
      ];
      links = λ k ia interface low cut. elim (done_or k (CutLink ia interface) cut) [
        | inl one ↦ quiet.kept.links k ia interface low one
        | inr other ↦ absurd (let e = other.0 in cc)
      ];
    };
    unaltered = λ k at change done. elim (done_or k (Alter p at change) done) [
      | inl one ↦ quiet.unaltered k at change one
      | inr other ↦ (let e = other.0 in absurd cc)
    ];
    unlost = λ k done. elim (done_or k (Lose p) done) [
      | inl one ↦ quiet.unlost k one
      | inr other ↦ (let e = other.0 in absurd cc)
    ];
    expiry = quiet.expiry;
    least = quiet.least;
    in_time = λ k done. elim (done_or k (Turn p) done) [
      | inl one ↦ (
          let w = done_within k (Turn p) one in
          subst (λ (net : NetValue). 2 * net.moment ≤ quiet.expiry)
          (sym (net_before start history later k (omega (arith, w)))) (quiet.in_time k one))
      | inr new ↦ (
          let at : net_at start whole k ≡ net_at last later new.1.0 =
          ap (net_at start whole) new.1.1 ∙ net_behind start history later new.1.0 in
          let moment : (net_at start whole k).moment ≡ last.moment =
          ap (λ (net : NetValue). net.moment) at ∙ same_moment last p count new.1.0 in
          omega (arith, moment, live))
    ];
  }

  whole_is : IsHistory start whole
  whole_is = append_history start history later is (is_history last p count)

  whole_framed : AllFramed whole
  whole_framed = All-append (λ (one : EventRecord). IsFramed one.event one.reply one.net) history
      later framed
      (all_framed last p count)

  abbrev end : ℕ
  end = length whole

  all_of_it : take end whole ≡ whole
  all_of_it = take_all end whole (omega arith)

  headline : Headline start whole number p sent
  headline =
      let d = of_send start whole number p route payload network whole_is whole_framed
      (occurs_more history later number (Send route payload) (Sent p) sends) in
      let order : number ≤ length history = omega (arith, within) in
      let again : shipment_by (net_at start whole number) route payload ≡ Ok sent =
      ap (λ net. shipment_by net route payload) (net_before start history later number order)
      ∙ by in
      subst (λ s. Headline start whole number p s) (same_ok d.0 sent (sym d.1.0 ∙ again)) d.1.1

  far : number < end
  far = let e = length-append history later in omega (arith, e, within)

  quiet_end : Undisturbed start (take end whole) number p sent.way.pieces
  quiet_end = subst (λ h. Undisturbed start h number p sent.way.pieces) (sym all_of_it) still_quiet

  enough : count ≤ turns_since whole number p end
  enough =
      let behind = turns_behind p (number + 1) history later (omega (arith, within)) in
      let mine = turns_in last p count in
      let e : turns_of p (drop (number + 1) whole) ≡ turns_since whole number p end =
      ap (λ h. turns_of p (drop (number + 1) h)) (sym all_of_it) in
      omega (arith, behind, mine, e)

  pub may_arrive : MayArrive start history number p sent
  may_arrive =
      let f = headline.forwarded end far quiet_end in record {
        later = later;
        turns = all_turns last p count;
        count = turned_length last p count;
        is = whole_is;
        framed = whole_framed;
        quiet = still_quiet;
        packet = f.packet;
        there = subst (λ h. slice_get (net_after start h).packets p ≡ Some f.packet) all_of_it
            f.there;
        delivered = headline.delivers end far quiet_end enough;
      }
