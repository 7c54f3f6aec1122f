-- Every answer was given by an Ask of the history, of segments that were issued before it.
use Rattle.std.proofs.Common.{◌≡◌, ℕ, zero, suc, ◌+◌, ◌<◌, ◌≤◌, ◌⊎◌, ltb, List, [], ◌∷◌, length, Some, Ok, All, refl, sym, ap, ◌∙◌, subst, arith, inl, inr}
use Rattle.std.specs.Prelude.{slice_get, nat_le}
use Rattle.std.specs.Option.{ok_or}
use Rattle.std.proofs.lemmas.Bool.{cases_Bool, ltb-true, ltb-false}
use Rattle.std.proofs.lemmas.List.Elements.{All-nil, All-cons, All-head, All-tail, All-weaker}
use Rattle.refusal.specs.Refusal.{check}
use Rattle.refusal.proofs.Steps.{ok_is, ok_or_ok}
use Rattle.scion_topology.specs.Network.{Network}
use Rattle.scion_topology.specs.Topology.{IsNetwork}
use Rattle.beaconing.proofs.Reaching.{any_here, any_there}
use Rattle.policy_expr.specs.Options.{WeighedRules}
use Rattle.path_verifier.specs.Piece.{PieceValue}
use Rattle.path_verifier.proofs.Breaches.{path_kept}
use Rattle.combinator.specs.Candidate.{PathValue}
use Rattle.network_core.specs.declared.fault.EventFault.TheVariants as faults
use Rattle.network_core.specs.declared.reply.Reply.TheVariants as replies
use Rattle.network_core.specs.Event.{ByAnswer, Ask, Send, ByWay}
use Rattle.network_core.specs.Value.{Way, KeptAnswer, way_on, Shipment, NetValue, new_net}
use Rattle.network_core.specs.Step.{shipment_by, way_by, IsAnswerTo}
use Rattle.network_core.specs.History.{EventRecord, IsHistory, net_at, Occurs, IssuedIn, IssuedBefore, IsAskedBefore}
use Rattle.network_core.specs.Delivery.{AllFramed}
use Rattle.network_core.specs.Headline.{HaveBeginning}
use Rattle.network_core.proofs.Effects.{IsAsk, effect, both_done}
use Rattle.network_core.proofs.Numbers.{becomes_at, event_or_none}
use Rattle.network_core.proofs.Issuing.{occurs_at, last_or, stored_all}
use Rattle.network_core.proofs.Headlines.{all_at, of_send}
use Rattle.network_core.proofs.Accepting.{kept_accepted, kept_stored}

-- ---- the answer at its own number

answer_is : (one : KeptAnswer) (net : NetValue) (src dst : ℕ) (options : List WeighedRules)
    (limit : ℕ) → IsAnswerTo net src dst options limit one
    → IsAnswerTo net one.source one.destination options limit one
answer_is one net src dst options limit is =
    subst (λ d. IsAnswerTo net one.source d options limit one) (sym is.destination)
    (subst (λ s. IsAnswerTo net s dst options limit one) (sym is.source) is)

event_of : (one : KeptAnswer) (net : NetValue) (src dst : ℕ) (options : List WeighedRules)
    (limit : ℕ) → IsAnswerTo net src dst options limit one
    → Ask src dst (Ok options) limit ≡ Ask one.source one.destination (Ok options) limit
event_of one net src dst options limit is =
    ap (λ s. Ask s dst (Ok options) limit) (sym is.source)
    ∙ ap (λ d. Ask one.source d (Ok options) limit) (sym is.destination)

-- ---- in a history that begins with nothing made

module _ (start : NetValue) (history : List EventRecord) (is : IsHistory start history)
    (network : IsNetwork start.network) (no_beacons : start.beacons ≡ [])
    (no_segments : start.segments ≡ []) (no_answers : start.answers ≡ []) where
  abbrev at : ℕ → NetValue
  at k = net_at start history k

  abbrev AllAsked : ℕ → Type 0
  AllAsked k = (number : ℕ) (one : KeptAnswer) → slice_get (at k).answers number ≡ Some one
      → IsAskedBefore start history k number one

  asked_still : (k number : ℕ) (one : KeptAnswer) → IsAskedBefore start history k number one
      → IsAskedBefore start history (k + 1) number one
  asked_still k number one a =
      let before = a.before in
      record {
        at = a.at;
        before = omega arith;
        options = a.options;
        limit = a.limit;
        asked = a.asked;
        is = a.is;
        accepted = a.accepted;
        issued = a.issued;
      }

  asked_there : (k : ℕ) (m : EventRecord) → slice_get history k ≡ Some m
      → (a : IsAsk (at k) m.event m.reply (at (k + 1)))
      → IsAskedBefore start history (k + 1) (length (at k).answers) a.one
  asked_there k m there a =
      let one = a.one in
      let answers = answer_is one (at k) a.src a.dst a.options a.limit a.is in
      record {
        at = k;
        before = omega arith;
        options = a.options;
        limit = a.limit;
        asked = occurs_at history k m (Ask one.source one.destination (Ok a.options) a.limit)
            (replies.Answered (length (at k).answers)) there
            (a.event_is ∙ event_of one (at k) a.src a.dst a.options a.limit a.is)
            a.told;
        is = answers;
        accepted = kept_accepted (at k) a.options a.limit one answers;
        issued = kept_stored (IssuedBefore start history k) (at k) a.options a.limit one
            (stored_all start history is network no_beacons no_segments k) answers;
      }

  no_more : (k : ℕ) → (at (k + 1)).answers ≡ (at k).answers → AllAsked k → AllAsked (k + 1)
  no_more k same all number one there =
      asked_still k number one (all number one (ap (λ xs. slice_get xs number) (sym same) ∙ there))

  one_more : (k : ℕ) (m : EventRecord) → slice_get history k ≡ Some m → AllAsked k
      → IsAsk (at k) m.event m.reply (at (k + 1)) → AllAsked (k + 1)
  one_more k m found all a number one there =
      let longer = ap (λ (net : NetValue). net.answers) a.kept in
      elim (last_or (at k).answers a.one number one (ap (λ xs. slice_get xs number) (sym longer) ∙ there)) [
        | inl old ↦ asked_still k number one (all number one old)
        | inr new ↦ subst (λ x. IsAskedBefore start history (k + 1) number x) new.1
            (subst (λ n. IsAskedBefore start history (k + 1) n a.one) new.0 (asked_there k m found a))
      ]

  asked_next : (k : ℕ) (m : EventRecord) → slice_get history k ≡ Some m → AllAsked k → AllAsked (k + 1)
  asked_next k m there all =
      elim (effect (at k) (at (k + 1)) m.event m.reply (becomes_at start history k m is there)).answers [
        | inl same ↦ no_more k same all
        | inr a ↦ one_more k m there all a
      ]

  none_at_first : (number : ℕ) (one : KeptAnswer) → slice_get start.answers number ≡ Some one → ⊥
  none_at_first number one there =
      let e : slice_get {X = KeptAnswer} [] number ≡ Some one =
      ap (λ xs. slice_get xs number) (sym no_answers) ∙ there in absurd cc

  -- each answer after the first k events was given by one of them
  pub asked_all : (k : ℕ) → AllAsked k
  asked_all zero = λ number one there. absurd (none_at_first number one there)
  asked_all (suc k) =
      let place : k + 1 ≡ suc k = omega arith in
      subst AllAsked place (elim (event_or_none start history k) [
        | inl some ↦ asked_next k some.0 some.1 (asked_all k)
        | inr none ↦ no_more k (ap (λ (net : NetValue). net.answers) none) (asked_all k)
      ])

either : (a b : ℕ) → (a ≤ b) ⊎ (b ≤ a)
either a b = elim (cases_Bool (ltb a b)) [
  | inl less ↦ inl (let low = ltb-true a b less in omega arith)
  | inr not_less ↦ inr (ltb-false a b not_less)
]

-- ---- the first of the events that issued the pieces of a path

module _ (start : NetValue) (history : List EventRecord) (sent : ℕ) where
  abbrev Issued : ℕ → PieceValue → Type 0
  Issued begin piece = (first last : ℕ) × ((begin ≤ first) × ((last < sent)
      × IssuedIn start history first last piece.segment))

  abbrev BegunAt : ℕ → PieceValue → Type 0
  BegunAt begin piece = (last : ℕ) × ((last < sent) × IssuedIn start history begin last piece.segment)

  earlier : (begin before : ℕ) → before ≤ begin → (pieces : List PieceValue)
      → All (Issued begin) pieces → All (Issued before) pieces
  earlier begin before low pieces all = All-weaker (Issued begin) (Issued before)
      (λ piece i. (let from = i.2.0 in (i.0, i.1, (omega arith, i.2.1)))) pieces all

  alone : (piece : PieceValue) → IssuedBefore start history sent piece.segment
      → HaveBeginning start history sent (piece ∷ [])
  alone piece i = record {
    begin = i.0;
    each = All-cons (Issued i.0) piece [] (i.0, i.1, (omega arith, (i.2, i.3))) (All-nil (Issued i.0));
    earliest = any_here (BegunAt i.0) piece [] (i.1, (i.2, i.3));
  }

  joined : (piece : PieceValue) (later : List PieceValue)
      → (i : IssuedBefore start history sent piece.segment)
      → (b : HaveBeginning start history sent later)
      → (i.0 ≤ b.begin) ⊎ (b.begin ≤ i.0) → HaveBeginning start history sent (piece ∷ later)
  joined piece later i b (inl first) = record {
    begin = i.0;
    each = All-cons (Issued i.0) piece later (i.0, i.1, (omega arith, (i.2, i.3)))
        (earlier b.begin i.0 first later b.each);
    earliest = any_here (BegunAt i.0) piece later (i.1, (i.2, i.3));
  }
  joined piece later i b (inr after) = record {
    begin = b.begin;
    each = All-cons (Issued b.begin) piece later (i.0, i.1, (after, (i.2, i.3))) b.each;
    earliest = any_there (BegunAt b.begin) piece later b.earliest;
  }

  pub beginning : (pieces : List PieceValue) → 0 < length pieces
      → All (λ piece. IssuedBefore start history sent piece.segment) pieces
      → HaveBeginning start history sent pieces
  beginning [] some all = absurd (omega arith)
  beginning (piece ∷ []) some all =
      alone piece (All-head (λ (p : PieceValue). IssuedBefore start history sent p.segment) piece [] all)
  beginning (piece ∷ next ∷ later) some all =
      let P = λ (p : PieceValue). IssuedBefore start history sent p.segment in
      let i = All-head P piece (next ∷ later) all in
      let b = beginning (next ∷ later) (omega arith) (All-tail P piece (next ∷ later) all) in
      joined piece (next ∷ later) i b (either i.0 b.begin)

-- ---- what is sent by an answer

way_sent : (net : NetValue) (way : Way) (payload : List ℕ) (sent : Shipment)
    → shipment_by net (ByWay way) payload ≡ Ok sent → way ≡ sent.way
way_sent net way payload sent is =
    let passed = both_done (check (nat_le (length payload) 1024) faults.PayloadTooLong) _ sent is in
    ap (λ (s : Shipment). s.way) (ok_is (record { way = way; payload = payload }) sent passed.1.1)

-- the path by which it was sent, and its answer
record IsByAnswer (net : NetValue) (ask path : ℕ) (sent : Shipment) : Type 0 where
  one : KeptAnswer
  there : slice_get net.answers ask ≡ Some one
  chosen : PathValue
  found : slice_get one.answer.paths path ≡ Some chosen
  same : chosen.pieces ≡ sent.way.pieces

by_answer : (net : NetValue) (ask path : ℕ) (payload : List ℕ) (sent : Shipment)
    → shipment_by net (ByAnswer ask path) payload ≡ Ok sent → IsByAnswer net ask path sent
by_answer net ask path payload sent is =
    let way = both_done (way_by net (ByAnswer ask path)) _ sent is in
    let one = both_done (ok_or (slice_get net.answers ask) faults.NoAnswer) _ way.0 way.1.0 in
    let chosen = both_done (ok_or (slice_get one.0.answer.paths path) faults.NoAnswer) _ way.0 one.1.1 in
    let on : way_on one.0 chosen.0 ≡ way.0 = ok_is (way_on one.0 chosen.0) way.0 chosen.1.1 in
    record {
      one = one.0;
      there = ok_or_ok (slice_get net.answers ask) faults.NoAnswer one.0 one.1.0;
      chosen = chosen.0;
      found = ok_or_ok (slice_get one.0.answer.paths path) faults.NoAnswer chosen.0 chosen.1.0;
      same = ap (λ (w : Way). w.pieces) on ∙ ap (λ (w : Way). w.pieces) (way_sent net way.0 payload sent way.1.1);
    }

pub of_answer : (network : Network) (history : List EventRecord) (number p ask path : ℕ)
    (payload : List ℕ) → IsNetwork network → IsHistory (new_net network) history → AllFramed history
    → Occurs history number (Send (ByAnswer ask path) payload) (replies.Sent p)
    → (sent : Shipment)
    × ((shipment_by (net_at (new_net network) history number) (ByAnswer ask path) payload ≡ Ok sent)
    × HaveBeginning (new_net network) history number sent.way.pieces)
of_answer network history number p ask path payload known is framed answers =
    let start = new_net network in
    let s = of_send start history number p (ByAnswer ask path) payload known is framed answers in
    let by = by_answer (net_at start history number) ask path payload s.0 s.1.0 in
    let a = asked_all start history is known refl refl refl number ask by.one by.there in
    let at_ask =
    all_at (λ (one : PathValue). All (λ (piece : PieceValue). IssuedBefore start history a.at piece.segment) one.pieces)
    by.one.answer.paths path by.chosen a.issued by.found in
    let before = a.before in
    let issued = All-weaker (λ (piece : PieceValue). IssuedBefore start history a.at piece.segment)
    (λ (piece : PieceValue). IssuedBefore start history number piece.segment)
    (λ piece i. (let low = i.2 in (i.0, i.1, omega arith, i.3))) by.chosen.pieces at_ask in (
      s.0,
      (
        s.1.0,
        beginning start history number s.0.way.pieces (path_kept s.1.1.accepted).some
            (subst (All (λ (piece : PieceValue). IssuedBefore start history number piece.segment)) by.same issued),
      ),
    )
