-- What is so of a history is so of a longer one.
use Rattle.std.proofs.Common.{◌≡◌, ℕ, zero, suc, ◌+◌, ◌<◌, ◌≤◌, ◌⊎◌, List, [], ◌∷◌, ◌++◌, length, map, Some, Ok, refl, sym, ap, subst, ◌∙◌, arith, inl, inr}
use Rattle.std.specs.Prelude.{slice_get}
use Rattle.std.specs.Option.{option_map_or}
use Rattle.std.proofs.lemmas.List.{map-append}
use Rattle.std.proofs.lemmas.Option.{slice_get_within}
use Rattle.path_segment.specs.Chain.{Chain}
use Rattle.beaconing.specs.Entry.{key_in}
use Rattle.beaconing.specs.Calls.{terminated_beacon}
use Rattle.beaconing.specs.Issued.{IsIssued}
use Rattle.path_verifier.specs.Piece.{PieceValue}
use Rattle.network_core.specs.declared.reply.Reply.{Reply}
use Rattle.network_core.specs.Event.{EventValue}
use Rattle.network_core.specs.Value.{NetValue}
use Rattle.network_core.specs.History.{EventRecord, IsHistory, net_after, net_at, Occurs, PassOn, doer, key_then, IssuedIn}
use Rattle.network_core.specs.Headline.{AreIssuedFrom}

pub append_history : (start : NetValue) (history later : List EventRecord) → IsHistory start history
    → IsHistory (net_after start history) later → IsHistory start (history ++ later)
append_history start [] later is more = more
append_history start (m ∷ history) later is more =
    (is.0, append_history m.net history later is.1 more)

pub net_append : (start : NetValue) (history later : List EventRecord)
    → net_after start (history ++ later) ≡ net_after (net_after start history) later
net_append start [] later = refl
net_append start (m ∷ history) later = net_append m.net history later

pub there_more : (history later : List EventRecord) (k : ℕ) (m : EventRecord)
    → slice_get history k ≡ Some m
    → slice_get (history ++ later) k ≡ Some m
there_more [] later k m there = absurd cc
there_more (x ∷ history) later zero m there = there
there_more (x ∷ history) later (suc k) m there = there_more history later k m there

-- an element of a longer history is one of the shorter, or behind it
pub there_or : (history later : List EventRecord) (k : ℕ) (m : EventRecord)
    → slice_get (history ++ later) k ≡ Some m
    → (slice_get history k ≡ Some m)
    ⊎ ((j : ℕ) × ((k ≡ length history + j) × (slice_get later j ≡ Some m)))
there_or [] later k m there = inr (k, (omega arith, there))
there_or (x ∷ history) later zero m there = inl there
there_or (x ∷ history) later (suc k) m there = elim (there_or history later k m there) [
  | inl some ↦ inl some
  | inr some ↦ (let e = some.1.0 in inr (some.0, (omega (arith, e), some.1.1)))
]

pub net_before : (start : NetValue) (history later : List EventRecord) (k : ℕ) → k ≤ length history
    → net_at start (history ++ later) k ≡ net_at start history k
net_before start [] later zero order = refl
net_before start [] later (suc k) order = absurd (omega (arith, order))
net_before start (m ∷ history) later zero order = refl
net_before start (m ∷ history) later (suc k) order =
    net_before m.net history later k (omega (arith, order))

pub net_behind : (start : NetValue) (history later : List EventRecord) (j : ℕ)
    → net_at start (history ++ later) (length history + j) ≡ net_at (net_after start history) later
    j
net_behind start [] later j = let e : 0 + j ≡ j = omega arith in ap (net_at start later) e
net_behind start (m ∷ history) later j =
    let e : suc (length history) + j ≡ suc (length history + j) = omega arith in
    ap (net_at start (m ∷ history ++ later)) e ∙ net_behind m.net history later j

pub occurs_more : (history later : List EventRecord) (k : ℕ) (event : EventValue) (reply : Reply)
    → Occurs history k event reply → Occurs (history ++ later) k event reply
occurs_more history later k event reply occurs = record {
  net = occurs.net;
  there = there_more history later k (record { event = event; reply = reply; net = occurs.net })
      occurs.there;
}

occurs_within : (history : List EventRecord) (k : ℕ) (event : EventValue) (reply : Reply)
    → Occurs history k event reply → k < length history
occurs_within history k event reply occurs =
    slice_get_within history k (record { event = event; reply = reply; net = occurs.net })
    occurs.there

pass_on_more : (history later : List EventRecord) (between : List ℕ) (beacon last : ℕ)
    → PassOn history beacon between last → PassOn (history ++ later) beacon between last
pass_on_more history later [] beacon last passes = passes
pass_on_more history later (k ∷ between) beacon last passes = (
  passes.0,
  passes.1,
  passes.2,
  occurs_more history later k _ _ passes.3,
  pass_on_more history later between passes.2 last passes.4,
)

key_more : (start : NetValue) (history later : List EventRecord) (k : ℕ) (event : EventValue)
    (reply : Reply)
    → Occurs history k event reply → key_then start (history ++ later) k ≡ key_then start history k
key_more start history later k event reply occurs =
    let m : EventRecord = record { event = event; reply = reply; net = occurs.net } in
    let within = slice_get_within history k m occurs.there in
    let order : k ≤ length history = omega (arith, within) in
    ap (λ (net : NetValue). option_map_or
    (λ (one : EventRecord). key_in net.network (doer one.event))
    (slice_get (history ++ later) k) [])
    (net_before start history later k order)
    ∙ ap (λ o. option_map_or (λ (one : EventRecord). key_in (net_at start history k).network
    (doer one.event)) o [])
    (there_more history later k m occurs.there ∙ sym occurs.there)

keys_between : (start : NetValue) (history later : List EventRecord) (between : List ℕ)
    (beacon last : ℕ)
    → PassOn history beacon between last
    → map (key_then start (history ++ later)) between ≡ map (key_then start history) between
keys_between start history later [] beacon last passes = refl
keys_between start history later (k ∷ between) beacon last passes =
    ap (λ x. x ∷ map (key_then start (history ++ later)) between)
    (key_more start history later k _ _ passes.3)
    ∙ ap (λ xs. key_then start history k ∷ xs)
    (keys_between start history later between passes.2 last passes.4)

-- a segment that was issued stays so
pub issued_more : (start : NetValue) (history later : List EventRecord) (first last : ℕ)
    (segment : Chain)
    → IssuedIn start history first last segment
    → IssuedIn start (history ++ later) first last segment
issued_more start history later first last segment i =
    let whole = history ++ later in
    let same : net_at start history last ≡ net_at start whole last =
    sym (net_before start history later last
    (let w = occurs_within history last _ _ i.ended in omega (arith, w))) in
    let old = key_then start history in
    let new = key_then start whole in
    let keys : map old (first ∷ i.between ++ last ∷ []) ≡ map new (first ∷ i.between ++ last ∷ []) =
    sym (
    map-append new (first ∷ i.between) (last ∷ [])
    ∙ ap (λ x. x ∷ (map new i.between ++ new last ∷ []))
    (key_more start history later first _ _ i.start_of)
    ∙ ap (λ xs. old first ∷ (xs ++ new last ∷ []))
    (keys_between start history later i.between i.begun i.beacon i.passed_on)
    ∙ ap (λ x. old first ∷ (map old i.between ++ x ∷ []))
    (key_more start history later last _ _ i.ended)
    ∙ sym (map-append old (first ∷ i.between) (last ∷ []))) in
    record {
      ia = i.ia;
      egress = i.egress;
      beta0 = i.beta0;
      begun = i.begun;
      start_of = occurs_more history later first _ _ i.start_of;
      between = i.between;
      beacon = i.beacon;
      passed_on = pass_on_more history later i.between i.begun i.beacon i.passed_on;
      at = i.at;
      is_new = i.is_new;
      ended = occurs_more history later last _ _ i.ended;
      chain = i.chain;
      kept = subst (λ (net : NetValue). slice_get net.beacons i.beacon ≡ Some i.chain) same i.kept;
      gives = subst (λ (net : NetValue). terminated_beacon net.network i.chain i.at ≡ Ok segment)
          same i.gives;
      made = subst (λ ks. IsIssued (net_at start whole last).network ks segment) keys
          (subst (λ (net : NetValue). IsIssued net.network
          (map old (first ∷ i.between ++ last ∷ [])) segment) same i.made);
    }

pub are_issued_more : (start : NetValue) (history later : List EventRecord) (begin sent : ℕ)
    (pieces : List PieceValue) → AreIssuedFrom start history begin sent pieces
    → AreIssuedFrom start (history ++ later) begin sent pieces
are_issued_more start history later begin sent pieces issued k d within =
    let one = issued k d within in
    (one.0, one.1, (one.2.0, (one.2.1.0, issued_more start history later one.0 one.1 _ one.2.1.1)))
