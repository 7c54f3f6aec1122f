-- Turns alone.
use Rattle.std.proofs.Common.{◌≡◌, ℕ, zero, suc, ◌≤◌, List, [], ◌∷◌, ◌++◌, All, true, Result, Ok, Err, length, drop, refl, ap, ◌∙◌, arith, inl, inr}
use Rattle.std.specs.Prelude.{◌==◌, cond}
use Rattle.std.proofs.lemmas.List.Elements.{All-nil, All-cons}
use Rattle.std.proofs.lemmas.Bool.{cases_Bool, eqb-false}
use Rattle.std.proofs.lemmas.List.{drop-append-le}
use Rattle.std.proofs.lemmas.List.Sums.{sum_by-cons, sum_by-append}
use Rattle.refusal.specs.Refusal.{◌>>=◌}
use Rattle.forwarding.specs.Turn.{turn_of}
use Rattle.network_core.specs.declared.fault.EventFault.{EventFault}
use Rattle.network_core.specs.declared.reply.Reply.{Reply}
use Rattle.network_core.specs.declared.reply.Reply.TheVariants.{Turned, Refused}
use Rattle.network_core.specs.Event.{Turn}
use Rattle.network_core.specs.Value.{PacketValue, NetValue}
use Rattle.network_core.specs.Step.{Made, Leads, turns, flying_at, with_packet}
use Rattle.network_core.specs.History.{EventRecord, IsHistory, net_at}
use Rattle.network_core.specs.Delivery.{IsFramed, AllFramed, is_turn_of, turns_of}

abbrev pub reply_of : Made → Reply
reply_of (Ok made) = made.0
reply_of (Err fault) = Refused fault

abbrev pub net_of : NetValue → Made → NetValue
net_of old (Ok made) = made.1
net_of old (Err fault) = old

pub leads : (old : NetValue) (made : Made) → Leads made old (reply_of made) (net_of old made)
leads old (Ok made) = (refl, refl)
leads old (Err fault) = (refl, refl)

-- this number of turns of a packet
abbrev pub turned : NetValue → (p n : ℕ) → List EventRecord
turned net p zero = []
turned net p (suc n) =
    record { event = Turn p; reply = reply_of (turns net p); net = net_of net (turns net p) }
    ∷ turned (net_of net (turns net p)) p n

pub is_history : (net : NetValue) (p n : ℕ) → IsHistory net (turned net p n)
is_history net p zero = tt
is_history net p (suc n) = (leads net (turns net p), is_history (net_of net (turns net p)) p n)

pub all_turns : (net : NetValue) (p n : ℕ)
    → All (λ (one : EventRecord). one.event ≡ Turn p) (turned net p n)
all_turns net p zero = All-nil (λ (one : EventRecord). one.event ≡ Turn p)
all_turns net p (suc n) = All-cons (λ (one : EventRecord). one.event ≡ Turn p) _ _ refl
    (all_turns (net_of net (turns net p)) p n)

pub all_framed : (net : NetValue) (p n : ℕ) → AllFramed (turned net p n)
all_framed net p zero = All-nil (λ (one : EventRecord). IsFramed one.event one.reply one.net)
all_framed net p (suc n) =
    All-cons (λ (one : EventRecord). IsFramed one.event one.reply one.net) _ _
    (λ route payload e. absurd cc) (all_framed (net_of net (turns net p)) p n)

pub turned_length : (net : NetValue) (p n : ℕ) → length (turned net p n) ≡ n
turned_length net p zero = refl
turned_length net p (suc n) = ap suc (turned_length (net_of net (turns net p)) p n)

turn_moment : (net : NetValue) (p : ℕ) (r : Result PacketValue EventFault)
    → (net_of net (r >>= λ one. let turn = turn_of net.network net.moment one.packet in
    Ok (Turned turn.0, with_packet net p one turn.1))).moment ≡ net.moment
turn_moment net p (Ok one) = refl
turn_moment net p (Err fault) = refl

pub same_moment : (net : NetValue) (p n j : ℕ) → (net_at net (turned net p n) j).moment ≡ net.moment
same_moment net p zero zero = refl
same_moment net p zero (suc j) = refl
same_moment net p (suc n) zero = refl
same_moment net p (suc n) (suc j) =
    same_moment (net_of net (turns net p)) p n j ∙ turn_moment net p (flying_at net p)

-- ---- how many

is_itself : (p : ℕ) → (p == p) ≡ true
is_itself p = elim (cases_Bool (p == p)) [
  | inl same ↦ same
  | inr other ↦ absurd (eqb-false p p other refl)
]

abbrev one_if : ℕ → EventRecord → ℕ
one_if p one = cond (is_turn_of p one.event) 1 0

pub turns_in : (net : NetValue) (p n : ℕ) → turns_of p (turned net p n) ≡ n
turns_in net p zero = refl
turns_in net p (suc n) =
    let new = net_of net (turns net p) in
    let m : EventRecord = record { event = Turn p; reply = reply_of (turns net p); net = new } in
    let rest = turns_in new p n in
    let more = sum_by-cons (one_if p) m (turned new p n) in
    let one : one_if p m ≡ 1 = ap (λ b. cond b 1 0) (is_itself p) in
    omega (arith, more, one, rest)

pub turns_behind : (p j : ℕ) (history later : List EventRecord) → j ≤ length history
    → turns_of p later ≤ turns_of p (drop j (history ++ later))
turns_behind p j history later order =
    let all = ap (turns_of p) (drop-append-le j history later order) in
    let both = sum_by-append (one_if p) (drop j history) later in
    omega (arith, all, both)
