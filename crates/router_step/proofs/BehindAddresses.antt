-- A step over what stands behind the addresses, as one over the packet.
use Rattle.std.proofs.Common.{◌≡◌, ℕ, ◌+◌, List, ◌++◌, Result, Ok, Err, OnErr, take, drop, refl, sym, ◌∙◌, ap, subst}
use Rattle.std.proofs.lemmas.List.{take-append-drop, drop-drop}
use Rattle.scion_topology.specs.View.{View}
use Rattle.path_header.specs.Value.{HeaderValue, header_len}
use Rattle.path_header.specs.Spelling.{SpellsHeader, spelling}
use Rattle.path_header.specs.Shown.{header_at_front}
use Rattle.router_step.specs.declared.outcome.Outcome.{Outcome}
use Rattle.router_step.specs.declared.fault.Refusal.{Refusal}
use Rattle.router_step.specs.declared.arrival.Arrival.{Arrival}
use Rattle.router_step.specs.Packet.{source_of, destination_of, header_in, packet_step, IsPacketStepped}
use Rattle.router_step.specs.Step.{step_of}
use Rattle.router_step.specs.inner.Step.{IsStepped}

-- a step over these bytes, in front of which there is a header after it
pub record StepsBytes (step : HeaderValue → Result (Outcome × HeaderValue) Refusal) (old new : List ℕ) (result : Result Outcome Refusal) : Type 0 where
  pub exact : IsStepped (step (header_at_front old)) (header_at_front old) (header_at_front new) result
  pub refused : OnErr result (new ≡ old)
  pub rest : drop (header_len (header_at_front new)) new ≡ drop (header_len (header_at_front old)) old
  pub after : SpellsHeader (take (header_len (header_at_front new)) new) (header_at_front new)

-- the header that is read behind the addresses
abbrev pub IsRead : List ℕ → Type 0
IsRead packet = header_in packet ≡ Ok (header_at_front (drop 16 packet), header_len (header_at_front (drop 16 packet)))

abbrev step_on : View → ℕ → Arrival → List ℕ → HeaderValue → Result (Outcome × HeaderValue) Refusal
step_on view now arrival packet = step_of view now arrival (source_of packet) (destination_of packet)

-- the same step by what the code reads of the addresses
pub by_addresses : (view : View) (now : ℕ) (arrival : Arrival) (packet bytes new : List ℕ) (source destination : ℕ) (result : Result Outcome Refusal)
    → source ≡ source_of packet → destination ≡ destination_of packet → bytes ≡ drop 16 packet
    → StepsBytes (step_of view now arrival source destination) bytes new result
    → StepsBytes (step_on view now arrival packet) (drop 16 packet) new result
by_addresses view now arrival packet bytes new source destination result from to at s =
    subst (λ (a : ℕ). StepsBytes (step_of view now arrival a (destination_of packet)) (drop 16 packet) new result) from
    (subst (λ (a : ℕ). StepsBytes (step_of view now arrival source a) (drop 16 packet) new result) to
    (subst (λ (b : List ℕ). StepsBytes (step_of view now arrival source destination) b new result) at s))

-- the packet after a step over what stands behind its addresses
pub made : (packet addresses new : List ℕ) (len : ℕ) (w : HeaderValue) → addresses ≡ take 16 packet
    → drop (header_len w) new ≡ drop len (drop 16 packet) → SpellsHeader (take (header_len w) new) w
    → addresses ++ new ≡ take 16 packet ++ (spelling w ++ drop (16 + len) packet)
made packet addresses new len w front rest after =
    let whole : new ≡ spelling w ++ drop (16 + len) packet =
    sym (take-append-drop (header_len w) new) ∙ ap (λ (t : List ℕ). t ++ drop (header_len w) new) after.spelled
    ∙ ap (λ (t : List ℕ). spelling w ++ t) (rest ∙ drop-drop len 16 packet) in
    ap (λ (t : List ℕ). t ++ new) front ∙ ap (λ (t : List ℕ). take 16 packet ++ t) whole

pub unchanged : (packet addresses new : List ℕ) → addresses ≡ take 16 packet → new ≡ drop 16 packet → addresses ++ new ≡ packet
unchanged packet addresses new front back =
    ap (λ (t : List ℕ). t ++ new) front ∙ ap (λ (t : List ℕ). take 16 packet ++ t) back ∙ take-append-drop 16 packet

pub packet_stepped : (view : View) (now : ℕ) (arrival : Arrival) (packet addresses new : List ℕ) (result : Result Outcome Refusal)
    → IsRead packet → addresses ≡ take 16 packet → StepsBytes (step_on view now arrival packet) (drop 16 packet) new result
    → IsPacketStepped (packet_step view now arrival packet) packet (addresses ++ new) result
unfolding packet_step
packet_stepped view now arrival packet addresses new (Ok outcome) read front s =
    rw (read, s.exact) (ap (λ (t : List ℕ). Ok (outcome, t)) (sym (made packet addresses new (header_len (header_at_front (drop 16 packet))) (header_at_front new) front s.rest s.after)))
packet_stepped view now arrival packet addresses new (Err e) read front s =
    (rw (read, s.exact.0) refl, unchanged packet addresses new front s.refused)
