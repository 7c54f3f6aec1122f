-- A turn on a whole packet by the step on its parts.
use Rattle.std.proofs.Common.{◌≡◌, ℕ, ◌≤◌, List, ◌++◌, Ok, Err, length, take, drop, refl, sym, ◌∙◌, ap, subst, arith, length-drop}
use Rattle.std.proofs.Math.Seq.{drop-append_seam}
use Rattle.std.proofs.lemmas.List.{take-append-le, drop-append-le, take-append-drop, length-take-le}
use Rattle.scion_topology.specs.View.{View}
use Rattle.path_header.specs.Value.{HeaderValue}
use Rattle.router_step.specs.declared.outcome.Outcome.{Outcome}
use Rattle.router_step.specs.declared.fault.Refusal.{Refusal}
use Rattle.router_step.specs.declared.arrival.Arrival.{Arrival}
use Rattle.router_step.specs.Packet.{packet_step}
use Rattle.scion_packet.specs.declared.fault.TurnRefusal.TheVariants.{Step}
use Rattle.scion_packet.specs.Layout.{path_place, addresses_of, frame_in}
use Rattle.scion_packet.specs.Reading.{path_header_in}
use Rattle.scion_packet.specs.Turn.{whole_packet_step}

-- a packet cut in front of its path header
pub record IsCut (packet front rest : List ℕ) (place : ℕ) : Type 0 where
  pub at : place ≡ path_place packet
  pub within : place ≤ length packet
  pub ahead : front ≡ take place packet
  pub behind : rest ≡ drop place packet

whole : (packet front rest : List ℕ) (place : ℕ) → IsCut packet front rest place
    → front ++ rest ≡ packet
whole packet front rest place cut =
    ap (λ (t : List ℕ). t ++ rest) cut.ahead
    ∙ ap (λ (t : List ℕ). take place packet ++ t) cut.behind ∙ take-append-drop place packet

long : (packet front rest : List ℕ) (place : ℕ) → IsCut packet front rest place → 28 ≤ length front
long packet front rest place cut = let len : length front ≡ place =
    ap length cut.ahead ∙ length-take-le place packet cut.within in omega (arith, len, cut.at)

addresses_are : (front rest : List ℕ) → 28 ≤ length front
    → take 16 (drop 12 (front ++ rest)) ≡ take 16 (drop 12 front)
addresses_are front rest long =
    ap (take 16) (drop-append-le 12 front rest (omega (arith, long)))
    ∙ take-append-le 16 (drop 12 front) rest (omega (arith, long, length-drop 12 front))

addresses_len : (front : List ℕ) → 28 ≤ length front → length (take 16 (drop 12 front)) ≡ 16
addresses_len front long =
    length-take-le 16 (drop 12 front) (omega (arith, long, length-drop 12 front))

behind : (front bytes : List ℕ) → 28 ≤ length front
    → drop 16 (take 16 (drop 12 front) ++ bytes) ≡ bytes
behind front bytes long =
    subst (λ n. drop n (take 16 (drop 12 front) ++ bytes) ≡ bytes) (addresses_len front long)
    (drop-append_seam (take 16 (drop 12 front)) bytes)

frame_is : (packet front rest : List ℕ) (place : ℕ) → IsCut packet front rest place
    → take 16 (drop 12 front) ++ rest ≡ frame_in packet
frame_is packet front rest place cut =
    let addresses : take 16 (drop 12 front) ≡ addresses_of packet =
    sym (addresses_are front rest (long packet front rest place cut))
    ∙ ap (λ (t : List ℕ). take 16 (drop 12 t)) (whole packet front rest place cut) in
    ap (λ (t : List ℕ). t ++ rest) addresses
    ∙ ap (λ (t : List ℕ). addresses_of packet ++ t)
    (cut.behind ∙ ap (λ (n : ℕ). drop n packet) cut.at)

pub turned : (view : View) (now : ℕ) (arrival : Arrival) (packet front rest new : List ℕ)
    (place : ℕ) (header : HeaderValue) (outcome : Outcome)
    → path_header_in packet ≡ Ok header → IsCut packet front rest place
    → packet_step view now arrival (take 16 (drop 12 front) ++ rest)
    ≡ Ok (outcome, take 16 (drop 12 front) ++ new)
    → whole_packet_step view now arrival packet ≡ Ok (outcome, front ++ new)
unfolding whole_packet_step
turned view now arrival packet front rest new place header outcome read cut step =
    let of_frame : packet_step view now arrival (frame_in packet)
    ≡ Ok (outcome, take 16 (drop 12 front) ++ new) =
    ap (packet_step view now arrival) (sym (frame_is packet front rest place cut)) ∙ step in
    let back = behind front new (long packet front rest place cut) in
    let ahead : take (path_place packet) packet ≡ front =
    ap (λ (n : ℕ). take n packet) (sym cut.at) ∙ sym cut.ahead in
    let whole : take (path_place packet) packet ++ drop 16 (take 16 (drop 12 front) ++ new) ≡ front
    ++ new =
    ap (λ (t : List ℕ). t ++ drop 16 (take 16 (drop 12 front) ++ new)) ahead
    ∙ ap (λ (t : List ℕ). front ++ t) back in
    rw (read, of_frame) (ap (λ (t : List ℕ). Ok (outcome, t)) whole)

pub not_turned : (view : View) (now : ℕ) (arrival : Arrival) (packet front rest : List ℕ)
    (place : ℕ) (header : HeaderValue) (refusal : Refusal)
    → path_header_in packet ≡ Ok header → IsCut packet front rest place
    → packet_step view now arrival (take 16 (drop 12 front) ++ rest) ≡ Err refusal
    → whole_packet_step view now arrival packet ≡ Err (Step refusal)
unfolding whole_packet_step
not_turned view now arrival packet front rest place header refusal read cut step =
    let of_frame : packet_step view now arrival (frame_in packet) ≡ Err refusal =
    ap (packet_step view now arrival) (sym (frame_is packet front rest place cut)) ∙ step in
    rw (read, of_frame) refl

pub as_before : (packet front rest new : List ℕ) (place : ℕ) → IsCut packet front rest place
    → take 16 (drop 12 front) ++ new ≡ take 16 (drop 12 front) ++ rest → front ++ new ≡ packet
as_before packet front rest new place cut same =
    let long = long packet front rest place cut in
    ap (λ (t : List ℕ). front ++ t)
    (sym (behind front new long) ∙ ap (drop 16) same ∙ behind front rest long)
    ∙ whole packet front rest place cut
