-- The bytes of a packet of these parts, and the step of a router over them.
use Rattle.std.proofs.Common.{◌≡◌, ℕ, ◌^◌, ◌<◌, ◌≤◌, List, ◌++◌, length, Result, Ok, refl, ap, ◌∙◌, arith, append_assoc, length-append}
use Rattle.std.specs.Int.{w64, to_be_bytes}
use Rattle.std.proofs.lemmas.Bool.{le-ltb}
use Rattle.std.proofs.lemmas.Nat.{from_be_bytes-to_be_bytes_8}
use Rattle.refusal.specs.Refusal.{◌>>=◌, refused_as}
use Rattle.scion_topology.specs.View.{View}
use Rattle.path_header.specs.Value.{HeaderValue, header_len}
use Rattle.path_header.specs.Spelling.{SpellsHeader, spelling}
use Rattle.router_step.specs.declared.arrival.Arrival.{Arrival}
use Rattle.router_step.specs.declared.outcome.Outcome.{Outcome}
use Rattle.router_step.specs.declared.fault.Refusal.{Refusal}
use Rattle.router_step.specs.Step.{step_of}
use Rattle.router_step.specs.declared.fault.Refusal.TheVariants.{BadHeader}
use Rattle.router_step.specs.Packet.{destination_of, source_of, header_in, packet_step, IsFrame}
use Rattle.path_header.proofs.WholeHeader.{spelled_is_read}
use Rattle.router_step.proofs.Frames.{frame_stepped}
use Rattle.forwarding.specs.Frame.{addresses, frame_of}

-- the parts one behind another
pub framed_in_turn : (source destination : ℕ) (header : HeaderValue)
    (payload one two text all : List ℕ)
    → one ≡ to_be_bytes w64 destination → two ≡ to_be_bytes w64 source → text ≡ spelling header
    → all ≡ (((one ++ two) ++ text) ++ payload) → all ≡ frame_of source destination header payload
unfolding frame_of
framed_in_turn source destination header payload one two text all d s t is =
    is ∙ append_assoc (one ++ two) text payload
    ∙ ap (λ xs. (xs ++ two) ++ (text ++ payload)) d
    ∙ ap (λ xs. (to_be_bytes w64 destination ++ xs) ++ (text ++ payload)) s
    ∙ ap (λ xs. addresses source destination ++ (xs ++ payload)) t

-- both addresses are read as they were written
pub destination_is : (source destination : ℕ) (header : HeaderValue) (payload : List ℕ)
    → destination < 2 ^ 64
    → destination_of (frame_of source destination header payload) ≡ destination
unfolding frame_of
destination_is source destination header payload fits = from_be_bytes-to_be_bytes_8 destination fits

pub source_is : (source destination : ℕ) (header : HeaderValue) (payload : List ℕ) → source < 2 ^ 64
    → source_of (frame_of source destination header payload) ≡ source
unfolding frame_of
source_is source destination header payload fits = from_be_bytes-to_be_bytes_8 source fits

-- and the header
pub header_is_read : (source destination : ℕ) (header : HeaderValue) (payload : List ℕ)
    → SpellsHeader (spelling header) header
    → header_in (frame_of source destination header payload) ≡ Ok (header, header_len header)
unfolding frame_of
header_is_read source destination header payload spells =
    let packet = addresses source destination ++ (spelling header ++ payload) in
    let two : length (addresses source destination) ≡ 16 = refl in
    let count = length-append (addresses source destination) (spelling header ++ payload) in
    let long : 16 ≤ length packet = omega arith in
    rw (le-ltb (length packet) 16 long)
    (ap (refused_as BadHeader) (spelled_is_read header (spelling header) payload spells))

pub is_frame : (source destination : ℕ) (header : HeaderValue) (payload : List ℕ)
    → SpellsHeader (spelling header) header
    → IsFrame (frame_of source destination header payload) (addresses source destination)
    (spelling header) payload header
unfolding frame_of
is_frame source destination header payload spells =
    record { whole = refl; two = refl; spells = spells }

abbrev answer : ℕ → ℕ → List ℕ → Outcome × HeaderValue → Result (Outcome × List ℕ) Refusal
answer source destination payload done =
    Ok (done.0, addresses source destination ++ (spelling done.1 ++ payload))

-- a step over the header is one over the packet's bytes
pub frame_goes : (view : View) (now : ℕ) (arrival : Arrival) (source destination : ℕ)
    (header : HeaderValue) (payload : List ℕ) (done : Outcome × HeaderValue)
    → source < 2 ^ 64 → destination < 2 ^ 64 → SpellsHeader (spelling header) header
    → step_of view now arrival source destination header ≡ Ok done
    → packet_step view now arrival (frame_of source destination header payload)
    ≡ Ok (done.0, frame_of source destination done.1 payload)
unfolding frame_of
frame_goes view now arrival source destination header payload done from for spells step =
    let packet = frame_of source destination header payload in
    frame_stepped view now arrival packet (addresses source destination) (spelling header) payload
    header (is_frame source destination header payload spells)
    ∙ ap (λ s. step_of view now arrival s (destination_of packet) header
    >>= answer source destination payload) (source_is source destination header payload from)
    ∙ ap (λ d. step_of view now arrival source d header >>= answer source destination payload)
    (destination_is source destination header payload for)
    ∙ ap (λ (r : Result (Outcome × HeaderValue) Refusal). r >>= answer source destination payload)
    step
