-- A packet in its parts, and the step on them.
use Rattle.std.proofs.Common.{◌≡◌, ℕ, ◌+◌, ◌≤◌, List, ◌++◌, Result, Ok, length, take, drop, sym, ◌∙◌, ap, subst, arith}
use Rattle.std.proofs.Math.Seq.{take-append_seam, drop-append_seam}
use Rattle.std.proofs.lemmas.Bool.{le-ltb}
use Rattle.std.proofs.lemmas.List.{drop-drop, length-append}
use Rattle.refusal.specs.Refusal.{◌>>=◌, refused_as}
use Rattle.scion_topology.specs.View.{View}
use Rattle.path_header.specs.Value.{HeaderValue, header_len}
use Rattle.path_header.specs.Spelling.{spelling}
use Rattle.path_header.specs.Reading.{read_at}
use Rattle.path_header.proofs.WholeHeader.{spelled_is_read, spelled_is_long}
use Rattle.router_step.specs.declared.outcome.Outcome.{Outcome}
use Rattle.router_step.specs.declared.fault.Refusal.{Refusal}
use Rattle.router_step.specs.declared.arrival.Arrival.{Arrival}
use Rattle.router_step.specs.declared.fault.Refusal.TheVariants.{BadHeader}
use Rattle.router_step.specs.Packet.{source_of, destination_of, header_in, packet_step, frame_step, IsFrame}
use Rattle.router_step.specs.Step.{step_of}

-- what stands behind the addresses
pub behind : (packet addresses text rest : List ℕ) (header : HeaderValue) → IsFrame packet addresses text rest header → drop 16 packet ≡ text ++ rest
behind packet addresses text rest header f =
    ap (drop 16) f.whole ∙ subst (λ n. drop n (addresses ++ (text ++ rest)) ≡ text ++ rest) f.two (drop-append_seam addresses (text ++ rest))

in_front : (packet addresses text rest : List ℕ) (header : HeaderValue) → IsFrame packet addresses text rest header → take 16 packet ≡ addresses
in_front packet addresses text rest header f =
    ap (take 16) f.whole ∙ subst (λ n. take n (addresses ++ (text ++ rest)) ≡ addresses) f.two (take-append_seam addresses (text ++ rest))

-- the header of a packet of these parts
pub read_in : (packet addresses text rest : List ℕ) (header : HeaderValue) → IsFrame packet addresses text rest header → header_in packet ≡ Ok (header, header_len header)
read_in packet addresses text rest header f =
    let long : 16 ≤ length packet = rw f.whole (omega (arith, length-append addresses (text ++ rest), f.two)) in
    rw (le-ltb (length packet) 16 long) (ap (refused_as BadHeader) (ap read_at (behind packet addresses text rest header f) ∙ spelled_is_read header text rest f.spells))

rest_of : (packet addresses text rest : List ℕ) (header : HeaderValue) → IsFrame packet addresses text rest header → drop (16 + header_len header) packet ≡ rest
rest_of packet addresses text rest header f =
    sym (drop-drop (header_len header) 16 packet) ∙ ap (drop (header_len header)) (behind packet addresses text rest header f)
    ∙ ap (λ n. drop n (text ++ rest)) (sym (spelled_is_long header text f.spells)) ∙ drop-append_seam text rest

-- a packet with this spelling between two parts
abbrev framed : List ℕ → List ℕ → Outcome × HeaderValue → Result (Outcome × List ℕ) Refusal
framed front rest stepped = Ok (stepped.0, front ++ (spelling stepped.1 ++ rest))

again : (step : Result (Outcome × HeaderValue) Refusal) (a b c d : List ℕ) → a ≡ b → c ≡ d → (step >>= framed a c) ≡ (step >>= framed b d)
again step a b c d front back = ap (λ (x : List ℕ). step >>= framed x c) front ∙ ap (λ (x : List ℕ). step >>= framed b x) back

-- a step over a packet of these parts
pub frame_stepped : (view : View) (now : ℕ) (arrival : Arrival) (packet addresses text rest : List ℕ) (header : HeaderValue) → IsFrame packet addresses text rest header
    → packet_step view now arrival packet ≡ frame_step view now arrival packet addresses header rest
unfolding packet_step
frame_stepped view now arrival packet addresses text rest header f =
    rw (read_in packet addresses text rest header f)
    (again (step_of view now arrival (source_of packet) (destination_of packet) header) (take 16 packet) addresses (drop (16 + header_len header) packet) rest
    (in_front packet addresses text rest header f) (rest_of packet addresses text rest header f))
