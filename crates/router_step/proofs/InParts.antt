-- The step over the bytes behind a packet's addresses is that over the packet in one piece.
use Rattle.std.proofs.Common.{◌≡◌, ℕ, ◌≤◌, true, List, ◌++◌, Result, length, take, drop, refl, sym, ◌∙◌, ap, subst, arith, length-append, length-drop}
use Rattle.std.specs.Int.{w64, from_be_bytes}
use Rattle.std.proofs.Math.Seq.{take-append_seam, drop-append_seam}
use Rattle.std.proofs.lemmas.Bool.{le-ltb}
use Rattle.std.proofs.lemmas.List.{take-append-le, drop-append-le}
use Rattle.scion_topology.specs.View.{View}
use Rattle.path_header.specs.Shown.{has_header}
use Rattle.path_header.proofs.Seen.{read_is}
use Rattle.router_step.specs.declared.outcome.Outcome.{Outcome}
use Rattle.router_step.specs.declared.fault.Refusal.{Refusal}
use Rattle.router_step.specs.declared.arrival.Arrival.{Arrival}
use Rattle.router_step.specs.Packet.{source_of, destination_of, packet_step, IsPacketStepped}
use Rattle.router_step.specs.Step.{step_of}
use Rattle.router_step.proofs.BehindAddresses.{StepsBytes, IsRead, by_addresses, packet_stepped}

-- ---- addresses and what stands behind them

front_is : (addresses rest : List ℕ) → length addresses ≡ 16
    → take 16 (addresses ++ rest) ≡ addresses
front_is addresses rest both =
    subst (λ n. take n (addresses ++ rest) ≡ addresses) both (take-append_seam addresses rest)

back_is : (addresses rest : List ℕ) → length addresses ≡ 16 → drop 16 (addresses ++ rest) ≡ rest
back_is addresses rest both =
    subst (λ n. drop n (addresses ++ rest) ≡ rest) both (drop-append_seam addresses rest)

pub destination_is : (addresses rest : List ℕ) → length addresses ≡ 16
    → destination_of addresses ≡ destination_of (addresses ++ rest)
destination_is addresses rest both =
    ap (from_be_bytes w64) (sym (take-append-le 8 addresses rest (omega (arith, both))))

pub source_is : (addresses rest : List ℕ) → length addresses ≡ 16
    → source_of addresses ≡ source_of (addresses ++ rest)
source_is addresses rest both =
    ap (from_be_bytes w64)
    (sym (ap (take 8) (drop-append-le 8 addresses rest (omega (arith, both)))
    ∙ take-append-le 8 (drop 8 addresses) rest (omega (arith, both, length-drop 8 addresses))))

-- ---- the step

read_behind : (packet rest : List ℕ) → 16 ≤ length packet → drop 16 packet ≡ rest
    → has_header rest ≡ true → IsRead packet
read_behind packet rest long behind has =
    rw (le-ltb (length packet) 16 long, read_is (drop 16 packet) (ap has_header behind ∙ has)) refl

pub in_parts : (view : View) (now : ℕ) (arrival : Arrival) (addresses rest new : List ℕ)
    (source destination : ℕ) (result : Result Outcome Refusal) → length addresses ≡ 16
    → has_header rest ≡ true → source ≡ source_of addresses
    → destination ≡ destination_of addresses
    → StepsBytes (step_of view now arrival source destination) rest new result
    → IsPacketStepped (packet_step view now arrival (addresses ++ rest)) (addresses ++ rest)
    (addresses ++ new) result
in_parts view now arrival addresses rest new source destination result both has from to steps =
    let packet = addresses ++ rest in
    let long : 16 ≤ length packet = omega (arith, both, length-append addresses rest) in
    let behind = back_is addresses rest both in
    packet_stepped view now arrival packet addresses new result
    (read_behind packet rest long behind has) (sym (front_is addresses rest both))
    (by_addresses view now arrival packet rest new source destination result
    (from ∙ source_is addresses rest both) (to ∙ destination_is addresses rest both) (sym behind)
    steps)
