-- The flights of the first packets of a network.
use Rattle.std.proofs.Common.{◌≡◌, ℕ, zero, suc, ◌+◌, ◌<◌, List, [], ◌∷◌, ◌++◌, length, Some, All, refl, sym, ap, ◌∙◌, subst, arith, inl, inr, ◌⊎◌}
use Rattle.std.specs.Prelude.{slice_get}
use Rattle.std.proofs.lemmas.List.{length-append}
use Rattle.std.proofs.lemmas.List.Elements.{All-push}
use Rattle.std.proofs.lemmas.Option.{same_Some}
use Rattle.scion_topology.specs.Network.{Network}
use Rattle.network_core.specs.Value.{PacketValue}
use Rattle.router_workers.specs.Flight.{FlightValue}
use Rattle.work_lines.specs.Report.{IsFlightOf}

-- so many flights, of the first packets, over this network
pub record AreFirst (n : Network) (packets : List PacketValue) (count : ℕ) (flights : List FlightValue) : Type 0 where
  pub all : length flights ≡ count
  pub each : (i : ℕ) (one : PacketValue) (flight : FlightValue) → slice_get packets i ≡ Some one
      → slice_get flights i ≡ Some flight → IsFlightOf n one.sent flight
  pub fabric : All (λ flight. flight.fabric ≡ n) flights

-- an element of a list with one more at its end is one of the list, or the last
at_last : {A : Type 0} (xs : List A) (x : A) (i : ℕ) (y : A) → slice_get (xs ++ x ∷ []) i ≡ Some y
    → ((i < length xs) × (slice_get xs i ≡ Some y)) ⊎ ((i ≡ length xs) × (x ≡ y))
at_last [] x zero y there = inr (refl, cc)
at_last [] x (suc i) y there = absurd cc
at_last (z ∷ xs) x zero y there = inl (omega arith, there)
at_last (z ∷ xs) x (suc i) y there = elim (at_last xs x i y there) [
  | inl inside ↦ (let h = inside.0 in inl (omega arith, inside.1))
  | inr last ↦ inr (ap (λ n. suc n) last.0, last.1)
]

-- one more
pub one_more : (n : Network) (packets : List PacketValue) (count : ℕ) (flights : List FlightValue) (one : PacketValue) (flight : FlightValue)
    → AreFirst n packets count flights → slice_get packets count ≡ Some one
    → IsFlightOf n one.sent flight → AreFirst n packets (count + 1) (flights ++ flight ∷ [])
one_more n packets count flights one flight first there is = record {
  all = length-append flights (flight ∷ []) ∙ ap (λ k. k + 1) first.all;
  each = λ i other last at_packet at. elim (at_last flights flight i last at) [
    | inl inside ↦ first.each i other last at_packet inside.1
    | inr end ↦ (let same : one ≡ other = same_Some one other (sym there ∙ ap (slice_get packets) (sym (end.0 ∙ first.all)) ∙ at_packet) in
        subst (λ (p : PacketValue). IsFlightOf n p.sent last) same
        (subst (λ (f : FlightValue). IsFlightOf n one.sent f) end.1 is))
  ];
  fabric = All-push (λ (f : FlightValue). f.fabric ≡ n) flights flight first.fabric
      (ap (λ (f : FlightValue). f.fabric) is.1);
}
