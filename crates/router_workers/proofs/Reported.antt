-- What a report says of a sound flight.
use Rattle.std.proofs.Common.{◌≡◌, ℕ, zero, suc, ◌<◌, List, [], ◌∷◌, length, get_or, Some, refl, sym, ap, ◌∙◌, subst, arith, inl, inr}
use Rattle.std.specs.Prelude.{slice_get}
use Rattle.std.proofs.lemmas.Bool.{cases_lt}
use Rattle.scion_topology.specs.Network.{Network}
use Rattle.path_verifier.specs.Walk.{walk_of}
use Rattle.path_verifier.specs.Accepted.{AreLive}
use Rattle.forwarding.specs.declared.location.PacketLocation.{PacketLocation}
use Rattle.forwarding.specs.declared.location.PacketLocation.TheVariants as places
use Rattle.forwarding.specs.Turn.{Packet, turned_packet, after}
use Rattle.forwarding.specs.Journey.{turns_for}
use Rattle.router_workers.specs.declared.end.End.{End}
use Rattle.router_workers.specs.declared.end.End.TheVariants as ends
use Rattle.network_core.specs.Delivery.{IsRefusedAt, IsAtRouter}
use Rattle.router_workers.specs.Flight.{SentPacket, FlightValue, IsFlight, flight_at_start}
use Rattle.router_workers.specs.Delivery.{IsFlightForwarded, IsSoundIn, IsSoundEnd}
use Rattle.router_workers.specs.Run.{packet_after_turns, place_after, IsFlightEnd, IsReport}
use Rattle.router_workers.proofs.Delivered.{delivered}

-- ---- one second, so many times

abbrev again : ℕ → ℕ → List ℕ
again now zero = []
again now (suc k) = now ∷ again now k

length_again : (now k : ℕ) → length (again now k) ≡ k
length_again now zero = refl
length_again now (suc k) = ap suc (length_again now k)

all_again : (P : ℕ → Type 0) (now k : ℕ) → P now → (j d : ℕ) → j < length (again now k)
    → P (get_or (again now k) j d)
all_again P now zero holds j d within = absurd (omega (arith, within))
all_again P now (suc k) holds zero d within = holds
all_again P now (suc k) holds (suc j) d within = all_again P now k holds j d (omega (arith, within))

one_before : (n : Network) (now : ℕ) (packet : Packet) (k : ℕ)
    → packet_after_turns n now (turned_packet n now packet) k ≡ turned_packet n now (packet_after_turns n now packet k)
one_before n now packet zero = refl
one_before n now packet (suc k) = ap (turned_packet n now) (one_before n now packet k)

same_as_after : (n : Network) (now : ℕ) (packet : Packet) (k : ℕ)
    → packet_after_turns n now packet k ≡ after n packet (again now k)
same_as_after n now packet zero = refl
same_as_after n now packet (suc k) =
    sym (one_before n now packet k) ∙ same_as_after n now (turned_packet n now packet) k

-- ---- a sound flight

never : (place : PacketLocation) → IsAtRouter place → place ≡ places.Delivered → ⊥
never place at delivered = subst IsAtRouter delivered at

refused_at : (place other : PacketLocation) (ia router : ℕ) (refusal : _)
    → place ≡ places.Refused ia router refusal → IsRefusedAt place
refused_at place other ia router refusal is = subst IsRefusedAt (sym is) tt

module _ (n : Network) (sent : SentPacket) (start : Packet) (now : ℕ)
    (flight : IsFlight (flight_at_start n sent start)) (sound : IsSoundIn n sent)
    (live : AreLive now sent.pieces) where
  abbrev total : ℕ
  total = turns_for n (walk_of sent.pieces)

  abbrev given : FlightValue
  given = flight_at_start n sent start

  forwarded : (k : ℕ) → IsFlightForwarded sent total k (packet_after_turns n now start k)
  forwarded k = subst (λ p. IsFlightForwarded sent total k p) (sym (same_as_after n now start k))
      (subst (λ m. IsFlightForwarded sent total m (after n start (again now k))) (length_again now k)
      (delivered n sent start (again now k) flight sound
      (all_again (λ m. AreLive m sent.pieces) now k live)))

  ended : (flights : List FlightValue) (slots : ℕ) (end : End)
      → IsFlightEnd flights now slots given end → IsSoundEnd total end
  ended flights slots (ends.Delivered turns) is =
      let enough = (forwarded turns).exact.0 is.0 in
      elim (cases_lt total turns) [
        | inl early ↦ absurd (never (place_after now given total) (is.1 total early)
            ((forwarded total).exact.1 (omega arith)))
        | inr not ↦ omega arith
      ]
  ended flights slots (ends.Refused refusal turns) is =
      absurd ((forwarded turns).unrefused
      (refused_at (place_after now given turns) (place_after now given turns) is.0.0 is.0.1.0 refusal
      is.0.1.1))
  ended flights slots (ends.Dropped turns) is = elim (cases_lt turns total) [
    | inl early ↦ early
    | inr not ↦ absurd (never (place_after now given turns) is.0 ((forwarded turns).exact.1 not))
  ]

pub sound_reported : (flights : List FlightValue) (now slots i : ℕ) (ends : List End) (n : Network)
    (sent : SentPacket) (start : Packet) (end : End) → IsReport flights now slots ends
    → slice_get flights i ≡ Some (flight_at_start n sent start) → slice_get ends i ≡ Some end
    → IsFlight (flight_at_start n sent start) → IsSoundIn n sent → AreLive now sent.pieces
    → IsSoundEnd (turns_for n (walk_of sent.pieces)) end
sound_reported flights now slots i ends n sent start end report there here flight sound live =
    ended n sent start now flight sound live flights slots end
    (report.each i (flight_at_start n sent start) end there here)
