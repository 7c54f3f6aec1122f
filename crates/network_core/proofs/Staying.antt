-- A packet that was delivered stays as it is.
use Rattle.std.proofs.Common.{◌≡◌, ℕ, ◌+◌, ◌<◌, ◌≤◌, List, length, Some, Result, Ok, Err, ap, ◌∙◌, inl, inr}
use Rattle.std.specs.Prelude.{slice_get}
use Rattle.std.specs.Option.{ok_or}
use Rattle.std.proofs.lemmas.Bool.{cases_eq}
use Rattle.std.proofs.lemmas.Option.{slice_get_within}
use Rattle.refusal.specs.Refusal.{◌>>=◌}
use Rattle.forwarding.specs.declared.location.PacketLocation.TheVariants.{Delivered}
use Rattle.network_core.specs.declared.fault.EventFault.{EventFault}
use Rattle.network_core.specs.declared.fault.EventFault.TheVariants as faults
use Rattle.network_core.specs.declared.reply.Reply.{Reply}
use Rattle.network_core.specs.Event.{EventValue, Turn, Lose, Alter}
use Rattle.network_core.specs.Value.{PacketValue, NetValue}
use Rattle.network_core.specs.Step.{Made, is_in_flight, flying_at, Leads, Step}
use Rattle.network_core.specs.History.{EventRecord, IsHistory, net_at}
use Rattle.network_core.proofs.Keeping.{kept}
use Rattle.network_core.proofs.Numbers.{kept_to}

-- ---- it is not in flight, so no event of it is done

abbrev packet_ok : PacketValue → Result PacketValue EventFault
packet_ok one = Ok one

not_flying : (net : NetValue) (q : ℕ) (one : PacketValue) → slice_get net.packets q ≡ Some one
    → one.packet.place ≡ Delivered → flying_at net q ≡ Err faults.NotInFlight
not_flying net q one there delivered =
    ap (λ o. ok_or o faults.NoPacket >>= λ (x : PacketValue). is_in_flight x.packet.place >>= λ _. packet_ok x) there
    ∙ ap (λ place. is_in_flight place >>= λ _. packet_ok one) delivered

refused_first : {A : Type 0} (old new : NetValue) (reply : Reply) (r : Result A EventFault)
    (f : A → Made) (fault : EventFault) → r ≡ Err fault → Leads (r >>= f) old reply new → new ≡ old
refused_first old new reply (Ok x) f fault is leads = absurd cc
refused_first old new reply (Err other) f fault is leads = leads.1

module _ (p : ℕ) (old new : NetValue) (one : PacketValue) (there : slice_get old.packets p ≡ Some one)
    (delivered : one.packet.place ≡ Delivered) where
  within : p < length old.packets
  within = slice_get_within old.packets p one there

  unchanged : new ≡ old → slice_get new.packets p ≡ Some one
  unchanged same = ap (λ (net : NetValue). slice_get net.packets p) same ∙ there

  named : (q : ℕ) (reply : Reply) (f : PacketValue → Made) → q ≡ p
      → Leads (flying_at old q >>= f) old reply new → slice_get new.packets p ≡ Some one
  named q reply f same is =
      unchanged (refused_first old new reply (flying_at old q) f faults.NotInFlight
      (ap (flying_at old) same ∙ not_flying old p one there delivered) is)

  stays_on : (event : EventValue) (reply : Reply) → Step old event reply new
      → slice_get new.packets p ≡ Some one
  stays_on (Turn q) reply is = elim (cases_eq q p) [
    | inl same ↦ named q reply _ same is
    | inr other ↦ kept p old new (Turn q) reply within other is ∙ there
  ]
  stays_on (Lose q) reply is = elim (cases_eq q p) [
    | inl same ↦ named q reply _ same is
    | inr other ↦ kept p old new (Lose q) reply within other is ∙ there
  ]
  stays_on (Alter q at change) reply is = elim (cases_eq q p) [
    | inl same ↦ named q reply _ same is
    | inr other ↦ kept p old new (Alter q at change) reply within other is ∙ there
  ]
  stays_on event reply is = kept p old new event reply within (λ names. names) is ∙ there

pub delivered_stays : (start : NetValue) (history : List EventRecord) (p k j : ℕ) (one : PacketValue)
    → IsHistory start history → k ≤ j → slice_get (net_at start history k).packets p ≡ Some one
    → one.packet.place ≡ Delivered → slice_get (net_at start history j).packets p ≡ Some one
delivered_stays start history p k j one is order there delivered =
    kept_to start history (λ net. slice_get net.packets p ≡ Some one) k j order is
    (λ i m low at step before. stays_on p (net_at start history i) (net_at start history (i + 1)) one before delivered m.event m.reply step)
    there
