-- What the events of a beaconing do, by what their replies say.
use Rattle.std.specs.Prelude.{◌≡◌, ℕ, ◌==◌, ◌^◌, nat_lt, Bool, true, false, if◌then◌else◌, slice_get}
use Rattle.std.specs.List.{list_any}
use Rattle.std.specs.Option.{option_map_or}
use Rattle.network_core.specs.declared.reply.Reply.{Reply}
use Rattle.network_core.specs.declared.reply.Reply.TheVariants as replies
use Rattle.network_core.specs.Value.{NetValue}
use Rattle.network_core.specs.Step.{Step}
use Rattle.beacon_lines.specs.declared.event.BeaconEvent.{BeaconEvent}
use Rattle.beacon_lines.specs.declared.event.Effect.{Effect}
use Rattle.beacon_lines.specs.declared.event.Effect.TheVariants.{Begun, Stored, Done, Refused}
use Rattle.beacon_lines.specs.Beaconing.{network_event}

-- what an event made, by its reply
abbrev pub effect_of : Reply → Effect
effect_of (replies.Refused fault) = Refused
effect_of (replies.Registered is_new) = Stored is_new
effect_of (replies.Begun beacon) = if nat_lt beacon (2 ^ 32) then Begun beacon else Done
effect_of reply = Done

-- whether something is there that was not there before
abbrev pub is_new : Effect → Bool
is_new Refused = false
is_new (Stored new) = new
is_new effect = true

-- whether a segment is stored now
abbrev pub is_stored : Effect → Bool
is_stored (Stored new) = true
is_stored effect = false

-- the event is a step that has this effect
pub record Happens (old : NetValue) (event : BeaconEvent) (effect : Effect) (new : NetValue)
    : Type 0 where
  pub reply : Reply
  pub says : effect ≡ effect_of reply
  pub step : Step old (network_event event) reply new

-- whether the beacon of this number has an entry of this AS
abbrev pub has_passed : (net : NetValue) (beacon ia : ℕ) → Bool
has_passed net beacon ia = option_map_or
    (λ chain. list_any (λ entry. entry.ia == ia) chain.entries) (slice_get net.beacons beacon) false
