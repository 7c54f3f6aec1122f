-- A beaconing: ASes begin, pass on and end beacons (draft-dekater-scion-controlplane, path
-- construction).
use Rattle.std.specs.Prelude.{◌≡◌, ℕ, Bool, true, List, ◌∷◌, map, All, Contains, Ok}
use Rattle.scion_topology.specs.Network.{Network}
use Rattle.path_segment.specs.Chain.{Chain}
use Rattle.network_core.specs.Event.{EventValue, Tick, Originate, Extend, Terminate}
use Rattle.network_core.specs.Value.{NetValue, new_net}
use Rattle.network_core.specs.Step.{new_segment}
use Rattle.network_core.specs.History.{EventRecord, IsHistory, net_after}
use Rattle.network_core.specs.declared.reply.Reply.{Reply}
use Rattle.network_core.specs.declared.reply.Reply.TheVariants as replies
use Rattle.network_core.specs.Delivery.{AllFramed, is_done}
use Rattle.beacon_lines.specs.declared.event.BeaconEvent.{BeaconEvent}
use Rattle.beacon_lines.specs.declared.event.BeaconEvent.TheVariants as events

-- an event of a beaconing, as one of a network
abbrev pub network_event : BeaconEvent → EventValue
network_event (events.Originate ia egress beta0) = Originate ia egress beta0
network_event (events.Extend beacon ia egress) = Extend beacon ia egress
network_event (events.Terminate beacon ia) = Terminate beacon ia

-- an event of a beaconing after the first: a beacon is begun, passed on or ended
abbrev pub IsOfBeaconing : EventValue → Type 0
IsOfBeaconing (Originate ia egress beta) = Unit {0}
IsOfBeaconing (Extend beacon ia egress) = Unit {0}
IsOfBeaconing (Terminate beacon ia) = Unit {0}
IsOfBeaconing event = ⊥

-- if the event ends a beacon, the segment that the beacon becomes is stored in the network
abbrev pub StaysStored : (net : NetValue) (event : EventValue) → Type 0
StaysStored net (Terminate beacon ia) =
    (segment : Chain) × ((new_segment net beacon ia ≡ Ok segment) × Contains net.segments segment)
StaysStored net event = Unit {0}

-- whether an event was done; if a segment was registered by it, whether that was a new one
abbrev pub brings_new : Reply → Bool
brings_new (replies.Registered is_new) = is_new
brings_new reply = is_done reply

-- these events, all of a beaconing, lead from a new network of this topology to this network, once
-- its second is `now`; none of them is refused, and the segments that they end are stored in it,
-- each of them once
pub record IsBeaconing (network : Network) (now : ℕ) (events : List EventValue) (net : NetValue)
    : Type 0 where
  pub history : List EventRecord
  pub is : IsHistory (new_net network) history
  pub framed : AllFramed history
  pub of : map (λ one. one.event) history ≡ Tick now ∷ events
  pub ends : net_after (new_net network) history ≡ net
  pub done : All (λ one. brings_new one.reply ≡ true) history
  pub own : All IsOfBeaconing events
  pub stored : All (StaysStored net) events

-- a network, its second, and the events that have made it from its topology at this second
pub record BeaconRunValue : Type 0 where
  pub net : NetValue
  pub second : ℕ
  pub events : List EventValue
