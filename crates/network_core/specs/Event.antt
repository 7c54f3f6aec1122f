-- The events of a network, and which of them an event of the code is.
use Rattle.std.specs.Prelude.{ℕ, List, Result}
use Rattle.policy_expr.specs.declared.option_fault.OptionFault.{OptionFault}
use Rattle.policy_expr.specs.Options.{WeighedRules, options_at}
use Rattle.network_core.specs.declared.event.Event.{Event}
use Rattle.network_core.specs.declared.event.Event.TheVariants as events
use Rattle.network_core.specs.declared.event.Given.{Given}
use Rattle.network_core.specs.Value.{Way, way_with}

-- the route of a packet that is sent: a path of an answer, by the numbers of both; a given path; or
-- the way back of a delivered packet, by its number
pub data RouteValue : Type 0 where
  ByAnswer : (answer path : ℕ) → RouteValue
  ByWay : (way : Way) → RouteValue
  BackOf : (packet : ℕ) → RouteValue

-- an event. Addresses, interfaces, and the numbers of beacons, answers and packets are numbers;
-- keys and payloads are bytes. Policy options are those that their texts give, or the refusal of
-- the texts.
pub data EventValue : Type 0 where
  Tick : (to : ℕ) → EventValue
  Originate : (ia egress beta : ℕ) → EventValue
  Extend : (beacon ia egress : ℕ) → EventValue
  Terminate : (beacon ia : ℕ) → EventValue
  Sweep : EventValue
  Ask : (src dst : ℕ) (options : Result (List WeighedRules) OptionFault) (limit : ℕ) → EventValue
  Send : (route : RouteValue) (payload : List ℕ) → EventValue
  Turn : (packet : ℕ) → EventValue
  Lose : (packet : ℕ) → EventValue
  Alter : (packet at change : ℕ) → EventValue
  CutLink : (ia interface : ℕ) → EventValue
  MendLink : (ia interface : ℕ) → EventValue
  RotateKey : (ia : ℕ) (key : List ℕ) → EventValue

-- the value of a given path
abbrev pub way_of : Given → Way
way_of way = way_with way.source way.destination way.pieces.now way.header.now way.policy.now

-- the value of an event
abbrev pub event_value : Event → EventValue
event_value (events.Tick now) = Tick now
event_value (events.Originate ia egress beta0) = Originate ia egress beta0
event_value (events.Extend beacon ia egress) = Extend beacon ia egress
event_value (events.Terminate beacon ia) = Terminate beacon ia
event_value events.Sweep = Sweep
event_value (events.Ask src dst options limit) = Ask src dst (options_at options.now) limit
event_value (events.Send ask path payload) = Send (ByAnswer ask path) payload.now
event_value (events.SendGiven way payload) = Send (ByWay (way_of way)) payload.now
event_value (events.Turn packet) = Turn packet
event_value (events.Lose packet) = Lose packet
event_value (events.Alter packet at xor) = Alter packet at xor
event_value (events.Back packet payload) = Send (BackOf packet) payload.now
event_value (events.CutLink ia interface) = CutLink ia interface
event_value (events.MendLink ia interface) = MendLink ia interface
event_value (events.RotateKey ia key) = RotateKey ia key.now
