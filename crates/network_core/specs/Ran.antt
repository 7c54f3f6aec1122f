-- A whole run: what it stores was issued, what it answers was accepted, and what it sends is
-- delivered.
use Rattle.std.specs.Prelude.{◌≡◌, ℕ, List, map, Ok}
use Rattle.scion_topology.specs.Network.{Network}
use Rattle.scion_topology.specs.Topology.{IsNetwork}
use Rattle.forwarding.specs.declared.reply.TurnReply.TheVariants.{Still}
use Rattle.network_core.specs.declared.reply.Reply.TheVariants.{Sent, Turned}
use Rattle.network_core.specs.Event.{RouteValue, ByAnswer, EventValue, Send, Turn}
use Rattle.network_core.specs.Value.{Shipment, NetValue, new_net}
use Rattle.network_core.specs.Step.{shipment_by}
use Rattle.network_core.specs.History.{EventRecord, IsHistory, net_after, net_at, Occurs, AreIssued, AreAsked}
use Rattle.network_core.specs.Headline.{HaveBeginning, Headline}

-- a history from a new network of this topology, which keeps the rules of a topology. No turn in it
-- has the reply `Still`. Every segment that is ever stored was issued by its events, and every
-- answer was given by one of them. Every packet that a Send sent has the guarantees of `Headline`,
-- and one sent by an answer is on segments issued before.
pub record IsRun (network : Network) (history : List EventRecord) : Type 0 where
  pub lawful : IsNetwork network
  pub is : IsHistory (new_net network) history
  pub turned : (k p : ℕ) → ¬ (Occurs history k (Turn p) (Turned Still))
  pub issued : AreIssued (new_net network) history
  pub asked : AreAsked (new_net network) history
  pub delivered : (number p : ℕ) (route : RouteValue) (payload : List ℕ)
      → Occurs history number (Send route payload) (Sent p) → (sent : Shipment)
      × ((shipment_by (net_at (new_net network) history number) route payload ≡ Ok sent)
      × Headline (new_net network) history number p sent)
  pub by_answer : (k p ask path : ℕ) (payload : List ℕ)
      → Occurs history k (Send (ByAnswer ask path) payload) (Sent p) → (sent : Shipment)
      × ((shipment_by (net_at (new_net network) history k) (ByAnswer ask path) payload ≡ Ok sent)
      × HaveBeginning (new_net network) history k sent.way.pieces)

-- a run of these events ends with this network
pub record Ran (network : Network) (events : List EventValue) (net : NetValue) : Type 0 where
  pub history : List EventRecord
  pub run : IsRun network history
  pub of : map (λ one. one.event) history ≡ events
  pub ends : net_after (new_net network) history ≡ net
