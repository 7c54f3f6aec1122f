-- The inboxes of a run: their passes, and the inbox that a flight goes into (words of no public
-- clause).
use Rattle.std.specs.Prelude.{◌≡◌, ◌⊎◌, ℕ, ◌+◌, ◌%◌, ◌<◌, Bool, true, List, All, map, length, Some, slice_get, slice_set, IfOk}
use Rattle.scion_topology.specs.Network.{Network}
use Rattle.scion_topology.specs.Topology.{info_in}
use Rattle.forwarding.specs.declared.location.PacketLocation.{PacketLocation}
use Rattle.forwarding.specs.declared.location.PacketLocation.TheVariants as places
use Rattle.forwarding.specs.Turn.{Packet}
use Rattle.inbox.specs.Account.{with_put}
use Rattle.inbox.specs.Inbox.{Opened, WayThrough}
use Rattle.network_core.specs.Delivery.{IsAtRouter}
use Rattle.router_workers.specs.declared.pass_pairs.PassPair.{PassPair}

-- the passes belong to the inboxes, in their order
abbrev pub ArePassPairs : {T : Type 0} → List Opened → List (PassPair T) → Type 0
ArePassPairs inboxes pairs =
    (i : ℕ) (inbox : Opened) (pair : PassPair _) → slice_get inboxes i ≡ Some inbox
    → slice_get pairs i ≡ Some pair
    → (pair.sender.inbox ≡ inbox.inbox) × (pair.receiver.inbox ≡ inbox.inbox)

-- the inboxes of a run: one for each of its workers, of which there is at least one, and each with
-- this number of places
abbrev pub AreInboxes : (workers slots : ℕ) (inboxes : List Opened) → Type 0
AreInboxes workers slots inboxes =
    (0 < workers) × (length inboxes ≡ workers) × All (λ inbox. inbox.slots ≡ slots) inboxes

-- the inboxes of these ways, in their order
abbrev pub inboxes_of : {T : Type 0} → List (WayThrough T) → List Opened
inboxes_of ways = map (λ way. way.of) ways

-- the worker for a packet's router, among `workers` workers: the place of the router's AS in the
-- network plus the router's number, modulo the number of workers
abbrev pub IsNext : Network → ℕ → PacketLocation → ℕ → Type 0
IsNext n workers (places.AtRouter stop) next =
    IfOk (info_in n stop.ia) (λ info. next ≡ (info.position + stop.router) % workers)
IsNext n workers place next = Unit {0}

-- the packet is at a router, whose worker is this one
abbrev pub IsPosted : (n : Network) (workers worker : ℕ) (packet : Packet) → Type 0
IsPosted n workers worker packet =
    (worker < workers) × IsAtRouter packet.place × IsNext n workers packet.place worker

-- a way into an inbox after this flight was put in
abbrev pub put_in : {T : Type 0} → T → WayThrough T → WayThrough T
put_in carried way = record way { account = with_put way.account carried }

-- the flight was put in by this way; or it was dropped, and nothing was put in, because there are
-- more flights than places in an inbox
abbrev pub IsPutIn : {T : Type 0} → Bool → T → WayThrough T → WayThrough T → Type 0
IsPutIn crowded carried old new = (new ≡ put_in carried old) ⊎ ((new ≡ old) × (crowded ≡ true))

-- `IsPutIn` for the way of this number; the other ways are as they were
abbrev pub IsPassedTo : {T : Type 0} → Bool → T → ℕ → List (WayThrough T) → List (WayThrough T)
    → Type 0
IsPassedTo crowded carried next old new = (before : WayThrough _) × (after : WayThrough _)
    × (slice_get old next ≡ Some before) × IsPutIn crowded carried before after
    × (new ≡ slice_set old next after)
