-- A history: each event with its reply and the network after it; which events issued a segment, and
-- which gave an answer (draft-dekater-scion-controlplane, path construction and registration).
use Rattle.std.specs.Prelude.{◌≡◌, ℕ, ◌<◌, Bool, List, [], ◌∷◌, ◌++◌, take, map, slice_get, Some, Ok, All}
use Rattle.std.specs.Option.{option_map_or}
use Rattle.path_segment.specs.Chain.{Chain}
use Rattle.policy_expr.specs.Options.{WeighedRules}
use Rattle.path_verifier.specs.Accepted.{IsAccepted}
use Rattle.beaconing.specs.Entry.{key_in}
use Rattle.beaconing.specs.Calls.{terminated_beacon}
use Rattle.beaconing.specs.Issued.{IsIssued}
use Rattle.network_core.specs.declared.reply.Reply.{Reply}
use Rattle.network_core.specs.declared.reply.Reply.TheVariants.{Answered, Begun, Registered}
use Rattle.network_core.specs.Event.{EventValue, Originate, Extend, Terminate, Ask}
use Rattle.network_core.specs.Value.{KeptAnswer, way_on, asked_at, NetValue}
use Rattle.network_core.specs.Step.{IsAnswerTo, Step}

-- an event of a history, its reply, and the network after it
pub record EventRecord : Type 0 where
  pub event : EventValue
  pub reply : Reply
  pub net : NetValue

-- each event is a step from the network that the event before it left
abbrev pub IsHistory : NetValue → List EventRecord → Type 0
IsHistory start [] = Unit {0}
IsHistory start (one ∷ later) = Step start one.event one.reply one.net × IsHistory one.net later

-- the network after all of these events
abbrev pub net_after : NetValue → List EventRecord → NetValue
net_after start [] = start
net_after start (one ∷ later) = net_after one.net later

-- the network before event number `k`, that is, after the `k` events before it; numbers count from
-- 0
abbrev pub net_at : NetValue → List EventRecord → ℕ → NetValue
net_at start history k = net_after start (take k history)

-- event number `k` is this one and has this reply
pub record Occurs (history : List EventRecord) (k : ℕ) (event : EventValue) (reply : Reply)
    : Type 0 where
  pub net : NetValue
  pub there : slice_get history k ≡ Some (record { event = event; reply = reply; net = net })

-- the events of these numbers pass a beacon on, each the beacon that the event before it gave; the
-- last of them gives the beacon `last`
abbrev pub PassOn : (history : List EventRecord) (beacon : ℕ) (later : List ℕ) (last : ℕ) → Type 0
PassOn history beacon [] last = beacon ≡ last
PassOn history beacon (k ∷ later) last = (ia egress next : ℕ)
    × Occurs history k (Extend beacon ia egress) (Begun next) × PassOn history next later last

-- the AS that acts in such an event
abbrev pub doer : EventValue → ℕ
doer (Originate ia egress beta0) = ia
doer (Extend beacon ia egress) = ia
doer (Terminate beacon ia) = ia
doer event = 0

-- the key in use of the AS that acts in event number `k`, at that time
abbrev pub key_then : NetValue → List EventRecord → ℕ → List ℕ
key_then start history k = option_map_or
    (λ (one : EventRecord). key_in (net_at start history k).network (doer one.event))
    (slice_get history k) []

-- the segment was issued by events of this history: an Originate with number `first`, any number of
-- Extends, and a Terminate with number `last`. Each acts on the beacon that the event before it
-- gave. The network makes this segment with the key in use of each AS at its own event.
pub record IssuedIn (start : NetValue) (history : List EventRecord) (first last : ℕ)
    (segment : Chain) : Type 0 where
  pub ia : ℕ
  pub egress : ℕ
  pub beta0 : ℕ
  pub begun : ℕ
  pub start_of : Occurs history first (Originate ia egress beta0) (Begun begun)
  pub between : List ℕ
  pub beacon : ℕ
  pub passed_on : PassOn history begun between beacon
  pub at : ℕ
  pub is_new : Bool
  pub ended : Occurs history last (Terminate beacon at) (Registered is_new)
  pub chain : Chain
  pub kept : slice_get (net_at start history last).beacons beacon ≡ Some chain
  pub gives : terminated_beacon (net_at start history last).network chain at ≡ Ok segment
  pub made : IsIssued (net_at start history last).network
      (map (key_then start history) (first ∷ between ++ last ∷ [])) segment

-- the segment was issued by events with numbers below `k`
abbrev pub IssuedBefore : NetValue → List EventRecord → ℕ → Chain → Type 0
IssuedBefore start history k segment =
    (first last : ℕ) × (last < k) × IssuedIn start history first last segment

-- after any number of events, every stored segment was issued by events before
abbrev pub AreIssued : NetValue → List EventRecord → Type 0
AreIssued start history =
    (k : ℕ) → All (IssuedBefore start history k) (net_at start history k).segments

-- the answer of this number was given by an Ask before event number `k`. It is what the network's
-- segments answered then. Each of its paths was accepted then, for the ends of the request and
-- under the policy of the used option. The segments of its paths were issued by events before the
-- Ask.
pub record IsAskedBefore (start : NetValue) (history : List EventRecord) (k number : ℕ)
    (one : KeptAnswer) : Type 0 where
  pub at : ℕ
  pub before : at < k
  pub options : List WeighedRules
  pub limit : ℕ
  pub asked : Occurs history at (Ask one.source one.destination (Ok options) limit)
      (Answered number)
  pub is : IsAnswerTo (net_at start history at) one.source one.destination options limit one
  pub accepted : All (λ path. IsAccepted
      (asked_at (net_at start history at).moment (way_on one path))) one.answer.paths
  pub issued : All (λ path. All (λ piece. IssuedBefore start history at piece.segment) path.pieces)
      one.answer.paths

-- after any number of events, every answer was given by an event before
abbrev pub AreAsked : NetValue → List EventRecord → Type 0
AreAsked start history = (k number : ℕ) (one : KeptAnswer)
    → slice_get (net_at start history k).answers number ≡ Some one
    → IsAskedBefore start history k number one
