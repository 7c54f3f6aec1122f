-- The replies to lines: the first line begins a network, and the later ones are its events.
use Rattle.std.specs.Prelude.{◌≡◌, ℕ, codes, List, [], ◌∷◌, ◌++◌, Option, Some, None, Result, Ok, Err, slice_get}
use Rattle.std.specs.List.{flat_map}
use Rattle.refusal.specs.Fault.{code_text}
use Rattle.scion_topology.specs.declared.fault.TopologyFault.{TopologyFault}
use Rattle.scion_topology.specs.Fault as topology
use Rattle.scion_topology.specs.Network.{Network}
use Rattle.scion_topology.specs.Topology.{network_in}
use Rattle.network_core.specs.declared.reply.Reply.{Reply}
use Rattle.network_core.specs.Event.{EventValue}
use Rattle.network_core.specs.Value.{NetValue, new_net}
use Rattle.network_core.specs.History.{EventRecord, net_after}
use Rattle.network_core.specs.Ran.{Ran}
use Rattle.event_lines.specs.declared.accepted.AcceptedLines.{AcceptedLines}
use Rattle.event_lines.specs.AcceptedLines.{accepted_as}
use Rattle.event_lines.specs.Line.{LineValue, Happens, Shows, line_in}
use Rattle.event_lines.specs.Text.{bad_line, packet_text, reply_text}

-- ---- lines after the first

-- the event of a line, if it is one
abbrev pub event_of : Option LineValue → List EventValue
event_of (Some (Happens event)) = event ∷ []
event_of (Some (Shows packet)) = []
event_of None = []

-- the events of those lines that the run accepts, in their order
abbrev pub events_of : AcceptedLines → List (List ℕ) → List EventValue
events_of accepted lines = flat_map (λ line. event_of (accepted_as accepted (line_in line))) lines

-- the reply to a line in a network, and the events that happen. An event has its reply. If a packet
-- is shown, or the line has no value, nothing happens.
abbrev pub IsAnswered : NetValue → Option LineValue → List ℕ → List EventRecord → Type 0
IsAnswered net (Some (Happens event)) text happened = (reply : Reply) × (new : NetValue)
    × ((happened ≡ record { event = event; reply = reply; net = new } ∷ [])
    × (text ≡ reply_text new reply))
IsAnswered net (Some (Shows packet)) text happened =
    (happened ≡ []) × (text ≡ packet_text (slice_get net.packets packet))
IsAnswered net None text happened = (happened ≡ []) × (text ≡ bad_line)

-- the replies to these lines in a network, one after another, and the events that happen
abbrev pub AreAnswered : (accepted : AcceptedLines) (net : NetValue) (lines texts : List (List ℕ))
    (history : List EventRecord) → Type 0
AreAnswered accepted net [] texts history = (texts ≡ []) × (history ≡ [])
AreAnswered accepted net (line ∷ lines) [] history = ⊥
AreAnswered accepted net (line ∷ lines) (text ∷ texts) history =
    (happened later : List EventRecord) × ((history ≡ happened ++ later)
    × (IsAnswered net (accepted_as accepted (line_in line)) text happened
    × AreAnswered accepted (net_after net happened) lines texts later))

-- the lines are a run of their events over this topology, which ends with this network; their
-- replies are those of the run's history
pub record AreRun (accepted : AcceptedLines) (network : Network) (lines texts : List (List ℕ))
    (net : NetValue) : Type 0 where
  pub ran : Ran network (events_of accepted lines) net
  pub answered : AreAnswered accepted (new_net network) lines texts ran.history

-- ---- the first line

-- the reply to the first line, if it is a topology and if it is none
abbrev pub begun_text : List ℕ
begun_text = codes "topology ok"

abbrev pub refused_text : TopologyFault → List ℕ
refused_text fault = codes "topology no " ++ code_text (topology.code_and_name fault)

-- ---- all lines

-- the state of a run: before its first line, in a network, or at its end because its topology was
-- refused
pub data Stage : Type 0 where
  Unbegun : Stage
  Open : NetValue → Stage
  Closed : Stage

-- the run may go on in this state: its topology was not refused
abbrev pub GoesOn : Stage → Type 0
GoesOn Closed = ⊥
GoesOn stage = Unit {0}

-- a topology begins a run of the later lines; if it is refused, the run ends
abbrev pub Begins : (accepted : AcceptedLines) (topology : Result Network TopologyFault)
    (text : List ℕ) (lines texts : List (List ℕ)) (stage : Stage) → Type 0
Begins accepted (Ok network) text lines texts stage = (net : NetValue)
    × ((text ≡ begun_text) × ((stage ≡ Open net) × AreRun accepted network lines texts net))
Begins accepted (Err fault) text lines texts stage =
    (text ≡ refused_text fault) × ((stage ≡ Closed) × ((lines ≡ []) × (texts ≡ [])))

-- the replies to these lines of an input from its first line on, and the state of the run after
-- them
abbrev pub RepliesToInput : (accepted : AcceptedLines) (lines texts : List (List ℕ)) (stage : Stage)
    → Type 0
RepliesToInput accepted [] texts stage = (texts ≡ []) × (stage ≡ Unbegun)
RepliesToInput accepted (first ∷ lines) [] stage = ⊥
RepliesToInput accepted (first ∷ lines) (text ∷ texts) stage =
    Begins accepted (network_in first) text lines texts stage
