-- The replies to lines that come one by one.
use Rattle.std.specs.Prelude.{◌≡◌, ℕ, List, [], ◌∷◌, Option, Some, None, Result, Ok, Err, slice_get}
use Rattle.std.specs.String.{string_bytes}
use Rattle.scion_topology.specs.declared.fault.TopologyFault.{TopologyFault}
use Rattle.scion_topology.specs.Network.{Network}
use Rattle.scion_topology.specs.Topology.{IsNetwork, network_in}
use Rattle.network_core.specs.declared.reply.Reply.{Reply}
use Rattle.network_core.specs.Value.{NetValue, new_net}
use Rattle.network_core.specs.Step.{Step}
use Rattle.network_core.specs.Delivery.{IsFramed}
use Rattle.event_lines.specs.declared.fault.RunFault.{RunFault}
use Rattle.event_lines.specs.declared.fault.RunFault.TheVariants as faults
use Rattle.event_lines.specs.declared.line_run.LineRun.{LineRun}
use Rattle.event_lines.specs.declared.accepted.AcceptedLines.{AcceptedLines}
use Rattle.event_lines.specs.AcceptedLines.{accepted_as}
use Rattle.event_lines.specs.Line.{LineValue, Happens, Shows, line_in}
use Rattle.event_lines.specs.Answers.{Stage, Unbegun, Open, Closed, begun_text, refused_text}
use Rattle.event_lines.specs.Refusals.{Tells, coded}
use Rattle.event_lines.specs.Text.{bad_line, packet_text, reply_text}

-- the reply to a line, and the network after it: an event happens, a packet is shown, or the line
-- has no value
abbrev pub Replies : (old : NetValue) (line : Option LineValue) (text : List ℕ) (new : NetValue)
    → Type 0
Replies old (Some (Happens event)) text new = (reply : Reply)
    × (Step old event reply new × (IsFramed event reply new × (text ≡ reply_text new reply)))
Replies old (Some (Shows packet)) text new =
    (text ≡ packet_text (slice_get old.packets packet)) × (new ≡ old)
Replies old None text new = (text ≡ bad_line) × (new ≡ old)

-- a topology begins a network at second 0; if it is refused, the run ends
abbrev pub Opens : (topology : Result Network TopologyFault) (text : List ℕ) (stage : Stage) → Type 0
Opens (Ok network) text stage =
    (text ≡ begun_text) × (IsNetwork network × (stage ≡ Open (new_net network)))
Opens (Err fault) text stage = (text ≡ refused_text fault) × (stage ≡ Closed)

-- the reply to a line in a run that accepts these lines, and the state of the run after it
abbrev pub RepliesTo : (accepted : AcceptedLines) (old : Stage) (line text : List ℕ) (stage : Stage)
    → Type 0
RepliesTo accepted Unbegun line text stage = Opens (network_in line) text stage
RepliesTo accepted (Open old) line text stage = (new : NetValue)
    × (Replies old (accepted_as accepted (line_in line)) text new × (stage ≡ Open new))
RepliesTo accepted Closed line text stage = ⊥

-- the replies to these lines, one after another, and the state of the run after them
abbrev pub RepliesToAll : (accepted : AcceptedLines) (start : Stage)
    (lines texts : List (List ℕ)) (stage : Stage) → Type 0
RepliesToAll accepted start [] texts stage = (texts ≡ []) × (stage ≡ start)
RepliesToAll accepted start (line ∷ lines) [] stage = ⊥
RepliesToAll accepted start (line ∷ lines) (text ∷ texts) stage = (next : Stage)
    × (RepliesTo accepted start line text next × RepliesToAll accepted next lines texts stage)

-- ---- a run whose lines come one by one

-- the state of a run whose network is this one, if it has begun
abbrev pub stage_of : Option NetValue → Stage
stage_of None = Unbegun
stage_of (Some net) = Open net

-- the state of a run so far; and its reply to the last line
abbrev pub stage_behind : LineRun → Stage
stage_behind run = stage_of run.net

abbrev pub reply_behind : LineRun → List ℕ
reply_behind run = string_bytes run.reply.text

-- the refusal that this reply tells
abbrev pub refusal_behind : LineRun → Option (ℕ × List ℕ)
refusal_behind run = coded run.reply.refusal

-- the run replies to this line, and is in this state after it; or the topology was refused, which
-- is its reply; or memory ran out
abbrev pub RepliesUnlessFull : (accepted : AcceptedLines) (result : Result (Unit {0}) RunFault)
    (old : Stage) (line reply : List ℕ) (new : Stage) → Type 0
RepliesUnlessFull accepted (Ok done) old line reply new = RepliesTo accepted old line reply new
RepliesUnlessFull accepted (Err faults.Topology) old line reply new =
    RepliesTo accepted old line reply Closed
RepliesUnlessFull accepted (Err faults.Memory) old line reply new = Unit {0}
RepliesUnlessFull accepted (Err fault) old line reply new = ⊥

-- the reply tells this refusal, or none; or memory ran out
abbrev pub TellsUnlessFull : {A : Type 0} → (result : Result A RunFault) (reply : List ℕ)
    (refusal : Option (ℕ × List ℕ)) → Type 0
TellsUnlessFull (Ok done) reply refusal = Tells reply refusal
TellsUnlessFull (Err faults.Topology) reply refusal = Tells reply refusal
TellsUnlessFull (Err fault) reply refusal = Unit {0}
