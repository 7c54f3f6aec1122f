-- The step of a router whose parts a host gives.
use Rattle.std.specs.Prelude.{◌≡◌, ℕ, List, Option, Some, None, Result, Ok, Err}
use Rattle.refusal.specs.Refusal.{◌>>=◌, refused_as}
use Rattle.scion_topology.specs.View.{View}
use Rattle.scion_topology.specs.Building.{view_of}
use Rattle.router_step.specs.declared.outcome.Outcome.{Outcome}
use Rattle.router_step.specs.Packet.{packet_step}
use Rattle.scion_ffi.specs.declared.answer.ScionAnswer.{ScionAnswer}
use Rattle.scion_ffi.specs.declared.records.ScionRouter.{ScionRouter}
use Rattle.scion_ffi.specs.Answer.{bad_call, outcome_answer, refusal_answer, view_answer}
use Rattle.scion_ffi.specs.Parts.{arrival_told, previous_told, table_told}

-- the value, or the answer to a call with a number that has no meaning
abbrev pub or_bad_call : {A : Type 0} → Option A → Result A ScionAnswer
or_bad_call None = Err bad_call
or_bad_call (Some value) = Ok value

-- the view of a router of these parts
abbrev pub view_told : ScionRouter → Result View ScionAnswer
view_told router = do
  table ← or_bad_call (table_told router.interfaces.now)
  refused_as view_answer
      (view_of router.ia router.router router.key.now (previous_told router.previous.now) table)

-- the step of a router with this view, on a packet that came in this way
abbrev pub step_at : (view : View) (now arrival interface : ℕ) (packet : List ℕ)
    → Result (Outcome × List ℕ) ScionAnswer
step_at view now arrival interface packet = do
  way ← or_bad_call (arrival_told arrival interface)
  refused_as refusal_answer (packet_step view now way packet)

-- the step of a router of these parts
abbrev pub step_told : (router : ScionRouter) (now arrival interface : ℕ) (packet : List ℕ)
    → Result (Outcome × List ℕ) ScionAnswer
step_told router now arrival interface packet = do
  view ← view_told router
  step_at view now arrival interface packet

-- the step succeeds, and the answer is the outcome; or the answer is the refusal, and the packet is
-- as it was
abbrev pub IsStepAnswered : (step : Result (Outcome × List ℕ) ScionAnswer) (old new : List ℕ)
    (result : ScionAnswer) → Type 0
IsStepAnswered (Ok done) old new result = (result ≡ outcome_answer done.0) × (new ≡ done.1)
IsStepAnswered (Err refused) old new result = (result ≡ refused) × (new ≡ old)
