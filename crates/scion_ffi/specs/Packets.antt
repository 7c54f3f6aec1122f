-- The steps of a router on many packets.
use Rattle.std.specs.Prelude.{◌≡◌, ℕ, List, map, Result, Ok, Err}
use Rattle.refusal.specs.Refusal.{◌>>=◌}
use Rattle.scion_topology.specs.View.{View}
use Rattle.router_step.specs.declared.outcome.Outcome.{Outcome}
use Rattle.scion_ffi.specs.declared.answer.ScionAnswer.{ScionAnswer}
use Rattle.scion_ffi.specs.declared.records.ScionRouter.{ScionRouter}
use Rattle.scion_ffi.specs.declared.records.ScionPacket.{ScionPacket}
use Rattle.scion_ffi.specs.Answer.{answer, outcome_answer}
use Rattle.scion_ffi.specs.Step.{step_at, view_told}

-- a packet with the answer to its step; its bytes change only if the step succeeds
abbrev pub with_answer : Result (Outcome × List ℕ) ScionAnswer → ScionPacket → ScionPacket
with_answer (Ok done) packet =
    record packet { answer = outcome_answer done.0; bytes = record packet.bytes { now = done.1 } }
with_answer (Err refused) packet = record packet { answer = refused }

-- a packet after the step on it
unfoldable pub packet_after : View → ℕ → ScionPacket → ScionPacket
packet_after view now packet =
    with_answer (step_at view now packet.arrival packet.interface packet.bytes.now) packet

-- the packets after a step on each, in their order, or why there is no such router
abbrev pub packets_told : ScionRouter → ℕ → List ScionPacket → Result (List ScionPacket) ScionAnswer
packets_told router now packets = do
  view ← view_told router
  Ok (map (packet_after view now) packets)

-- each packet has had its step; or there is no such router, and the packets are as they were
abbrev pub AreStepsAnswered : (steps : Result (List ScionPacket) ScionAnswer)
    (old new : List ScionPacket) (result : ScionAnswer) → Type 0
AreStepsAnswered (Ok packets) old new result = (result ≡ answer 0 0) × (new ≡ packets)
AreStepsAnswered (Err refused) old new result = (result ≡ refused) × (new ≡ old)
