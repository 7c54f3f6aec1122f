-- The answers about an authenticator.
use Rattle.std.specs.Prelude.{◌≡◌, ℕ, List, Result, Ok, Err}
use Rattle.scion_topology.specs.declared.fault.TopologyFault.{TopologyFault}
use Rattle.scion_ffi.specs.declared.answer.ScionAnswer.{ScionAnswer}
use Rattle.scion_ffi.specs.Answer.{answer, view_answer}

-- the authenticator under this key was written; or there is no such key, and no byte has changed
abbrev pub IsMacAnswered : (key : Result (List ℕ) TopologyFault) (mac_under : (List ℕ → List ℕ))
    (old new : List ℕ) (result : ScionAnswer) → Type 0
IsMacAnswered (Ok key) mac_under old new result = (result ≡ answer 0 0) × (new ≡ mac_under key)
IsMacAnswered (Err fault) mac_under old new result = (result ≡ view_answer fault) × (new ≡ old)
