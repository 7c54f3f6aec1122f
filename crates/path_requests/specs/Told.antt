-- Answers as texts: what a call tells, be it an answer or a refusal.
use Rattle.std.specs.Prelude.{ℕ, List, Option, Some, None, Result, Ok, Err, IfSome, String}
use Rattle.std.specs.declared.alloc.Global.{Global}
use Rattle.std.specs.String.{string_bytes}
use Rattle.refusal.specs.declared.fault.OrMemory.{OrMemory}
use Rattle.refusal.specs.declared.fault.OrMemory.TheVariants.{Memory, Refused}
use Rattle.path_requests.specs.declared.fault.RequestFault.{RequestFault}
use Rattle.path_requests.specs.Text.{fault_json}

-- the text that is told: that of the answer or of the refusal; none if memory ran out
abbrev pub text_told : Result (String Global) (OrMemory RequestFault) → Option (List ℕ)
text_told (Ok text) = Some (string_bytes text)
text_told (Err Memory) = None
text_told (Err (Refused fault)) = Some (fault_json fault)

-- the text that is told is an answer; if memory ran out, nothing is claimed
abbrev pub Tells : (List ℕ → Type 0) → Result (String Global) (OrMemory RequestFault)
    → Type 0
Tells answers result = IfSome (text_told result) answers
