-- The answers of the calls of a C library.
use Rattle.std.specs.Prelude.{ℕ}
use Rattle.scion_topology.specs.declared.fault.TopologyFault.{TopologyFault}
use Rattle.scion_topology.specs.Fault as topology
use Rattle.path_header.specs.declared.fault.HeaderFault.{HeaderFault}
use Rattle.path_header.specs.Fault as header
use Rattle.router_step.specs.declared.outcome.Outcome.{Outcome}
use Rattle.router_step.specs.declared.outcome.Outcome.TheVariants.{ToLink, ToRouter, Deliver}
use Rattle.router_step.specs.declared.fault.Refusal.{Refusal}
use Rattle.router_step.specs.declared.fault.Refusal.TheVariants.{BadHeader}
use Rattle.router_step.specs.Fault as router
use Rattle.scion_ffi.specs.declared.answer.ScionAnswer.{ScionAnswer}

-- the answer of a code and a number
abbrev pub answer : (code number : ℕ) → ScionAnswer
answer code number = record { code = code; number = number }

-- the answer to a call with a number that has no meaning
abbrev pub bad_call : ScionAnswer
bad_call = answer 9 0

-- the answer about a packet's outcome: over a link, to another router of the AS, or to its host
abbrev pub outcome_answer : Outcome → ScionAnswer
outcome_answer (ToLink interface) = answer 0 interface
outcome_answer (ToRouter router) = answer 1 router
outcome_answer Deliver = answer 2 0

-- the answer about a refused packet, with the header's refusal if there is no path header
abbrev pub refusal_answer : Refusal → ScionAnswer
refusal_answer (BadHeader fault) =
    answer (router.code_and_name (BadHeader fault)).0 (header.code_and_name fault).0
refusal_answer refusal = answer (router.code_and_name refusal).0 0

-- the answer about parts that are no router
abbrev pub view_answer : TopologyFault → ScionAnswer
view_answer fault = answer (topology.code_and_name fault).0 0

-- the answer about bytes without a path header
abbrev pub header_answer : HeaderFault → ScionAnswer
header_answer fault = answer (header.code_and_name fault).0 0
