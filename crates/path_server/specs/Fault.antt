-- The refusals of a path store, as lines of text report them, and the errors of registering.
use Rattle.std.specs.Prelude.{◌≡◌, ℕ, Bool, true, List, codes, Result, Ok, Err}
use Rattle.refusal.specs.declared.fault.OrMemory.{OrMemory}
use Rattle.refusal.specs.declared.fault.OrMemory.TheVariants.{Memory, Refused}
use Rattle.path_segment.specs.Chain.{Chain}
use Rattle.path_server.specs.declared.fault.StoreFault.{StoreFault}
use Rattle.path_server.specs.declared.fault.StoreFault.TheVariants.{Full, Expired}

-- the number and the name of a refusal
abbrev pub code_and_name : StoreFault → ℕ × List ℕ
code_and_name Full = (50, codes "Full")
code_and_name Expired = (51, codes "Expired")

-- the error fits the wanted answer: its refusal, or running out of memory if a new segment was to
-- be stored
abbrev pub FailsToTake : OrMemory StoreFault → Result Bool StoreFault → Type 0
FailsToTake Memory wanted = wanted ≡ Ok true
FailsToTake (Refused fault) wanted = wanted ≡ Err fault

-- what registering a segment returns: whether it is new, or an error together with the segment
abbrev pub Registers : Chain → Result Bool (Chain × OrMemory StoreFault) → Result Bool StoreFault
    → Type 0
Registers segment (Ok is_new) wanted = wanted ≡ Ok is_new
Registers segment (Err error) wanted = (error.0 ≡ segment) × FailsToTake error.1 wanted
