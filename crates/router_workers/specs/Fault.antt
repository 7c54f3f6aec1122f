-- The refusals of a run, as lines of text report them.
use Rattle.std.specs.Prelude.{ℕ, List, codes}
use Rattle.router_workers.specs.declared.fault.RunFault.{RunFault}
use Rattle.router_workers.specs.declared.fault.RunFault.TheVariants.{Workers, Memory}

-- the number and the name of a refusal
abbrev pub code_and_name : RunFault → ℕ × List ℕ
code_and_name Workers = (120, codes "Workers")
code_and_name Memory = (121, codes "Memory")
