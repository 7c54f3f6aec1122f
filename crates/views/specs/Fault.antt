-- Why a view was not shown.
use Rattle.std.specs.Prelude.{Bool, Option, Result, Ok, Err}
use Rattle.network_core.specs.declared.fault.EventFault.{EventFault}
use Rattle.event_lines.specs.declared.fault.RunFault.{RunFault}
use Rattle.commands.specs.declared.fault.CommandFault.{CommandFault}
use Rattle.commands.specs.Fault.{of_run}
use Rattle.views.specs.declared.fault.ViewFault.{ViewFault}
use Rattle.views.specs.declared.fault.ViewFault.TheVariants.{Command, Refused}
use Rattle.views.specs.declared.remark.Remark.{Remark}
use Rattle.views.specs.declared.remark.Remark.TheVariants.{Found}
use Rattle.views.specs.Remark.{if_so}

-- what a command has come to, with its fault as one of a view
abbrev pub of_command : {A : Type 0} → Result A CommandFault → Result A ViewFault
of_command (Ok value) = Ok value
of_command (Err fault) = Err (Command fault)

-- what is said of a network, with its refusal as a fault of a view
abbrev pub of_network : {A : Type 0} → Result A EventFault → Result A ViewFault
of_network (Ok value) = Ok value
of_network (Err fault) = Err (Refused fault)

-- the same after a run over lines
abbrev pub of_said : {A : Type 0} → Result (Result A EventFault) RunFault → Result A ViewFault
of_said (Ok said) = of_network said
of_said (Err fault) = Err (Command (of_run fault))

-- the end of an explanation, with the remark that it found something, if it did
abbrev pub of_findings : Result Bool RunFault → Result (Option Remark) ViewFault
of_findings (Ok found) = Ok (if_so found Found)
of_findings (Err fault) = Err (Command (of_run fault))
