-- There were no words to read, for want of memory.
use Rattle.std.proofs.Common.{refl, inr}
use Rattle.commands.specs.declared.fault.CommandFault.TheVariants.{Memory}
use Rattle.scionet.proofs.run_command.Goals as goal

pub returns-in-Err-collect : goal.returns-in-Err-collect
returns-in-Err-collect g c =
    inr (
      Memory,
      (
        c.end-in-Err-collect.ensures.status,
        (c.end-in-Err-collect.ensures.tells, ((refl, refl), (refl, refl))),
      ),
    )
