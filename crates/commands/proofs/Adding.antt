-- A command stays local if a local argument is added.
use Rattle.std.proofs.Common.{◌≡◌, ◌∙◌, ap₂, false}
use Rattle.std.specs.Prelude.{◌||◌}
use Rattle.clap.specs.Words.{AddsArg}
use Rattle.clap.specs.declared.builder.arg.Arg.{Arg}
use Rattle.clap.specs.declared.builder.command.Command.{Command}
use Rattle.commands.specs.Words.{IsLocal}

pub still_local : (old new : Command) (a : Arg) → IsLocal old → a.global ≡ false → AddsArg old a new → IsLocal new
still_local old new a local given adds = adds.globals ∙ ap₂ (λ x y. x || y) local given
