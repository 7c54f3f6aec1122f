-- A run of the program over any streams, with words of which nothing is known.
use Rattle.std.specs.Prelude.{◌≡◌, ◌⊎◌, ℕ, List}
use Rattle.commands.specs.Words.{command_or_run}
use Rattle.commands.specs.Fault.{status_of}
use Rattle.commands.specs.Run.{Change, EndsWith, TellsOf}
use Rattle.commands.specs.declared.fault.CommandFault.{CommandFault}
use Rattle.commands.specs.declared.status.Status.{Status}

-- the stream is as it was
abbrev pub IsAsBefore : Change → Type 0
IsAsBefore change = (change.new ≡ change.old) × (change.has_failed ≡ change.had_failed)

-- the command of some words was carried out on these streams; or there were no words to read, and
-- the message about it is all that was written
abbrev pub RanOn : (status : Status) (source sink errors : Change) → Type 0
RanOn status source sink errors =
    ((words : List (List ℕ)) × EndsWith status (command_or_run words) source sink errors)
    ⊎ ((fault : CommandFault) × ((status ≡ status_of fault) × (TellsOf fault errors
    × (IsAsBefore source × IsAsBefore sink))))
