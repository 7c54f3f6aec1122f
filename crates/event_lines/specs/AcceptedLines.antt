-- Which lines a run accepts.
use Rattle.std.specs.Prelude.{Bool, true, false, if◌then◌else◌, Option, Some, None}
use Rattle.network_core.specs.Event.{EventValue, BackOf, Send, Turn, Lose, Alter}
use Rattle.event_lines.specs.declared.accepted.AcceptedLines.{AcceptedLines}
use Rattle.event_lines.specs.declared.accepted.AcceptedLines.TheVariants.{All, Preparing}
use Rattle.event_lines.specs.Line.{LineValue, Happens, Shows}

-- whether an event prepares a network: it does not turn, lose, alter or answer a packet
abbrev pub prepares : EventValue → Bool
prepares (Turn packet) = false
prepares (Lose packet) = false
prepares (Alter packet at change) = false
prepares (Send (BackOf packet) payload) = false
prepares event = true

-- whether a run accepts a line: every line, or only an event that prepares a network
abbrev pub accepts : AcceptedLines → LineValue → Bool
accepts All line = true
accepts Preparing (Happens event) = prepares event
accepts Preparing (Shows packet) = false

-- the value of a line if the run accepts it, else nothing
abbrev pub accepted_as : AcceptedLines → Option LineValue → Option LineValue
accepted_as accepted None = None
accepted_as accepted (Some line) = if accepts accepted line then Some line else None
