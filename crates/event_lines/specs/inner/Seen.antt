-- Words of private calls: the values of lines, and replies that are written.
use Rattle.std.specs.Prelude.{◌≡◌, [], None}
use Rattle.std.specs.String.{string_bytes}
use Rattle.network_core.specs.Event as events
use Rattle.event_lines.specs.declared.line.Line.{Line}
use Rattle.event_lines.specs.declared.line.Line.TheVariants as lines
use Rattle.event_lines.specs.declared.text.LineReply.{LineReply}
use Rattle.event_lines.specs.Line.{LineValue, Happens, Shows}
use Rattle.event_lines.specs.Refusals.{Tells, coded}

-- the value of a line
abbrev pub line_value : Line → LineValue
line_value (lines.Happens event) = Happens (events.event_value event)
line_value (lines.Show packet) = Shows packet

-- nothing is written yet
abbrev pub IsBlank : LineReply → Type 0
IsBlank reply = (string_bytes reply.text ≡ []) × (reply.refusal ≡ None)

-- the text tells the refusal that is beside it, or none
abbrev pub TellsRefusal : LineReply → Type 0
TellsRefusal reply = Tells (string_bytes reply.text) (coded reply.refusal)
