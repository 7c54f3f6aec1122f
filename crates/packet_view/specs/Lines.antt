-- The output of `scionet_view packet`: the packet's fields, the checks, and the line of the turn.
use Rattle.std.specs.Prelude.{ℕ, codes, if◌then◌else◌, List, [], ◌∷◌, ◌++◌, Option, Some, Result, Ok, Err, is_ok}
use Rattle.separators.specs.Blanks.{trimmed_text}
use Rattle.refusal.specs.Optional.{◌>>=◌}
use Rattle.scion_topology.specs.View.{View}
use Rattle.router_step.specs.declared.arrival.Arrival.{Arrival}
use Rattle.router_step.specs.declared.fault.Refusal.{Refusal}
use Rattle.router_step.specs.Packet.{packet_step}
use Rattle.step_line.specs.Fields.{hex_bytes_of}
use Rattle.step_line.specs.Turn.{Turn}
use Rattle.step_line.specs.Line.{line_of, refusal_line, text_of}
use Rattle.packet_view.specs.Fields.{fields_text}
use Rattle.packet_view.specs.Checks.{CheckValue, checks_of}

-- `ok` if a check succeeds, else its refusal
abbrev pub verdict_text : Result (Unit {0}) Refusal → List ℕ
verdict_text (Ok done) = codes "ok"
verdict_text (Err refusal) = refusal_line refusal

-- the line of a check
unfoldable pub check_text : CheckValue → List ℕ
check_text one = one.sides ++ (codes ": " ++ (verdict_text one.verdict ++ codes "\n"))

-- the lines of the checks up to the first that fails
unfoldable pub checks_text : List CheckValue → List ℕ
checks_text [] = []
checks_text (one ∷ later) = check_text one ++ (if is_ok one.verdict then checks_text later else [])

-- the lines before that of the turn
abbrev pub lines_before : Turn → List ℕ → List ℕ
lines_before turn packet =
    fields_text packet ++ checks_text (checks_of turn.view turn.moment turn.arrival packet)

-- all lines; the last is that of the turn, and has no line end
unfoldable pub lines_of : Turn → List ℕ → Option (List ℕ)
lines_of turn text = do
  packet ← hex_bytes_of (trimmed_text text)
  line ← line_of turn text
  Some (lines_before turn packet ++ line)

-- the lines about a packet that comes by this arrival to a router with this view: its fields, the
-- checks of the router, and the line of its turn
unfoldable pub turn_lines : (view : View) (now : ℕ) (arrival : Arrival) (packet : List ℕ) → List ℕ
turn_lines view now arrival packet =
    fields_text packet ++ (checks_text (checks_of view now arrival packet)
    ++ (text_of (packet_step view now arrival packet) ++ codes "\n"))
