-- The line that `scionet step` prints for a packet.
use Rattle.std.specs.Prelude.{ℕ, codes, List, ◌++◌, Option, option_map, Result, Ok, Err}
use Rattle.std.specs.Fmt.{decimal}
use Rattle.separators.specs.Blanks.{trimmed_text}
use Rattle.hex.specs.Hex.{encode_lower}
use Rattle.router_step.specs.declared.outcome.Outcome.{Outcome}
use Rattle.router_step.specs.declared.outcome.Outcome.TheVariants.{ToLink, ToRouter, Deliver}
use Rattle.router_step.specs.declared.fault.Refusal.{Refusal}
use Rattle.router_step.specs.Fault.{refusal_text}
use Rattle.router_step.specs.Packet.{packet_step}
use Rattle.step_line.specs.Fields.{hex_bytes_of}
use Rattle.step_line.specs.Turn.{Turn}

-- a refusal: `refused CODE Name`; for a packet without a path header, also the code and the name of
-- the header's refusal
abbrev pub refusal_line : Refusal → List ℕ
refusal_line refusal = codes "refused " ++ refusal_text refusal

-- a word, a number, and the packet's bytes: `WORD N HEX`
abbrev pub numbered_bytes : (word : List ℕ) (number : ℕ) (packet : List ℕ) → List ℕ
numbered_bytes word number packet =
    word ++ (codes " " ++ (decimal number ++ (codes " " ++ encode_lower packet)))

-- an outcome: `link IF HEX`, `router N HEX` or `deliver HEX`, with the packet's bytes after the
-- step
abbrev pub outcome_line : Outcome → List ℕ → List ℕ
outcome_line (ToLink interface) packet = numbered_bytes (codes "link") interface packet
outcome_line (ToRouter router) packet = numbered_bytes (codes "router") router packet
outcome_line Deliver packet = codes "deliver " ++ encode_lower packet

-- the line, without its end
abbrev pub text_of : Result (Outcome × List ℕ) Refusal → List ℕ
text_of (Ok stepped) = outcome_line stepped.0 stepped.1
text_of (Err refusal) = refusal_line refusal

-- the line for the packet whose bytes this text gives in hexadecimal; blanks around it are ignored
unfoldable pub line_of : Turn → List ℕ → Option (List ℕ)
line_of turn text =
    option_map (λ packet. text_of (packet_step turn.view turn.moment turn.arrival packet))
    (hex_bytes_of (trimmed_text text))
