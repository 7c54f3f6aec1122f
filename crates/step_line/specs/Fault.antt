-- The results of this crate's calls.
use Rattle.std.specs.Prelude.{◌≡◌, ℕ, List, Option, Some, None, Result, Ok, Err, String}
use Rattle.std.specs.String.{string_bytes}
use Rattle.step_line.specs.declared.fault.TurnFault.{TurnFault}
use Rattle.step_line.specs.declared.fault.TurnFault.TheVariants.{PacketText, Memory}

-- the line of the packet was returned; or the packet's text is no packet; or memory ran out, about
-- which nothing is claimed
abbrev pub PrintsTurn : {A : Type 0} → Result (String A) TurnFault → Option (List ℕ) → Type 0
PrintsTurn (Ok text) line = line ≡ Some (string_bytes text)
PrintsTurn (Err PacketText) line = line ≡ None
PrintsTurn (Err Memory) line = Unit {0}
