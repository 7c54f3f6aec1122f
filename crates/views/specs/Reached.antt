-- The output about the network after the lines of a source.
use Rattle.std.specs.Prelude.{◌⊎◌, ◌≡◌, ℕ, List, take, Option, Result, Ok, Err, String}
use Rattle.std.specs.Io.KnownBytes.{Appends}
use Rattle.std.specs.String.{string_bytes}
use Rattle.network_core.specs.declared.fault.EventFault.{EventFault}
use Rattle.network_core.specs.Value.{NetValue}
use Rattle.event_lines.specs.declared.fault.RunFault.{RunFault}
use Rattle.event_lines.specs.declared.fault.RunFault.TheVariants.{Memory, Write}
use Rattle.event_lines.specs.declared.accepted.AcceptedLines.TheVariants.{All}
use Rattle.event_lines.specs.Run.{Listens}

-- the bytes of what is said, or the reason for which nothing is
abbrev pub said_of : {A : Type 0} → Result (String A) EventFault → Result (List ℕ) EventFault
said_of (Ok text) = Ok (string_bytes text)
said_of (Err fault) = Err fault

-- what is said is what is wanted about the network after the lines of the source, whose contents
-- before and after are the first two; or the lines gave no network; or memory ran out. The last two
-- are what the sink of the replies held before and after it.
abbrev pub Shows : {A : Type 0} → (says : (NetValue → Result (List ℕ) EventFault → Type 0))
    (result : Result (Result (String A) EventFault) RunFault)
    (before after told tells : Option (List ℕ)) → Type 0
Shows says (Ok said) before after told tells = (net : NetValue)
    × (Listens All (Ok net) before after told tells × says net (said_of said))
Shows says (Err fault) before after told tells =
    Listens All (Err fault) before after told tells ⊎ ((fault ≡ Memory)
    × ((net : NetValue) × Listens All (Ok net) before after told tells))

-- a text of which this holds was written; or, before memory ran out or a write failed, one that is
-- a beginning. The contents are what the sink held before and after it.
abbrev pub Writes : {A : Type 0} → (whole begun : (List ℕ → Type 0)) (result : Result A RunFault)
    (held holds : Option (List ℕ)) → Type 0
Writes whole begun (Ok value) held holds =
    (text : List ℕ) × (Appends held holds text × whole text)
Writes whole begun (Err Memory) held holds =
    (text : List ℕ) × (Appends held holds text × begun text)
Writes whole begun (Err Write) held holds =
    (text : List ℕ) × (Appends held holds text × begun text)
Writes whole begun (Err fault) held holds = ⊥

-- the text is a beginning of this one
abbrev pub Begins : (whole text : List ℕ) → Type 0
Begins whole text = (most : ℕ) × (text ≡ take most whole)
