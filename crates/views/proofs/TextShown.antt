-- What a view shows, from the text that was made and what was written of it.
use Rattle.std.proofs.Common.{◌≡◌, ◌∙◌, ap, ℕ, List, Option, Some, None, Result, Ok, Err, inl, inr}
use Rattle.std.specs.Prelude.{String, IfOk, option_map}
use Rattle.std.specs.String.{string_bytes}
use Rattle.network_core.specs.declared.fault.EventFault.{EventFault}
use Rattle.network_core.specs.Value.{NetValue}
use Rattle.event_lines.specs.declared.fault.RunFault.{RunFault}
use Rattle.commands.specs.declared.fault.CommandFault.{CommandFault}
use Rattle.commands.specs.declared.fault.CommandFault.TheVariants as command
use Rattle.commands.specs.Fault.{of_run}
use Rattle.views.specs.declared.fault.ViewFault.{ViewFault}
use Rattle.views.specs.declared.fault.ViewFault.TheVariants.{Command, Refused}
use Rattle.views.specs.declared.remark.Remark.{Remark}
use Rattle.views.specs.Fault.{of_command, of_said}
use Rattle.views.specs.Reached.{Shows, said_of}
use Rattle.views.specs.Shown.{ShowsText, WritesMade, WritesSaid, Wrote, no_remark}

-- the text that was made is written
written : {A : Type 0} (says : (Result (List ℕ) EventFault → Type 0)) (text : String A)
    (result : Result (Option Remark) ViewFault) (held holds : Option (List ℕ)) → says (Ok (string_bytes text))
    → WritesMade (Ok text) result held holds → WritesSaid says result held holds
written says text (Ok remark) held holds is writes = (writes.0, (string_bytes text, (is, writes.1)))
written says text (Err (Command command.Write)) held holds is writes = (string_bytes text, (is, writes))
written says text (Err (Command (command.Usage said))) held holds is writes = absurd writes
written says text (Err (Command command.NoCommand)) held holds is writes = absurd writes
written says text (Err (Command command.PacketText)) held holds is writes = absurd writes
written says text (Err (Command command.Topology)) held holds is writes = absurd writes
written says text (Err (Command command.Workers)) held holds is writes = absurd writes
written says text (Err (Command command.Read)) held holds is writes = absurd writes
written says text (Err (Command command.InputTooLong)) held holds is writes = absurd writes
written says text (Err (Command command.Memory)) held holds is writes = absurd writes
written says text (Err (Refused fault)) held holds is writes = absurd writes

-- there was none
not_written : (says : (Result (List ℕ) EventFault → Type 0)) (fault : EventFault)
    (result : Result (Option Remark) ViewFault) (held holds : Option (List ℕ)) → says (Err fault)
    → result ≡ Err (Refused fault) → holds ≡ held → WritesSaid says result held holds
not_written says fault result held holds is same kept = rw same (is, kept)

-- a text about the network after the lines of a source
pub text_shown : {A : Type 0} (says : (NetValue → Result (List ℕ) EventFault → Type 0))
    (made : Result (Result (String A) EventFault) RunFault) (result : Result (Option Remark) ViewFault)
    (before after told tells held holds : Option (List ℕ)) → Shows says made before after told tells
    → WritesMade (of_said made) result held holds → ShowsText says result before after told tells held holds
text_shown says (Ok (Ok text)) result before after told tells held holds shows writes =
    inr (inr (shows.0, (shows.1.0, written (says shows.0) text result held holds shows.1.1 writes)))
text_shown says (Ok (Err fault)) result before after told tells held holds shows writes =
    inr (inr (shows.0, (shows.1.0, not_written (says shows.0) fault result held holds shows.1.1 writes.0 writes.1)))
text_shown says (Err fault) result before after told tells held holds (inl listens) writes =
    inl (fault, (writes.0, writes.1, listens))
text_shown says (Err fault) result before after told tells held holds (inr (same, reached)) writes =
    inr (inl (writes.0 ∙ ap (λ f. Err (Command (of_run f))) same, writes.1, reached))

-- a text of which something holds
pub wrote : {A : Type 0} (tells : (List ℕ → Type 0)) (made : Result (String A) CommandFault)
    (result : Result (Option Remark) ViewFault) (held holds : Option (List ℕ))
    → IfOk made (λ text. tells (string_bytes text)) → WritesMade (of_command made) result held holds
    → Wrote tells no_remark result held holds
wrote tells (Ok text) (Ok remark) held holds is writes = (string_bytes text, (writes.1, (is, writes.0)))
wrote tells (Ok text) (Err fault) held holds is writes = tt
wrote tells (Err fault) (Ok remark) held holds is writes = absurd (let same = writes.0 in cc)
wrote tells (Err fault) (Err other) held holds is writes = tt
