-- A line that is recorded, and a line at which a run ends.
use Rattle.std.proofs.Common.{◌≡◌, ℕ, List, Option, Err, refl, ap}
use Rattle.event_lines.specs.declared.fault.RunFault.{RunFault}
use Rattle.event_lines.specs.declared.fault.RunFault.TheVariants as faults
use Rattle.event_lines.specs.declared.accepted.AcceptedLines.TheVariants.{All}
use Rattle.event_lines.specs.Answers.{Stage, Unbegun, Open, Closed}
use Rattle.event_lines.specs.Replies.{RepliesUnlessFull}
use Rattle.scion_packet.specs.Value.{PacketInfoValue}
use Rattle.run_capture.specs.Lines.{Captures, IsFirstLine, line_datagrams, turned_by}
use Rattle.run_capture.specs.inner.Recording.{Records, datagrams_behind, seen_in}
use Rattle.run_capture.proofs.Recorded.{SoFar, no_topology}

-- the datagrams of a line are those of what was seen before it
pub datagrams_seen : (info : PacketInfoValue) (old : Stage) (line : List ℕ) (turned : Option ℕ)
    (new : Stage) → turned ≡ turned_by line
    → datagrams_behind info (seen_in old turned) new ≡ line_datagrams info old line new
datagrams_seen info (Open old) line turned (Open new) same =
    ap (λ t. datagrams_behind info (seen_in (Open old) t) (Open new)) same
datagrams_seen info (Open old) line turned Unbegun same = refl
datagrams_seen info (Open old) line turned Closed same = refl
datagrams_seen info Unbegun line turned new same = refl
datagrams_seen info Closed line turned new same = refl

-- a line that was not answered is not recorded
pub not_answered : (fault : RunFault) (info : PacketInfoValue) (old : Stage)
    (line reply : List ℕ) (new : Stage) (before after : List ℕ)
    → RepliesUnlessFull All (Err fault) old line reply new
    → Records (Err fault) info old line new before after
not_answered faults.Topology info old line reply new before after says = (reply, says)
not_answered faults.Memory info old line reply new before after says = tt
not_answered faults.Read info old line reply new before after says = absurd says
not_answered faults.Write info old line reply new before after says = absurd says
not_answered faults.InputTooLong info old line reply new before after says = absurd says

-- a run ends at a line that was not recorded
pub not_recorded : (fault : RunFault) (info own : PacketInfoValue)
    (input left line : List ℕ) (stage next : Stage) (file after : List ℕ)
    → SoFar info input left stage file → IsFirstLine left line
    → Records (Err fault) own stage line next file after → Captures {A = ℕ} (Err fault) info input
not_recorded faults.Topology info own input left line stage next file after far first (text, says) =
    no_topology info input left line text stage file far first says
not_recorded faults.Memory info own input left line stage next file after far first says = tt
not_recorded faults.Read info own input left line stage next file after far first says = absurd says
not_recorded faults.Write info own input left line stage next file after far first says = absurd says
not_recorded faults.InputTooLong info own input left line stage next file after far first says =
    absurd says
