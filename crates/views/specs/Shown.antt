-- What each view shows: of which bytes of a source, and what of it the sinks got.
use Rattle.std.specs.Prelude.{◌≡◌, ◌⊎◌, ℕ, Bool, List, Option, None, option_map, Some, slice_get, IfOk, Result, Ok, Err, String}
use Rattle.std.specs.Io.KnownBytes.{Appends, Consumes, IsAtEnd}
use Rattle.std.specs.String.{string_bytes}
use Rattle.streams.specs.Streams.{AppendsFront}
use Rattle.network_core.specs.declared.fault.EventFault.{EventFault}
use Rattle.network_core.specs.Value.{NetValue}
use Rattle.event_lines.specs.declared.accepted.AcceptedLines.TheVariants.{All}
use Rattle.event_lines.specs.declared.fault.RunFault.{RunFault}
use Rattle.event_lines.specs.Run.{Listens}
use Rattle.commands.specs.declared.fault.CommandFault.TheVariants as command
use Rattle.commands.specs.Fault.{of_run}
use Rattle.commands.specs.Run.{whole_line}
use Rattle.packet_view.specs.Lines.{lines_of}
use Rattle.packet_view.specs.Whole.{whole_lines_of}
use Rattle.run_capture.specs.Lines.{IsCapture}
use Rattle.beacon_lines.specs.Lines.{AreBeaconLines, one_line}
use Rattle.view_words.specs.declared.view.View.{View}
use Rattle.view_words.specs.declared.view.View.TheVariants.{Packet, WholePacket, PacketOfRun, WholePacketOfRun, Wrap, Capture, Network, Path, Report, Beacons, Explain}
use Rattle.view_words.specs.declared.view.Subject.{Subject}
use Rattle.view_words.specs.declared.view.Subject.TheVariants as subject
use Rattle.views.specs.declared.fault.ViewFault.{ViewFault}
use Rattle.views.specs.declared.fault.ViewFault.TheVariants as faults
use Rattle.views.specs.declared.remark.Remark.{Remark}
use Rattle.views.specs.declared.remark.Remark.TheVariants.{NoBeacon}
use Rattle.views.specs.Explained.{ExplainsAll, form_of}
use Rattle.views.specs.Fault.{of_findings, of_said}
use Rattle.views.specs.Network.{picture_of}
use Rattle.views.specs.Path.{TellsPacket}
use Rattle.views.specs.Remark.{if_so, is_beaconless}
use Rattle.views.specs.Report.{ShowsReport, wanted_by}
use Rattle.views.specs.RunPacket.{packet_state, whole_state}
use Rattle.views.specs.Wrapped.{Answers, wrapped_line}

-- the text is the lines about the packet on the input, which was read to its end
abbrev pub TellsInput : (lines : (List ℕ → Option (List ℕ))) (before after : Option (List ℕ))
    (text : List ℕ) → Type 0
TellsInput lines before after text = (input : List ℕ) × ((Consumes before after input × IsAtEnd after)
    × (option_map whole_line (lines input) ≡ Some text))

-- the text that was made was written, without a remark, or a beginning of it before a write failed;
-- or none was made, and nothing was written
abbrev pub WritesMade : {A : Type 0} → (made : Result (String A) ViewFault)
    (result : Result (Option Remark) ViewFault) (held holds : Option (List ℕ)) → Type 0
WritesMade (Ok text) (Ok remark) held holds =
    (remark ≡ None) × Appends held holds (string_bytes text)
WritesMade (Ok text) (Err (faults.Command command.Write)) held holds =
    AppendsFront held holds (string_bytes text)
WritesMade (Ok text) (Err fault) held holds = ⊥
WritesMade (Err fault) result held holds = (result ≡ Err fault) × (holds ≡ held)

-- a text that says this was written, without a remark, or a beginning of it before a write failed;
-- or nothing is said, for this reason, and nothing was written
abbrev pub WritesSaid : (says : (Result (List ℕ) EventFault → Type 0))
    (result : Result (Option Remark) ViewFault) (held holds : Option (List ℕ)) → Type 0
WritesSaid says (Ok remark) held holds = (remark ≡ None)
    × ((text : List ℕ) × (says (Ok text) × Appends held holds text))
WritesSaid says (Err (faults.Command command.Write)) held holds =
    (text : List ℕ) × (says (Ok text) × AppendsFront held holds text)
WritesSaid says (Err (faults.Command fault)) held holds = ⊥
WritesSaid says (Err (faults.Refused fault)) held holds = says (Err fault) × (holds ≡ held)

-- the lines of the source gave no network, or memory ran out, and nothing was written; or they gave
-- one, and the text about it was written, if there is one. The contents are what the source still
-- had before and after it, and then what the sink of the replies and that of the text held.
abbrev pub ShowsText : (says : (NetValue → Result (List ℕ) EventFault → Type 0))
    (result : Result (Option Remark) ViewFault)
    (before after told tells held holds : Option (List ℕ)) → Type 0
ShowsText says result before after told tells held holds =
    ((fault : RunFault) × ((result ≡ Err (faults.Command (of_run fault))) × (holds ≡ held)
    × Listens All (Err fault) before after told tells))
    ⊎ (((result ≡ Err (faults.Command command.Memory)) × (holds ≡ held)
    × ((net : NetValue) × Listens All (Ok net) before after told tells))
    ⊎ ((net : NetValue) × (Listens All (Ok net) before after told tells
    × WritesSaid (says net) result held holds)))

-- if all went well, bytes of which this holds were written, and this is the remark on them
abbrev pub Wrote : (tells : (List ℕ → Type 0)) (remark : (List ℕ → Option Remark))
    (result : Result (Option Remark) ViewFault) (held holds : Option (List ℕ)) → Type 0
Wrote tells remark result held holds = IfOk result (λ said. (bytes : List ℕ)
    × (Appends held holds bytes × (tells bytes × (said ≡ remark bytes))))

-- there is no remark, whatever was written
abbrev pub no_remark : List ℕ → Option Remark
no_remark bytes = None

-- the text about the path of what is named was written; of a path of an answer nothing is said
abbrev pub ShowsPath : (named : Subject) (result : Result (Option Remark) ViewFault)
    (before after told tells held holds : Option (List ℕ)) → Type 0
ShowsPath (subject.Packet number) result before after told tells held holds =
    ShowsText (λ net. TellsPacket (slice_get net.packets number))
    result before after told tells held holds
ShowsPath (subject.Answer answer path) result before after told tells held holds = Unit {0}

-- the view of a source. The contents are what the source still had before and after it, what the
-- sink of the replies to its lines held before and after it, and what that of the view did
abbrev pub ShowsView : (view : View) (result : Result (Option Remark) ViewFault)
    (before after told tells held holds : Option (List ℕ)) → Type 0
ShowsView (Packet turn) result before after told tells held holds =
    Wrote (TellsInput (lines_of turn) before after) no_remark result held holds
ShowsView (WholePacket turn) result before after told tells held holds =
    Wrote (TellsInput (whole_lines_of turn) before after) no_remark result held holds
ShowsView (PacketOfRun number) result before after told tells held holds =
    ShowsText (λ net said. said ≡ packet_state net (slice_get net.packets number))
    result before after told tells held holds
ShowsView (WholePacketOfRun info number) result before after told tells held holds =
    ShowsText (λ net said. said ≡ whole_state info net (slice_get net.packets number))
    result before after told tells held holds
ShowsView (Wrap info number) result before after told tells held holds =
    ShowsText (λ net said. said ≡ wrapped_line info number net)
    result before after told tells held holds
ShowsView (Capture info) result before after told tells held holds =
    Wrote (λ file. (input : List ℕ) × (Consumes before after input
    × (IsCapture info input file × Answers input told tells))) no_remark result held holds
ShowsView (Network extent marked) result before after told tells held holds =
    ShowsText (λ net said. said ≡ picture_of net extent marked)
    result before after told tells held holds
ShowsView (Path named) result before after told tells held holds =
    ShowsPath named result before after told tells held holds
ShowsView (Report words) result before after told tells held holds =
    (run : Result (Result (Option Remark) EventFault) RunFault) × ((result ≡ of_said run)
    × ShowsReport (wanted_by words) run before after told tells held holds)
ShowsView (Beacons options) result before after told tells held holds =
    Wrote (λ text. (input : List ℕ) × (Consumes before after input
    × AreBeaconLines options (one_line input) text))
    (λ text. if_so (is_beaconless text) NoBeacon) result held holds
ShowsView (Explain is_json) result before after told tells held holds =
    (run : Result Bool RunFault) × ((result ≡ of_findings run)
    × ExplainsAll (form_of is_json) run before after held holds)
