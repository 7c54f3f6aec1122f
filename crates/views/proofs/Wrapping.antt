-- What is said of a packet of the network as a whole packet, or why it is none.
use Rattle.std.proofs.Common.{◌≡◌, ℕ, List, ◌++◌, Option, Some, Result, Ok, Err, ap, subst, sym, ◌∙◌}
use Rattle.std.specs.Prelude.{codes, Vec}
use Rattle.std.specs.Io.KnownBytes.{Consumes}
use Rattle.hex.specs.Hex.{encode_lower}
use Rattle.event_lines.specs.declared.accepted.AcceptedLines.TheVariants.{All}
use Rattle.event_lines.specs.Run.{Listens}
use Rattle.network_core.specs.Value.{NetValue}
use Rattle.packet_view.specs.Whole.{packet_fault_line}
use Rattle.scion_packet.specs.declared.fault.PacketFault.{PacketFault}
use Rattle.run_capture.specs.Lines.{IsCapture}
use Rattle.scion_packet.specs.Value.{PacketInfoValue, WholePacketValue}
use Rattle.wire_packets.specs.Wrapped.{Wraps}
use Rattle.scion_topology.specs.Network.{Network}
use Rattle.forwarding.specs.declared.location.PacketLocation.{PacketLocation}
use Rattle.views.specs.RunPacket.{whole_next_lines, wrapped_lines}
use Rattle.views.specs.Wrapped.{Answers, whole_text}

pub bytes_shown : {A : Type 0} (bytes : Vec ℕ A) (wanted : Result WholePacketValue PacketFault)
    (text : List ℕ) → Wraps (Ok bytes) wanted → text ≡ encode_lower bytes.items ++ codes "\n"
    → text ≡ whole_text wanted
bytes_shown bytes (Ok packet) text spells is =
    is ∙ ap (λ b. encode_lower b ++ codes "\n") spells.spelled
bytes_shown bytes (Err fault) text spells is = absurd spells

pub refusal_shown : (fault : PacketFault) (wanted : Result WholePacketValue PacketFault)
    (text : List ℕ) → wanted ≡ Err fault → text ≡ packet_fault_line fault ++ codes "\n"
    → text ≡ whole_text wanted
refusal_shown fault wanted text same is = is ∙ ap whole_text (sym same)

pub lines_shown : {A : Type 0} (network : Network) (now : ℕ) (place : PacketLocation) (bytes : Vec ℕ A)
    (wanted : Result WholePacketValue PacketFault) (text : List ℕ) → Wraps (Ok bytes) wanted
    → text ≡ whole_next_lines network now bytes.items place → text ≡ wrapped_lines network now place wanted
lines_shown network now place bytes (Ok packet) text spells is =
    is ∙ ap (λ b. whole_next_lines network now b place) spells.spelled
lines_shown network now place bytes (Err fault) text spells is = absurd spells

pub fault_shown : (network : Network) (now : ℕ) (place : PacketLocation) (fault : PacketFault)
    (wanted : Result WholePacketValue PacketFault) (text : List ℕ) → wanted ≡ Err fault
    → text ≡ packet_fault_line fault ++ codes "\n" → text ≡ wrapped_lines network now place wanted
fault_shown network now place fault wanted text same is =
    is ∙ ap (wrapped_lines network now place) (sym same)

-- the lines of a source that has this input were answered
pub answered : (net : NetValue) (input : List ℕ) (before left told tells : Option (List ℕ))
    → before ≡ Some input → Listens All (Ok net) before left told tells → Answers input told tells
answered net input before left told tells same listens =
    (net, left, subst (λ (b : Option (List ℕ)). Listens All (Ok net) b left told tells) same listens)

-- what was read was answered, and is captured
pub captured : (info : PacketInfoValue) (bytes file read given : List ℕ)
    (before after told tells : Option (List ℕ)) → Consumes before after bytes → read ≡ bytes
    → given ≡ bytes → Answers read told tells → IsCapture info given file
    → (input : List ℕ) × (Consumes before after input
    × (IsCapture info input file × Answers input told tells))
captured info bytes file read given before after told tells consumes is_read is_given answers is = (
  bytes,
  (
    consumes,
    (
      subst (λ (b : List ℕ). IsCapture info b file) is_given is,
      subst (λ (b : List ℕ). Answers b told tells) is_read answers,
    ),
  ),
)
