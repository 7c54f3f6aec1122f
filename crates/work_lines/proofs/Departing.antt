-- The packets of a network to which lines have led may depart in it.
use Rattle.std.proofs.Common.{◌≡◌, ℕ, List, [], ◌∷◌, Option, Result, Ok, Err, sym, subst}
use Rattle.std.specs.Io.KnownBytes.{IsAtEnd}
use Rattle.scion_topology.specs.declared.fault.TopologyFault.{TopologyFault}
use Rattle.scion_topology.specs.Network.{Network}
use Rattle.scion_topology.specs.Topology.{network_in}
use Rattle.network_core.specs.Value.{NetValue}
use Rattle.network_core.specs.History.{EventRecord, IsHistory, net_after}
use Rattle.network_core.specs.Delivery.{AllMayDepart}
use Rattle.network_core.proofs.Allowing.{may_depart_then, none_yet}
use Rattle.event_lines.specs.declared.accepted.AcceptedLines.{AcceptedLines}
use Rattle.event_lines.specs.Run.{Ends, Listens, Wrote}
use Rattle.event_lines.specs.Answers.{Open, AreRun, Begins, RepliesToInput}

after_may : (start : NetValue) (history : List EventRecord) → IsHistory start history
    → AllMayDepart start → AllMayDepart (net_after start history)
after_may start [] is held = held
after_may start (m ∷ later) is held =
    after_may m.net later is.1 (may_depart_then start m.net m.event m.reply is.0 held)

run_may : (accepted : AcceptedLines) (network : Network) (lines texts : List (List ℕ)) (net : NetValue)
    → AreRun accepted network lines texts net → AllMayDepart net
run_may accepted network lines texts net is =
    subst AllMayDepart is.ran.ends (after_may _ is.ran.history is.ran.run.is (none_yet network))

open_is : (one other : NetValue) → Open one ≡ Open other → one ≡ other
open_is one other same = cc

begun_may : (accepted : AcceptedLines) (read : Result Network TopologyFault) (text : List ℕ)
    (lines texts : List (List ℕ)) (net : NetValue) → Begins accepted read text lines texts (Open net)
    → AllMayDepart net
begun_may accepted (Ok network) text lines texts net is =
    subst AllMayDepart (sym (open_is net is.0 is.1.1.0)) (run_may accepted network lines texts is.0 is.1.1.1)
begun_may accepted (Err fault) text lines texts net is = absurd (let no_such = is.1.0 in cc)

told_may : (accepted : AcceptedLines) (lines texts : List (List ℕ)) (net : NetValue)
    → RepliesToInput accepted lines texts (Open net) → AllMayDepart net
told_may accepted [] texts net is = absurd (let no_such = is.1 in cc)
told_may accepted (first ∷ lines) [] net is = absurd is
told_may accepted (first ∷ lines) (text ∷ texts) net is =
    begun_may accepted (network_in first) text lines texts net is

-- so it is of the network that a run over streams reached
pub listened_may : (accepted : AcceptedLines) (net : NetValue) (before after held holds : Option (List ℕ))
    → Listens accepted (Ok net) before after held holds → AllMayDepart net
listened_may accepted net before after held holds is =
    let ends : Ends accepted (Ok net) (IsAtEnd after) is.0 is.1 = is.2.1.1.1 in
    let wrote : Wrote accepted ends.0 is.1 (Open net) = ends.1.1 in
    told_may accepted ends.0 wrote.0 net wrote.1.0
