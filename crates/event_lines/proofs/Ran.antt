-- Lines that were answered one by one are a run.
use Rattle.std.proofs.Common.{◌≡◌, ℕ, List, [], ◌∷◌, ◌++◌, map, Option, Some, None, Result, Ok, Err, refl, sym, ap, ◌∙◌, subst}
use Rattle.std.proofs.lemmas.List.{map-append}
use Rattle.std.proofs.lemmas.List.Elements.{All-nil, All-cons, All-append}
use Rattle.scion_topology.specs.declared.fault.TopologyFault.{TopologyFault}
use Rattle.scion_topology.specs.Network.{Network}
use Rattle.scion_topology.specs.Topology.{IsNetwork, network_in}
use Rattle.network_core.specs.Event.{EventValue}
use Rattle.network_core.specs.Value.{NetValue, new_net}
use Rattle.network_core.specs.History.{EventRecord, IsHistory, net_after}
use Rattle.network_core.specs.Delivery.{IsFramed, AllFramed}
use Rattle.network_core.proofs.Runs.{is_run}
use Rattle.event_lines.specs.declared.accepted.AcceptedLines.{AcceptedLines}
use Rattle.event_lines.specs.AcceptedLines.{accepted_as}
use Rattle.event_lines.specs.Line.{LineValue, Happens, Shows, line_in}
use Rattle.event_lines.specs.Replies.{Replies, Opens, RepliesToAll}
use Rattle.event_lines.specs.Answers.{event_of, events_of, IsAnswered, AreAnswered, AreRun, Stage, Unbegun, Open, Closed, Begins, RepliesToInput}

-- ---- histories one after the other

abbrev event_in : EventRecord → EventValue
event_in moment = moment.event

history_on : (start : NetValue) (happened later : List EventRecord) → IsHistory start happened
    → IsHistory (net_after start happened) later → IsHistory start (happened ++ later)
history_on start [] later first then = then
history_on start (m ∷ happened) later first then = (first.0, history_on m.net happened later first.1 then)

net_on : (start : NetValue) (happened later : List EventRecord)
    → net_after start (happened ++ later) ≡ net_after (net_after start happened) later
net_on start [] later = refl
net_on start (m ∷ happened) later = net_on m.net happened later

-- what happens from one network to another: these events, answered so
record Goes (start : NetValue) (events : List EventValue) (net : NetValue) (history : List EventRecord) : Type 0 where
  is : IsHistory start history
  framed : AllFramed history
  of : map event_in history ≡ events
  ends : net_after start history ≡ net

goes_on : (start middle net : NetValue) (events more : List EventValue) (happened later : List EventRecord)
    → Goes start events middle happened → Goes middle more net later
    → Goes start (events ++ more) net (happened ++ later)
goes_on start middle net events more happened later first then =
    let from : IsHistory (net_after start happened) later = subst (λ n. IsHistory n later) (sym first.ends) then.is in
    record {
      is = history_on start happened later first.is from;
      framed = All-append (λ (m : EventRecord). IsFramed m.event m.reply m.net) happened later first.framed then.framed;
      of = map-append event_in happened later ∙ ap (λ es. es ++ map event_in later) first.of ∙ ap
          (λ es. events ++ es) then.of;
      ends = net_on start happened later ∙ ap (λ n. net_after n later) first.ends ∙ then.ends;
    }

goes_nowhere : (start net : NetValue) → net ≡ start → Goes start [] net []
goes_nowhere start net same = record {
  is = tt;
  framed = All-nil (λ (m : EventRecord). IsFramed m.event m.reply m.net);
  of = refl;
  ends = sym same;
}

-- ---- one line

one_line : (old : NetValue) (asked : Option LineValue) (text : List ℕ) (new : NetValue)
    → Replies old asked text new
    → (happened : List EventRecord) × (Goes old (event_of asked) new happened × IsAnswered old asked text happened)
one_line old (Some (Happens event)) text new is =
    let m : EventRecord = record { event = event; reply = is.0; net = new } in (
      m ∷ [],
      (
        record {
          is = (is.1.0, tt);
          framed = All-cons (λ (x : EventRecord). IsFramed x.event x.reply x.net) m [] is.1.1.0
              (All-nil (λ (x : EventRecord). IsFramed x.event x.reply x.net));
          of = refl;
          ends = refl;
        },
        (is.0, new, (refl, is.1.1.1)),
      ),
    )
one_line old (Some (Shows packet)) text new is = ([], (goes_nowhere old new is.1, (refl, is.0)))
one_line old None text new is = ([], (goes_nowhere old new is.1, (refl, is.0)))

-- ---- all lines after the first

-- a run that stands in a network stays in one
stays_open : (accepted : AcceptedLines) (start : NetValue) (lines texts : List (List ℕ)) (stage : Stage)
    → RepliesToAll accepted (Open start) lines texts stage → (net : NetValue) × (stage ≡ Open net)
stays_open accepted start [] texts stage is = (start, is.1)
stays_open accepted start (line ∷ lines) [] stage is = absurd is
stays_open accepted start (line ∷ lines) (text ∷ texts) stage is =
    stays_open accepted is.1.0.0 lines texts stage
    (subst (λ s. RepliesToAll accepted s lines texts stage) is.1.0.1.1 is.1.1)

open_is : (one other : NetValue) → Open one ≡ Open other → one ≡ other
open_is one other same = cc

all_lines_told : (accepted : AcceptedLines) (start net : NetValue) (lines texts : List (List ℕ))
    → RepliesToAll accepted (Open start) lines texts (Open net)
    → (history : List EventRecord) × (Goes start (events_of accepted lines) net history × AreAnswered accepted start lines texts history)
all_lines_told accepted start net [] texts is = ([], (goes_nowhere start net (open_is net start is.1), (is.0, refl)))
all_lines_told accepted start net (line ∷ lines) [] is = absurd is
all_lines_told accepted start net (line ∷ lines) (text ∷ texts) is =
    let new = is.1.0.0 in
    let asked = accepted_as accepted (line_in line) in
    let one = one_line start asked text new is.1.0.1.0 in
    let later = all_lines_told accepted new net lines texts
    (subst (λ s. RepliesToAll accepted s lines texts (Open net)) is.1.0.1.1 is.1.1) in (
      one.0 ++ later.0,
      (
        goes_on start new net (event_of asked) (events_of accepted lines) one.0 later.0 one.1.0 later.1.0,
        (
          one.0,
          later.0,
          (refl, (one.1.1, subst (λ n. AreAnswered accepted n lines texts later.0) (sym one.1.0.ends) later.1.1)),
        ),
      ),
    )

are_run : (accepted : AcceptedLines) (network : Network) (lines texts : List (List ℕ)) (net : NetValue)
    → IsNetwork network → RepliesToAll accepted (Open (new_net network)) lines texts (Open net)
    → AreRun accepted network lines texts net
are_run accepted network lines texts net known is =
    let all = all_lines_told accepted (new_net network) net lines texts is in
    let goes = all.1.0 in record {
      ran = record { history = all.0; run = is_run network all.0 known goes.is goes.framed; of = goes.of; ends = goes.ends };
      answered = all.1.1;
    }

-- ---- from the first line on

closed_after : (accepted : AcceptedLines) (lines texts : List (List ℕ)) (stage : Stage)
    → RepliesToAll accepted Closed lines texts stage → (stage ≡ Closed) × ((lines ≡ []) × (texts ≡ []))
closed_after accepted [] texts stage is = (is.1, (refl, is.0))
closed_after accepted (line ∷ lines) [] stage is = absurd is
closed_after accepted (line ∷ lines) (text ∷ texts) stage is = absurd is.1.0

begun_by : (accepted : AcceptedLines) (read : Result Network TopologyFault) (text : List ℕ)
    (lines texts : List (List ℕ)) (next stage : Stage) → Opens read text next
    → RepliesToAll accepted next lines texts stage → Begins accepted read text lines texts stage
begun_by accepted (Ok network) text lines texts next stage opens says =
    let from = subst (λ s. RepliesToAll accepted s lines texts stage) opens.1.1 says in
    let at = stays_open accepted (new_net network) lines texts stage from in (
      at.0,
      (
        opens.0,
        (
          at.1,
          are_run accepted network lines texts at.0 opens.1.0
              (subst (λ s. RepliesToAll accepted (Open (new_net network)) lines texts s) at.1 from),
        ),
      ),
    )
begun_by accepted (Err fault) text lines texts next stage opens says =
    (opens.0, closed_after accepted lines texts stage (subst (λ s. RepliesToAll accepted s lines texts stage) opens.1 says))

pub told_as_run : (accepted : AcceptedLines) (lines texts : List (List ℕ)) (stage : Stage)
    → RepliesToAll accepted Unbegun lines texts stage → RepliesToInput accepted lines texts stage
told_as_run accepted [] texts stage is = is
told_as_run accepted (first ∷ lines) [] stage is = absurd is
told_as_run accepted (first ∷ lines) (text ∷ texts) stage is =
    begun_by accepted (network_in first) text lines texts is.0 stage is.1.0 is.1.1
