-- Runs: none of any event, and one event more.
use Rattle.std.proofs.Common.{◌≡◌, List, [], ◌∷◌, ◌++◌, map, refl, sym, ap, ◌∙◌, subst}
use Rattle.std.proofs.lemmas.List.{map-append}
use Rattle.std.proofs.lemmas.List.Elements.{All-nil, All-push}
use Rattle.scion_topology.specs.Network.{Network}
use Rattle.scion_topology.specs.Topology.{IsNetwork}
use Rattle.network_core.specs.declared.reply.Reply.{Reply}
use Rattle.network_core.specs.Event.{EventValue}
use Rattle.network_core.specs.Value.{NetValue, new_net}
use Rattle.network_core.specs.Step.{Step}
use Rattle.network_core.specs.History.{EventRecord, IsHistory, net_after, AreIssued, AreAsked}
use Rattle.network_core.specs.Delivery.{IsFramed, AllFramed}
use Rattle.network_core.specs.Ran.{IsRun, Ran}
use Rattle.network_core.proofs.Issuing.{stored_all}
use Rattle.network_core.proofs.Headlines.{of_send}
use Rattle.network_core.proofs.Asked.{asked_all, of_answer}
use Rattle.network_core.proofs.Present.{no_turn_is_still}

-- a history goes on by one step
history_more : (start : NetValue) (history : List EventRecord) (m : EventRecord) → IsHistory start history
    → Step (net_after start history) m.event m.reply m.net → IsHistory start (history ++ m ∷ [])
history_more start [] m is step = (step, tt)
history_more start (x ∷ history) m is step = (is.0, history_more x.net history m is.1 step)

net_more : (start : NetValue) (history : List EventRecord) (m : EventRecord)
    → net_after start (history ++ m ∷ []) ≡ m.net
net_more start [] m = refl
net_more start (x ∷ history) m = net_more x.net history m

-- what is stored in a network that began with nothing in it was issued
pub are_issued : (network : Network) (history : List EventRecord) → IsNetwork network
    → IsHistory (new_net network) history → AreIssued (new_net network) history
are_issued network history known is k = stored_all (new_net network) history is known refl refl k

-- and what is answered in it was accepted
pub are_asked : (network : Network) (history : List EventRecord) → IsNetwork network
    → IsHistory (new_net network) history → AreAsked (new_net network) history
are_asked network history known is k =
    asked_all (new_net network) history is known refl refl refl k

-- every history of a new network is a run
pub is_run : (network : Network) (history : List EventRecord) → IsNetwork network
    → IsHistory (new_net network) history → AllFramed history → IsRun network history
is_run network history known is framed = record {
  lawful = known;
  is = is;
  turned = λ k p occurs. no_turn_is_still network history k p known is occurs;
  issued = are_issued network history known is;
  asked = are_asked network history known is;
  delivered = λ number p route payload occurs.
      of_send (new_net network) history number p route payload known is framed occurs;
  by_answer = λ number p ask path payload occurs.
      of_answer network history number p ask path payload known is framed occurs;
}

-- ---- event by event

-- a history of these events leads to this network, and all that it sent has its frame
pub record Goes (network : Network) (events : List EventValue) (net : NetValue) : Type 0 where
  pub history : List EventRecord
  pub is : IsHistory (new_net network) history
  pub framed : AllFramed history
  pub of : map (λ moment. moment.event) history ≡ events
  pub ends : net_after (new_net network) history ≡ net

pub goes_none : (network : Network) → Goes network [] (new_net network)
goes_none network = record {
  history = [];
  is = tt;
  framed = All-nil (λ (m : EventRecord). IsFramed m.event m.reply m.net);
  of = refl;
  ends = refl;
}

pub goes_more : (network : Network) (events : List EventValue) (net new : NetValue)
    (event : EventValue) (reply : Reply) → Goes network events net → Step net event reply new
    → IsFramed event reply new → Goes network (events ++ event ∷ []) new
goes_more network events net new event reply g step framed =
    let m : EventRecord = record { event = event; reply = reply; net = new } in
    let start = new_net network in record {
      history = g.history ++ m ∷ [];
      is = history_more start g.history m g.is (subst (λ (n : NetValue). Step n event reply new) (sym g.ends) step);
      framed = All-push (λ (x : EventRecord). IsFramed x.event x.reply x.net) g.history m g.framed framed;
      of = map-append (λ (x : EventRecord). x.event) g.history (m ∷ []) ∙ ap (λ es. es ++ event ∷ []) g.of;
      ends = net_more start g.history m;
    }

pub ran : (network : Network) (events : List EventValue) (net : NetValue) → IsNetwork network
    → Goes network events net → Ran network events net
ran network events net known g = record {
  history = g.history;
  run = is_run network g.history known g.is g.framed;
  of = g.of;
  ends = g.ends;
}
