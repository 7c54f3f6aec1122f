-- The text of a beaconing: the line of its topology, and the lines of its events.
use Rattle.std.proofs.Common.{◌≡◌, ℕ, ◌<◌, true, List, [], ◌∷◌, ◌++◌, get_or, map, Ok, Err, refl, sym, ap, ◌∙◌, subst}
use Rattle.std.specs.Prelude.{codes, flat_map, IfErr, IsTrue, Result}
use Rattle.std.specs.Str.{IsUtf8, is_utf8}
use Rattle.std.proofs.lemmas.Str.{is_utf8-from_IsUtf8}
use Rattle.refusal.specs.declared.fault.OrMemory.{OrMemory}
use Rattle.refusal.specs.declared.fault.OrMemory.TheVariants.{Memory}
use Rattle.std.proofs.lemmas.List.{append_assoc}
use Rattle.std.proofs.lemmas.List.Concat.{flat_map-cons}
use Rattle.std.proofs.lemmas.List.Elements.{Contains-get_or}
use Rattle.json_fields.proofs.Documents.{no_document}
use Rattle.scion_topology.specs.declared.fault.TopologyFault.{TopologyFault}
use Rattle.scion_topology.specs.declared.fault.TopologyFault.TheVariants.{NotJson}
use Rattle.scion_topology.specs.Network.{Network}
use Rattle.scion_topology.specs.Rules.{IsNetwork}
use Rattle.scion_topology.specs.Topology.{network_in, of_value}
use Rattle.network_core.specs.Event.{Tick}
use Rattle.network_core.specs.Value.{NetValue}
use Rattle.network_core.specs.Step.{has_room}
use Rattle.network_core.proofs.Runs.{is_run}
use Rattle.beacon_lines.specs.declared.options.BeaconingOptions.{BeaconingOptions}
use Rattle.beacon_lines.specs.declared.event.BeaconEvent.{BeaconEvent}
use Rattle.beacon_lines.specs.Beaconing.{IsBeaconing, network_event}
use Rattle.beacon_lines.specs.Lines.{AreBeaconLines, event_line}
use Rattle.beacon_lines.specs.Reach.{IsComplete, KeepsOptions}
use Rattle.beacon_lines.specs.inner.Search.{IsServedAll, begun_net}

-- bytes that are no UTF-8 are no topology
pub no_text : (bytes : List ℕ) → ¬ (IsUtf8 bytes) → network_in bytes ≡ Err NotJson
no_text bytes none = ap of_value (no_document bytes (λ text. absurd (none text)))

-- the lines of events, one after another
lines_of : (events : List BeaconEvent)
    → flat_map event_line (map network_event events) ≡ flat_map
    (λ event. event_line (network_event event)) events
lines_of [] = refl
lines_of (event ∷ events) =
    flat_map-cons event_line (network_event event) (map network_event events)
    ∙ ap (λ later. event_line (network_event event) ++ later) (lines_of events)
    ∙ sym (flat_map-cons (λ event. event_line (network_event event)) event events)

-- what was served keeps the options
kept : (options : BeaconingOptions) (n : Network) (net : NetValue)
    → IsServedAll options (begun_net n options.now) net → KeepsOptions options net.segments
kept options n net served = record {
  few = served.right.few;
  short = λ k d within. served.right.short (get_or net.segments k d)
      (Contains-get_or net.segments k d within);
  begun = λ k d within. served.right.begun (get_or net.segments k d)
      (Contains-get_or net.segments k d within);
}

complete : (options : BeaconingOptions) (n : Network) (net : NetValue)
    → IsServedAll options (begun_net n options.now) net → 0 < options.per_pair
    → has_room net.beacons ≡ true → IsComplete options n net.segments
complete options n net served some room = record {
  down = λ first core. (served.complete some room first core).down;
  core = λ first core. (served.complete some room first core).core;
}

pub are_lines : (options : BeaconingOptions) (line text : List ℕ) (network : Network)
    (events : List BeaconEvent) (net : NetValue) → network_in line ≡ Ok network → IsNetwork network
    → IsServedAll options (begun_net network options.now) net
    → IsBeaconing net.network options.now (map network_event events) net
    → text ≡ ((line ++ codes "\n") ++ event_line (Tick options.now))
    ++ flat_map (λ event. event_line (network_event event)) events
    → AreBeaconLines options line text
are_lines options line text network events net topology known served beaconing says =
    let own = subst (λ n. IsBeaconing n options.now (map network_event events) net)
    served.grows.network beaconing in
    let behind = flat_map (λ event. event_line (network_event event)) events in
    let tick = event_line (Tick options.now) in
    record {
      network = network;
      topology = topology;
      events = map network_event events;
      net = net;
      beaconing = own;
      run = is_run network own.history known own.is own.framed;
      kept = kept options network net served;
      complete = complete options network net served;
      says = says ∙ append_assoc (line ++ codes "\n") tick behind
          ∙ append_assoc line (codes "\n") (tick ++ behind)
          ∙ ap (λ later. line ++ (codes "\n" ++ (tick ++ later))) (sym (lines_of events))
          ∙ ap (λ later. line ++ (codes "\n" ++ later))
          (sym (flat_map-cons event_line (Tick options.now) (map network_event events)));
    }

-- memory may run out where the bytes are UTF-8
pub wants_text : {A : Type 0} (answer : Result A (OrMemory TopologyFault)) (bytes : List ℕ)
    → IsUtf8 bytes → IfErr answer (λ error. error ≡ Memory → IsTrue (is_utf8 bytes))
wants_text (Ok lines) bytes text = tt
wants_text (Err error) bytes text = λ memory. is_utf8-from_IsUtf8 bytes text
