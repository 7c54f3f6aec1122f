-- What the network has made stays sound through events that leave it undisturbed, so each turn of a
-- packet finds that the network lets its path through.
use Rattle.std.proofs.Common.{◌≡◌, ℕ, Bool, true, false, List, [], ◌∷◌, Ok, sym, subst, inl, inr}
use Rattle.scion_topology.specs.Topology.{IsNetwork, set_up}
use Rattle.path_verifier.specs.Accepted.{MakesPath}
use Rattle.forwarding.proofs.Made.{sound_is_let_through}
use Rattle.forwarding.proofs.Steady.{mended_sound, cut_sound, rotated_sound}
use Rattle.network_core.specs.declared.reply.Reply.{Reply}
use Rattle.network_core.specs.Event.{EventValue}
use Rattle.network_core.specs.Value.{Shipment, NetValue}
use Rattle.network_core.specs.Step.{Step}
use Rattle.network_core.specs.History.{EventRecord, IsHistory}
use Rattle.network_core.specs.Delivery.{is_done, AllLetGoOn, AreSound, LeavesUndisturbed, AllLeaveUndisturbed}
use Rattle.network_core.proofs.Effects.{switching, effect}
use Rattle.network_core.proofs.Numbers.{network_on}

-- ---- sound pieces

switched_sound : (p : ℕ) (sent : Shipment) (old new : NetValue) (event : EventValue) (reply : Reply)
    → LeavesUndisturbed p sent old event reply → AreSound old.network sent.way.pieces
    → (up : Bool) (ia number : ℕ) → event ≡ switching up ia number → is_done reply ≡ true
    → set_up up ia number old.network ≡ Ok new.network → AreSound new.network sent.way.pieces
switched_sound p sent old new event reply quiet sound false ia number event_is done change k d within =
    let one = sound k d within in
    let alone = quiet.links ia number event_is done k d within in
    (one.0, cut_sound old.network new.network ia number one.0 _ change alone one.1)
switched_sound p sent old new event reply quiet sound true ia number event_is done change k d within =
    let one = sound k d within in
    (one.0, mended_sound old.network new.network ia number one.0 _ change one.1)

-- each event that leaves the packet undisturbed leaves its pieces sound
pub sound_on : (p : ℕ) (sent : Shipment) (old new : NetValue) (event : EventValue) (reply : Reply)
    → Step old event reply new → LeavesUndisturbed p sent old event reply
    → AreSound old.network sent.way.pieces → AreSound new.network sent.way.pieces
sound_on p sent old new event reply is quiet sound = elim (effect old new event reply is).network [
  | inl same ↦ subst (λ n. AreSound n sent.way.pieces) (sym same) sound
  | inr some ↦ elim some [
    | inl s ↦ switched_sound p sent old new event reply quiet sound s.up s.ia s.number s.event_is s.done s.change
    | inr r ↦ (λ k d within. (
        let one = sound k d within in
        let past = quiet.keys r.ia r.key r.event_is r.done k d within in
        (one.0, rotated_sound old.network new.network r.ia r.key one.0 _ r.change past one.1)))
  ]
]

-- ---- any events

pub let_all : (p : ℕ) (sent : Shipment) (moment : ℕ) (net : NetValue) (later : List EventRecord)
    → MakesPath sent.way.pieces sent.way.source sent.way.destination moment → IsHistory net later
    → IsNetwork net.network → AreSound net.network sent.way.pieces
    → AllLeaveUndisturbed p sent net later → AllLetGoOn p sent net later
let_all p sent moment net [] path is network sound quiet = tt
let_all p sent moment net (m ∷ later) path is network sound quiet =
    let now = quiet.0 in (
      record {
        unlost = now.unlost;
        unaltered = now.unaltered;
        let_through = λ event done. sound_is_let_through net.network net.moment sent.way.source
            sent.way.destination moment sent.way.pieces network path (now.in_time event done) sound;
      },
      let_all p sent moment m.net later path is.1
          (network_on net m.net m.event m.reply is.0 network)
          (sound_on p sent net m.net m.event m.reply is.0 now sound) quiet.1,
    )
