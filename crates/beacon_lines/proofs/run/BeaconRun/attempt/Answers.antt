use Rattle.std.proofs.Common.{◌≡◌, false, true, [], ◌∷◌, ◌++◌, cond, map, sym, ap, ◌∙◌, subst, arith}
use Rattle.std.specs.Prelude.{is_ok}
use Rattle.std.proofs.lemmas.Grind.{common_steps}
use Rattle.std.proofs.lemmas.List.{map-append}
use Rattle.network_core.specs.Event.{event_value}
use Rattle.network_core.specs.Step.{Step}
use Rattle.network_core.specs.Value.{NetValue}
use Rattle.network_core.specs.Delivery.{IsFramed}
use Rattle.beacon_lines.specs.Beaconing.{BeaconRunValue, IsBeaconing, network_event}
use Rattle.beacon_lines.specs.inner.Events.{Happens, is_new}
use Rattle.beacon_lines.proofs.Going.{goes_as, image_is, stays_as}
use Rattle.beacon_lines.proofs.run.BeaconRun.attempt.Goals as goal

pub invariant_of-self-then-not-is_new : goal.invariant_of-self-then-not-is_new
invariant_of-self-then-not-is_new c =
    let old = c.self.inside in
    let new = c.happen.new.net in
    let event = c.args.event.now in
    let done = c.in_ok-effect.ensures.done in
    let same = image_is event_value c.of_network.result c.in-Some.due (network_event event)
    c.in-Some.is c.of_network.ensures in
    let happens : Happens old.net event c.in_ok-effect.effect new = record {
      reply = done.0;
      says = done.1.0;
      step = subst (λ e. Step old.net e done.0 new) same done.1.1.0;
    } in
    let none : is_new c.in_ok-effect.effect ≡ false = sym c.is_new.ensures ∙ c.if-not-is_new.true in
    let items = ap (map network_event) c.try_reserve.ensures.items in
    subst (λ es. IsBeaconing new.network old.second es new) (sym items)
    (stays_as old.net new old.second (map network_event old.events.items) event
    c.in_ok-effect.effect c.self.invariant happens none)

pub returns-then-not-is_new-clause-happens : goal.returns-then-not-is_new-clause-happens
returns-then-not-is_new-clause-happens c =
    let old = c.self.inside in
    let new = c.happen.new.net in
    let event = c.args.event.now in
    let done = c.in_ok-effect.ensures.done in
    let same = image_is event_value c.of_network.result c.in-Some.due (network_event event)
    c.in-Some.is c.of_network.ensures in
    let happens : Happens old.net event c.in_ok-effect.effect new = record {
      reply = done.0;
      says = done.1.0;
      step = subst (λ e. Step old.net e done.0 new) same done.1.1.0;
    } in
    subst (λ (m : NetValue). Happens m event c.in_ok-effect.effect new)
    (ap (λ (r : BeaconRunValue). r.net) c.self.view_is) happens

pub invariant_of-self-2 : goal.invariant_of-self-2
invariant_of-self-2 c =
    let old = c.self.inside in
    let new = c.happen.new.net in
    let event = c.args.event.now in
    let done = c.in_ok-effect.ensures.done in
    let same = image_is event_value c.of_network.result c.in-Some.due (network_event event)
    c.in-Some.is c.of_network.ensures in
    let happens : Happens old.net event c.in_ok-effect.effect new = record {
      reply = done.0;
      says = done.1.0;
      step = subst (λ e. Step old.net e done.0 new) same done.1.1.0;
    } in
    let new_is : is_new c.in_ok-effect.effect ≡ true = sym c.is_new.ensures
    ∙ c.if-not-is_new.false in
    let ok : is_ok c.push.result ≡ true = grind (arith, common_steps) in
    let pushed = c.push.ensures.items
    ∙ ap (λ b. cond b (c.try_reserve.new.self.items ++ event ∷ []) c.try_reserve.new.self.items) ok
    ∙ ap (λ all. all ++ event ∷ []) c.try_reserve.ensures.items in
    let items = ap (map network_event) pushed ∙ map-append network_event old.events.items
    (event ∷ []) in
    subst (λ es. IsBeaconing new.network old.second es new) (sym items)
    (goes_as old.net new old.second (map network_event old.events.items) event c.in_ok-effect.effect
    c.self.invariant happens
    (subst (λ e. IsFramed e done.0 new) same done.1.1.1) new_is)

pub returns-clause-happens : goal.returns-clause-happens
returns-clause-happens c =
    let old = c.self.inside in
    let new = c.happen.new.net in
    let event = c.args.event.now in
    let done = c.in_ok-effect.ensures.done in
    let same = image_is event_value c.of_network.result c.in-Some.due (network_event event)
    c.in-Some.is c.of_network.ensures in
    let happens : Happens old.net event c.in_ok-effect.effect new = record {
      reply = done.0;
      says = done.1.0;
      step = subst (λ e. Step old.net e done.0 new) same done.1.1.0;
    } in
    subst (λ (m : NetValue). Happens m event c.in_ok-effect.effect new)
    (ap (λ (r : BeaconRunValue). r.net) c.self.view_is) happens
