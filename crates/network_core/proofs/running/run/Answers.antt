use Rattle.std.proofs.Common.{◌≡◌, ◌+◌, [], ◌∷◌, ◌++◌, length, map, take, refl, sym, ap, ◌∙◌, subst}
use Rattle.std.specs.Prelude.{option_map}
use Rattle.std.proofs.lemmas.List.{map_more, take-map, take_all}
use Rattle.std.proofs.lemmas.Option.{slice_get-map, slice_get_read}
use Rattle.network_core.specs.Ran.{Ran}
use Rattle.network_core.specs.Event.{event_value}
use Rattle.network_core.specs.Step.{TakesMemory}
use Rattle.network_core.proofs.Runs.{Goes, goes_none, goes_more, ran}
use Rattle.network_core.proofs.running.run.Goals as goal

pub loop-done-init : goal.loop-done-init
loop-done-init c = subst (Goes c.args.topology []) (sym c.new-net.ensures) (goes_none c.args.topology)

pub loop-done-preserved : goal.loop-done-preserved
loop-done-preserved c =
    let events = c.args.events.now in
    let done = c.loop-done.done in
    let event = c.index-events-done.result in
    let more : take (done + 1) (map event_value events) ≡ take done (map event_value events) ++ event_value event ∷ [] =
    take-map event_value (done + 1) events
    ∙ map_more event_value events done event c.loop-done-test.true
    ∙ ap (λ e. map event_value (take done events) ++ event_value e ∷ []) (sym c.index-events-done.is)
    ∙ ap (λ es. es ++ event_value event ∷ []) (sym (take-map event_value done events)) in
    subst (λ es. Goes c.args.topology es c.step.new.self) (sym more)
    (goes_more c.args.topology (take done (map event_value events)) c.loop-done.net c.step.new.self
    (event_value event) c.in-Ok.field-0 c.loop-done.invariant c.in-Ok.ensures.step c.in-Ok.ensures.framed)

-- event number `done` wants memory in the network that those before lead to
pub returns-in-Err-clause-stopped : goal.returns-in-Err-clause-stopped
returns-in-Err-clause-stopped c =
    let events = c.args.events.now in
    let done = c.loop-done.done in
    let event = c.index-events-done.result in
    let there = slice_get_read events (length events) done event refl c.loop-done-test.true c.index-events-done.is in
    let same = sym c.in-Err.ensures.kept in (
      event_value event,
      (
        slice_get-map event_value events done ∙ ap (option_map event_value) there,
        (
          subst (λ net. TakesMemory net (event_value event)) same c.in-Err.ensures.short,
          subst (Ran c.args.topology (take done (map event_value events))) same
              (ran c.args.topology (take done (map event_value events)) c.loop-done.net c.known.ensures c.loop-done.invariant),
        ),
      ),
    )

pub returns-clause-ran : goal.returns-clause-ran
returns-clause-ran c =
    let whole : take c.loop-done.done (map event_value c.args.events.now) ≡ map event_value c.args.events.now =
    take-map event_value c.loop-done.done c.args.events.now
    ∙ ap (map event_value) (take_all c.loop-done.done c.args.events.now c.loop-done-test.false) in
    subst (λ es. Ran c.args.topology es c.loop-done.net) whole
    (ran c.args.topology (take c.loop-done.done (map event_value c.args.events.now)) c.loop-done.net
    c.known.ensures c.loop-done.invariant)
