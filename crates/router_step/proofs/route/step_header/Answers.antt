-- The step is that of its parts.
use Rattle.std.proofs.Common.{◌≡◌, Bool, Ok, sym, ap, ◌∙◌, arith}
use Rattle.std.proofs.lemmas.Grind.{common_steps}
use Rattle.path_header.specs.Borrowed.{value_of}
use Rattle.router_step.specs.Place.{header_on_arrival, header_on_leaving, moved_on}
use Rattle.router_step.proofs.Leaving.{last_by_place, differs_by, stepped_on}
use Rattle.router_step.proofs.route.step_header.Goals as goal

pub returns-clause-exact : goal.returns-clause-exact
returns-clause-exact c =
    let value = value_of c.args.header.now in
    let here = header_on_arrival c.args.arrival value in
    let there = c.in_ok-there.there in
    let placed : value_of c.write_place.new.header ≡ moved_on there.switched here = grind (arith, common_steps) in
    let last = last_by_place here c.in_ok-here.here c.hop_count.result c.known.ensures.header.hops c.in_ok-here.ensures.here c.hop_count.ensures.value in
    let goes_on = c.in_ok-end.ensures here last ∙ ap (λ (b : Bool). Ok b) (differs_by _ _ c.if-last.false) in
    stepped_on c.args.view.now c.args.now c.args.arrival c.args.source c.args.destination value here (value_of c.write_outcome.new.header) there c.in_ok-outcome.outcome
    c.in_ok-here.ensures.exact goes_on c.in_ok-there.ensures.exact c.in_ok-there.ensures.there (sym c.leave.ensures ∙ c.in_ok-outcome.was)
    (c.write_outcome.ensures.value ∙ ap (header_on_leaving c.in_ok-outcome.outcome) placed)
