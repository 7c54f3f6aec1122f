use Rattle.std.proofs.Common.{◌≡◌, [], sym, ap, ◌∙◌, subst}
use Rattle.std.specs.Arc.{arc_value}
use Rattle.std.specs.Option.{option_map_or}
use Rattle.path_verifier.specs.Accepted.{IsAccepted}
use Rattle.path_verifier.specs.Header.{header_of}
use Rattle.network_core.specs.Sent.{way_numbered}
use Rattle.network_core.specs.Value.{Way, KeptAnswer, asked_at, way_on, way_with}
use Rattle.network_core.proofs.net.Net.ready_on.Goals as goal

pub by_answer-requires-clause-accepted : goal.by_answer-requires-clause-accepted
by_answer-requires-clause-accepted c =
    let moment = c.args.self.now.moment in
    let one = arc_value c.args.answer.now in
    let same : way_on c.deref.result.now c.args.path.now ≡ way_numbered one c.args.number =
    ap (λ (answer : KeptAnswer). way_on answer c.args.path.now) c.deref.ensures
    ∙ sym (ap (λ found. option_map_or (way_on one) found (way_with one.source one.destination [] (header_of []) one.rules)) c.requires.there) in
    (moment, subst (λ (way : Way). IsAccepted (asked_at moment way)) same c.in_ok-router.ensures.0)
