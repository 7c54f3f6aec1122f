use Rattle.std.proofs.Common.{◌≡◌, List, Some, subst}
use Rattle.std.specs.Prelude.{◌⊎◌, IfSome}
use Rattle.policy_expr.specs.declared.hop.WalkHop.{WalkHop}
use Rattle.path_verifier.specs.Accepted.{MakesPath, NamesOnce, request_of}
use Rattle.path_verifier.specs.Header.{header_of}
use Rattle.path_verifier.proofs.Breaches.{path_of_shape}
use Rattle.combinator.specs.inner.Choice.{AllowNone, IsAllowed}
use Rattle.combinator.proofs.Asked.{refused_is_no_path}
use Rattle.combinator.proofs.Wanted.{allowed_path, any_rules, still_best}
use Rattle.combinator.proofs.options.Pass.best_on.Goals as goal

pub returns-in-Ok-clause-allowed : goal.returns-in-Ok-clause-allowed
returns-in-Ok-clause-allowed g c =
    let ask = c.args.self.now.request.now in
    let pieces = c.args.pieces.now in
    let moment = ask.set.now.moment in
    let path = path_of_shape (request_of pieces (header_of pieces) ask.src ask.dst moment any_rules)
    (c.in-Ok.ensures.kept (header_of pieces) moment any_rules) (subst NamesOnce c.requires.walk c.requires.once) c.requires.live in
    allowed_path (MakesPath pieces ask.src ask.dst moment) path c.args.best c.best_for.result (IsAllowed ask.options.now c.args.walk.now)
    (subst (λ (walk : List WalkHop). IfSome c.best_for.result (λ place. (c.args.best ≡ Some place) ⊎ IsAllowed ask.options.now walk place))
    c.as_slice.ensures.value c.best_for.ensures.allowed)

pub returns-in-Ok-clause-none : goal.returns-in-Ok-clause-none
returns-in-Ok-clause-none g c = λ path.
    subst (AllowNone c.args.self.now.request.now.options.now c.best_for.result) c.as_slice.ensures.value c.best_for.ensures.none

pub returns-in-Err-clause-allowed : goal.returns-in-Err-clause-allowed
returns-in-Err-clause-allowed g c = still_best c.args.best _

pub returns-in-Err-clause-none : goal.returns-in-Err-clause-none
returns-in-Err-clause-none g c = λ path.
    let ask = c.args.self.now.request.now in
    absurd (refused_is_no_path c.args.pieces.now ask.src ask.dst ask.set.now.moment c.in-Err.field-0
    (λ header rules. c.in-Err.ensures.fault header ask.set.now.moment rules) path)
