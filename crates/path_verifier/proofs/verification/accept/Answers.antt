use Rattle.std.proofs.Common.{◌≡◌, refl, ap, ◌∙◌, subst}
use Rattle.std.proofs.lemmas.Result.{err_from_is_err_and}
use Rattle.path_verifier.specs.Header.{header_of}
use Rattle.path_verifier.specs.Walk.{walk_of}
use Rattle.path_verifier.specs.Accepted.{MakesPath, request_of, IsRefused}
use Rattle.path_verifier.proofs.Breaches.{header_keeps, path_kept, refused_is_not_accepted}
use Rattle.path_verifier.proofs.verification.accept.Goals as goal

pub returns-in_err-follow_pieces-clause-only : goal.returns-in_err-follow_pieces-clause-only
returns-in_err-follow_pieces-clause-only g c = λ accepted. absurd (
    let header = header_of c.args.pieces.now in
    let request = request_of c.args.pieces.now header c.args.src c.args.dst c.args.now c.args.policy.now in
    let refused =
    subst (λ pieces. IsRefused (request_of pieces header c.args.src c.args.dst c.args.now c.args.policy.now) c.in_err-follow_pieces.field-0.0)
    c.pieces.view_is (c.in_err-follow_pieces.ensures.fault header c.args.policy.now) in
    refused_is_not_accepted request c.in_err-follow_pieces.field-0.0 refused accepted)

pub returns-in_err-follow_pieces-clause-exact : goal.returns-in_err-follow_pieces-clause-exact
returns-in_err-follow_pieces-clause-exact g c =
    let p = err_from_is_err_and c.from_residual.result c.from_residual.ensures.1 in
    let header = header_of c.args.pieces.now in
    rw (p.1, p.2)
    (subst (λ pieces. IsRefused (request_of pieces header c.args.src c.args.dst c.args.now c.args.policy.now) c.in_err-follow_pieces.field-0.0)
    c.pieces.view_is (c.in_err-follow_pieces.ensures.fault header c.args.policy.now))

pub returns-in_err-check_policy-clause-only : goal.returns-in_err-check_policy-clause-only
returns-in_err-check_policy-clause-only g c = λ accepted. absurd (
    let request =
    request_of c.args.pieces.now (header_of c.args.pieces.now) c.args.src c.args.dst c.args.now c.args.policy.now in
    let walk : c.as_slice.result.now ≡ walk_of c.args.pieces.now =
    c.as_slice.ensures.value ∙ c.in_ok-follow_pieces.ensures.walk ∙ ap walk_of c.pieces.view_is in
    let refused = c.in_err-check_policy.ensures.exact request walk refl (header_keeps request (path_kept accepted) refl) in
    refused_is_not_accepted request c.in_err-check_policy.field-0.0 refused accepted)

pub returns-in_err-check_policy-clause-exact : goal.returns-in_err-check_policy-clause-exact
returns-in_err-check_policy-clause-exact g c =
    let p =
    err_from_is_err_and c.from_residual-in_err-check_policy.result c.from_residual-in_err-check_policy.ensures.1 in
    let request =
    request_of c.args.pieces.now (header_of c.args.pieces.now) c.args.src c.args.dst c.args.now c.args.policy.now in
    let walk : c.as_slice.result.now ≡ walk_of c.args.pieces.now =
    c.as_slice.ensures.value ∙ c.in_ok-follow_pieces.ensures.walk ∙ ap walk_of c.pieces.view_is in
    let path =
    subst (λ pieces. MakesPath pieces c.args.src c.args.dst c.args.now) c.pieces.view_is c.in_ok-follow_pieces.ensures.path in
    rw (p.1, p.2) (c.in_err-check_policy.ensures.exact request walk refl (header_keeps request path refl))
