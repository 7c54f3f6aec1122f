use Rattle.std.proofs.Common.{None, ◌∙◌, subst}
use Rattle.std.proofs.lemmas.Result.{err_from_is_err_and}
use Rattle.policy_expr.specs.Policy.{Rules}
use Rattle.path_verifier.specs.Header.{header_of}
use Rattle.path_verifier.specs.PieceSlots.{pieces_in}
use Rattle.path_verifier.specs.Accepted.{NamesOnce, request_of}
use Rattle.path_verifier.proofs.Breaches.{path_of_shape}
use Rattle.path_verifier.proofs.verification.follow_pieces.Goals as goal

pub returns-in_err-check_shape-clause-fault : goal.returns-in_err-check_shape-clause-fault
returns-in_err-check_shape-clause-fault c =
    let p = err_from_is_err_and c.from_residual.result c.from_residual.ensures.1 in
    rw (p.1, p.2) (λ header rules. c.in_err-check_shape.ensures.fault header c.args.now rules)

pub returns-clause-path : goal.returns-clause-path
returns-clause-path c =
    let pieces = pieces_in c.args.held.now in
    let rules : Rules = record { acl = None; sequence = None } in
    let request = request_of pieces (header_of pieces) c.args.src c.args.dst c.args.now rules in
    let once = subst NamesOnce (c.as_slice.ensures.value ∙ c.follow.ensures)
    (c.names_once.ensures.0 c.if-not-names_once.false) in
    path_of_shape request (c.in_ok-check_shape.ensures.kept (header_of pieces) c.args.now rules) once
    (c.are_live.ensures.0 c.if-not-are_live.false)
