use Rattle.std.proofs.Common.{List, sym, ap, ◌∙◌}
use Rattle.std.proofs.lemmas.Result.{IfOk-at_ok}
use Rattle.path_verifier.specs.Piece.{PieceValue}
use Rattle.path_verifier.specs.Header.{header_of}
use Rattle.path_verifier.specs.Accepted.{Request}
use Rattle.path_verifier.proofs.Breaches.{header_kept}
use Rattle.combinator.specs.Candidate.{question_of, path_with}
use Rattle.combinator.proofs.Asked.{candidate_is_accepted}
use Rattle.combinator.proofs.request.PathRequest.verified.Goals as goal

pub unwrap-requires : goal.unwrap-requires
unwrap-requires g c =
    c.accept.ensures.only (candidate_is_accepted c.args.self.now
    (question_of c.self.inside.set.now c.self.inside.src c.self.inside.dst c.self.inside.policy.now)
    c.args.found.now c.pieces-pieces.result c.now.result c.pieces-pieces.ensures c.self.view_is c.now.ensures c.requires)

pub returns : goal.returns
returns g c =
    let found = IfOk-at_ok _ c.unwrap.ensures c.accept.ensures.found in
    ap (λ (request : Request). path_with request.pieces request.header) found.0
    ∙ ap (λ (pieces : List PieceValue). path_with pieces (header_of pieces)) c.pieces-pieces.ensures
    ∙ ap (path_with c.args.found.now.pieces) (sym (header_kept c.requires.accepted))
