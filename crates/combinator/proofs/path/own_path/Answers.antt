use Rattle.std.proofs.Common.{List, sym, subst}
use Rattle.path_header.specs.Value.{HeaderValue}
use Rattle.path_verifier.specs.Piece.{PieceValue}
use Rattle.combinator.specs.Candidate.{MaySend, path_with}
use Rattle.combinator.proofs.path.own_path.Goals as goal

pub new-requires-clause-sent : goal.new-requires-clause-sent
new-requires-clause-sent g c =
    let request = c.args.path.now in
    let whole : MaySend (path_with request.pieces request.header) = record {
      src = request.src;
      dst = request.dst;
      moment = request.moment;
      rules = request.rules;
      accepted = c.known.ensures;
    } in
    subst (λ (pieces : List PieceValue). MaySend (path_with pieces c.header.result.now)) (sym c.pieces.ensures)
    (subst (λ (header : HeaderValue). MaySend (path_with request.pieces header)) (sym c.header.ensures) whole)
