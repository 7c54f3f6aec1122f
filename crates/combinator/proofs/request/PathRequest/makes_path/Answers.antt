use Rattle.std.proofs.Common.{◌≡◌, true, false}
use Rattle.combinator.specs.Candidate.{question_of}
use Rattle.combinator.proofs.Asked.{refused_is_no_path, path_seen}
use Rattle.combinator.proofs.request.PathRequest.makes_path.Goals as goal

pub returns-in-Err-clause-path : goal.returns-in-Err-clause-path
returns-in-Err-clause-path g c = (
  λ never. (let clash : false ≡ true = never in cc),
  λ path. absurd (refused_is_no_path c.pieces.result c.self.inside.src c.self.inside.dst c.now.result c.in-Err.field-0 c.in-Err.ensures.fault
      (path_seen c.args.self.now (question_of c.self.inside.set.now c.self.inside.src c.self.inside.dst c.self.inside.policy.now)
      c.args.found.now.pieces c.pieces.result c.now.result c.pieces.ensures c.self.view_is c.now.ensures path)),
)
