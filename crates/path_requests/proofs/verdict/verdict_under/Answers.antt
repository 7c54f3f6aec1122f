use Rattle.std.proofs.Common.{◌∙◌, refl, sym}
use Rattle.path_requests.proofs.Judging.{answered}
use Rattle.path_requests.proofs.verdict.verdict_under.Goals as goal

pub returns : goal.returns
returns c =
    answered c.args.policy.now c.args.request.now c.args.list.now c.in-Ok-join.pieces c.args.bytes.now c.in-Ok.header _ c.path_verdict.result
    (sym c.decode.ensures.exact ∙ c.in-Ok.is)
    (c.in-Ok-join.ensures.few refl) c.in-Ok-join.ensures.value c.path_verdict.ensures
