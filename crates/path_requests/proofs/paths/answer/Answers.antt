use Rattle.path_requests.proofs.Moments.{ranges_answered}
use Rattle.path_requests.proofs.paths.answer.Goals as goal

pub answer-requires : goal.answer-requires
answer-requires c = ranges_answered _ _ _ _ _ _ _ c.in-Ok.ensures.found
