use Rattle.router_step.proofs.Frames.{frame_stepped}
use Rattle.router_step.proofs.laws.frames_are_stepped.Goals as goal

pub returns : goal.returns
returns c = frame_stepped
