use Rattle.std.proofs.lemmas.Bool.Decides.{same_from_decides}
use Rattle.path_segment.proofs.Decided.{is_live-Decides}
use Rattle.path_segment.proofs.segment.Segment.is_live.Goals as goal

pub returns-clause-test : goal.returns-clause-test
returns-clause-test c = same_from_decides _ _ c.is_each_hop_live.ensures (is_live-Decides c.args.now c.args.self.now)
