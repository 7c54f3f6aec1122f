use Rattle.std.proofs.lemmas.Bool.Decides.{same_from_decides}
use Rattle.path_segment.proofs.Decided.{is_same-Decides}
use Rattle.path_segment.proofs.segment.Segment.is_same.Goals as goal

pub returns-clause-test : goal.returns-clause-test
returns-clause-test c = same_from_decides _ _ c.has_parts_of.ensures (is_same-Decides c.args.self.now c.args.other.now)
