use Rattle.std.specs.Arc.{arc_value}
use Rattle.path_segment.proofs.Plain.{segment_in_words}
use Rattle.path_segment.proofs.segment.Segment.entries.Goals as goal

pub returns-clause-rules : goal.returns-clause-rules
returns-clause-rules c = rw (← c.self.view_is) ((segment_in_words (arc_value c.self.inside.parts).entries.items).0 c.self.invariant)
