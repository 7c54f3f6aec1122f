use Rattle.path_segment.proofs.Plain.{beacon_in_words}
use Rattle.path_segment.proofs.beacon.Beacon.entries.Goals as goal

pub returns-clause-rules : goal.returns-clause-rules
returns-clause-rules c = rw (← c.self.view_is) ((beacon_in_words c.self.inside.entries.items).0 c.self.invariant)
