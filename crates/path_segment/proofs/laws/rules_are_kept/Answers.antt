use Rattle.path_segment.proofs.Plain.{beacon_in_words, segment_in_words}
use Rattle.path_segment.proofs.laws.rules_are_kept.Goals as goal

pub returns : goal.returns
returns c = record { beacon = beacon_in_words; segment = segment_in_words }
