use Rattle.path_segment.proofs.Next.{next_is, last_is}
use Rattle.path_segment.proofs.laws.the_new_entry_alone_is_judged.Goals as goal

pub returns : goal.returns
returns c = record { next = next_is; last = last_is }
