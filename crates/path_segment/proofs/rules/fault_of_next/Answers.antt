use Rattle.std.proofs.Common.{◌∙◌}
use Rattle.path_segment.proofs.Next.{next_is}
use Rattle.path_segment.proofs.rules.fault_of_next.Goals as goal

pub returns-clause-whole : goal.returns-clause-whole
returns-clause-whole c = c.fault_at_next.ensures ∙ next_is c.args.entries.now c.args.entry.now c.requires
