use Rattle.std.proofs.Common.{◌∙◌}
use Rattle.path_segment.proofs.Next.{last_is}
use Rattle.path_segment.proofs.rules.fault_of_last.Goals as goal

pub returns-clause-whole : goal.returns-clause-whole
returns-clause-whole c = c.fault_at_last.ensures ∙ last_is c.args.entries.now c.args.entry.now c.requires
