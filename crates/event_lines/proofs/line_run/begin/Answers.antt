-- The network of the topology that was read.
use Rattle.std.proofs.Common.{rules}
use Rattle.event_lines.proofs.line_run.begin.Goals as goal

pub returns-in_ok-push_str-in-Ok-clause-begun : goal.returns-in_ok-push_str-in-Ok-clause-begun
returns-in_ok-push_str-in-Ok-clause-begun c accepted = search rules
