-- The first line begins a network, whichever lines are accepted after it.
use Rattle.std.proofs.Common.{rules}
use Rattle.event_lines.proofs.line_run.LineRun.answer.Goals as goal

pub returns-in_ok-begun-in-None-clause-replied : goal.returns-in_ok-begun-in-None-clause-replied
returns-in_ok-begun-in-None-clause-replied c =
    search (rules, c.in-None.is, c.in_ok-begun-in-None.ensures.begun c.args.accepted)

pub returns-in_err-begun-in-None-clause-replied : goal.returns-in_err-begun-in-None-clause-replied
returns-in_err-begun-in-None-clause-replied c =
    search (rules, c.in-None.is, c.in_err-begun-in-None.ensures.begun c.args.accepted)
