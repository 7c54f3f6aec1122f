-- The last line is the rest, unless a run that has begun has none.
use Rattle.std.proofs.Common.{rules, ap, ◌==◌, ◌∙◌, sym}
use Rattle.event_lines.specs.Replies.{stage_behind}
use Rattle.line_faults.proofs.Front.{last_begun, last_empty, last_unbegun}
use Rattle.line_faults.proofs.telling.Telling.is_done.Goals as goal

pub returns-in-Some-clause-done : goal.returns-in-Some-clause-done
returns-in-Some-clause-done c is =
    last_empty (stage_behind c.args.self.now.run) c.in-Some.field-0.now c.args.self.now.rest.items
    (search (rules, c.net.ensures, c.in-Some.is)) (sym (ap (λ n. n == 0) c.args.self.now.rest.ok.0) ∙ sym c.is_empty.ensures ∙ is)

pub returns-in-Some-clause-more : goal.returns-in-Some-clause-more
returns-in-Some-clause-more c is =
    last_begun (stage_behind c.args.self.now.run) c.in-Some.field-0.now c.args.self.now.rest.items
    (search (rules, c.net.ensures, c.in-Some.is)) (sym (ap (λ n. n == 0) c.args.self.now.rest.ok.0) ∙ sym c.is_empty.ensures ∙ is)

pub returns-in-None-clause-more : goal.returns-in-None-clause-more
returns-in-None-clause-more c is =
    last_unbegun (stage_behind c.args.self.now.run) c.args.self.now.rest.items (search (rules, c.net.ensures, c.in-None.is))
