use Rattle.event_lines.proofs.Ending.{cut_at, no_end}
use Rattle.event_lines.proofs.cutting.cut_line.Goals as goal

pub returns-in_err-place-clause-none : goal.returns-in_err-place-clause-none
returns-in_err-place-clause-none c = λ none. no_end c.args.bytes.now c.in_err-place.ensures

pub returns-clause-cut : goal.returns-clause-cut
returns-clause-cut c = cut_at c.args.bytes.now c.in_ok-place.place c.in_ok-place.ensures
