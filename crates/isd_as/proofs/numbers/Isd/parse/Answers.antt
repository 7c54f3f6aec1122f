-- What is read is spelled, and what is spelled is read.
use Rattle.std.proofs.Common.{sym, ◌∙◌}
use Rattle.refusal.proofs.Steps.{if_ok}
use Rattle.isd_as.proofs.Spelled.{SpellsIsd-isd_at, isd_at-SpellsIsd}
use Rattle.isd_as.proofs.numbers.Isd.parse.Goals as goal

pub returns-clause-found : goal.returns-clause-found
returns-clause-found c = if_ok c.read_isd.result _ (λ n is. SpellsIsd-isd_at c.args.text.now n (sym c.read_isd.ensures ∙ is))

pub returns-clause-only : goal.returns-clause-only
returns-clause-only c n spelled = c.read_isd.ensures ∙ isd_at-SpellsIsd c.args.text.now n spelled
