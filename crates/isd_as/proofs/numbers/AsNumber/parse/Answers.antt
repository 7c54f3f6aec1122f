-- What is read is spelled, and what is spelled is read.
use Rattle.std.proofs.Common.{sym, ◌∙◌}
use Rattle.refusal.proofs.Steps.{if_ok}
use Rattle.isd_as.proofs.Spelled.{SpellsAs-as_number_at, as_number_at-SpellsAs}
use Rattle.isd_as.proofs.numbers.AsNumber.parse.Goals as goal

pub returns-clause-found : goal.returns-clause-found
returns-clause-found c = if_ok c.read_as_number.result _ (λ n is. SpellsAs-as_number_at c.args.text.now n (sym c.read_as_number.ensures ∙ is))

pub returns-clause-only : goal.returns-clause-only
returns-clause-only c n spelled = c.read_as_number.ensures ∙ as_number_at-SpellsAs c.args.text.now n spelled
