-- What is read is spelled, and what is spelled is read.
use Rattle.std.proofs.Common.{sym, ◌∙◌}
use Rattle.refusal.proofs.Steps.{if_ok}
use Rattle.isd_as.proofs.Spelled.{Spells-address_at, address_at-Spells}
use Rattle.isd_as.proofs.address.IsdAs.parse.Goals as goal

pub returns-clause-found : goal.returns-clause-found
returns-clause-found c = if_ok c.read_address.result _ (λ n is. Spells-address_at c.args.text.now n (sym c.read_address.ensures ∙ is))

pub returns-clause-only : goal.returns-clause-only
returns-clause-only c n spelled = c.read_address.ensures ∙ address_at-Spells c.args.text.now n spelled
