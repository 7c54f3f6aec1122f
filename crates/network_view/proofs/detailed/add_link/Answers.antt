-- Part after part.
use Rattle.std.proofs.Common.{rules}
use Rattle.std.proofs.lemmas.List.{append_assoc}
use Rattle.network_view.specs.Detailed.{detailed_link}
use Rattle.network_view.proofs.detailed.add_link.Goals as goal

pub returns : goal.returns
unfolding detailed_link
returns c = search (rules, append_assoc)
