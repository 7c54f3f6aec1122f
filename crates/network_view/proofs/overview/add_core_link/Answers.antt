-- Part after part.
use Rattle.std.proofs.Common.{rules}
use Rattle.std.proofs.lemmas.List.{append_assoc}
use Rattle.network_view.specs.Overview.{core_link}
use Rattle.network_view.proofs.overview.add_core_link.Goals as goal

pub returns : goal.returns
unfolding core_link
returns c = search (rules, append_assoc)
