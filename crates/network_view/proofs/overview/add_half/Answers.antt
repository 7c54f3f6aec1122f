-- Part after part.
use Rattle.std.proofs.Common.{rules}
use Rattle.std.proofs.lemmas.List.{append_assoc}
use Rattle.network_view.specs.Overview.{half_text}
use Rattle.network_view.proofs.overview.add_half.Goals as goal

pub returns : goal.returns
unfolding half_text
returns c = search (rules, append_assoc)
