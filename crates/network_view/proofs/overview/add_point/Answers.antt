-- Its name, and its look.
use Rattle.std.proofs.Common.{rules}
use Rattle.std.proofs.lemmas.List.{append_assoc}
use Rattle.network_view.specs.Overview.{point_text}
use Rattle.network_view.proofs.overview.add_point.Goals as goal

pub returns : goal.returns
unfolding point_text
returns c = search (rules, append_assoc)
