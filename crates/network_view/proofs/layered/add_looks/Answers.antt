-- Part after part.
use Rattle.std.proofs.Common.{rules}
use Rattle.std.proofs.lemmas.List.{append_assoc}
use Rattle.network_view.specs.Layered.{looks_text}
use Rattle.network_view.proofs.layered.add_looks.Goals as goal

pub returns : goal.returns
unfolding looks_text
returns c = search (rules, append_assoc)
