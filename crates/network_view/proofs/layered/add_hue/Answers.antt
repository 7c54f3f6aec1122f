-- The number of the colour is written.
use Rattle.std.proofs.Common.{rules, sym}
use Rattle.network_view.specs.Layered.{hue_text}
use Rattle.network_view.proofs.layered.add_hue.Goals as goal

pub returns : goal.returns
unfolding hue_text
returns c = rw (sym c.hue_of-hue.ensures) (search rules)
