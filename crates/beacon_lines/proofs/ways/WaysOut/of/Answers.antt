use Rattle.std.proofs.Common.{ap, ◌∙◌}
use Rattle.std.specs.Prelude.{flat_map}
use Rattle.beacon_lines.specs.inner.Ways.{ways_over}
use Rattle.beacon_lines.proofs.Leaving.{are_ways}
use Rattle.beacon_lines.proofs.ways.WaysOut.of.Goals as goal

pub returns : goal.returns
returns c =
    are_ways c.args.topology.now c.args.class c.in_ok-ways.ways.items c.sort_unstable.new.self.items
    (c.in_ok-ways.ensures ∙ ap (flat_map (ways_over c.args.class)) c.links.ensures)
    c.sort_unstable.ensures.permutation c.sort_unstable.ensures.sorted
