-- No link ends in an AS that is not listed.
use Rattle.std.proofs.Common.{◌∙◌, ap}
use Rattle.std.specs.Result.{result_ok}
use Rattle.scion_topology.proofs.Ends.{place_found}
use Rattle.scion_topology.proofs.topology.Topology.link_place.Goals as goal

pub returns : goal.returns
returns c =
    c.ok.ensures.value ∙ ap result_ok c.place.ensures.value
    ∙ place_found c.args.self.now c.known.ensures c.args.ia c.args.number
