-- An AS is listed where one of its address is found.
use Rattle.std.proofs.Common.{◌∙◌, ap}
use Rattle.std.specs.Prelude.{is_some}
use Rattle.scion_topology.proofs.Indexes.{is_some-map, listed_is}
use Rattle.scion_topology.proofs.as_lookup.AsLookup.has.Goals as goal

pub returns : goal.returns
returns c = c.is_some.ensures ∙ is_some-map (λ one. one.now) c.get.result ∙ ap is_some c.get.ensures ∙ listed_is c.args.self.now c.args.ia
