-- The routers below this one are added.
use Rattle.std.proofs.Common.{◌≡◌, ◌++◌}
use Rattle.std.specs.String.{string_bytes}
use Rattle.network_view.specs.Detailed.{routers_text}
use Rattle.network_view.proofs.detailed.add_routers.Given as goal

abbrev pub invariant-loop-router : goal.invariant-loop-router
invariant-loop-router l = string_bytes l.text ≡ string_bytes l.initial.text ++ routers_text l.at l.ia l.router
