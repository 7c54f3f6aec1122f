use Rattle.std.proofs.Common.{rules, inr}
use Rattle.network_core.proofs.net.Net.router_at_start.Goals as goal

pub returns-then-len-ge-MAX_OBJECTS : goal.returns-then-len-ge-MAX_OBJECTS
returns-then-len-ge-MAX_OBJECTS c = inr (search rules, λ payload. search rules)
