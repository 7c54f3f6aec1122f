-- The refusals of events, as lines of text report them.
use Rattle.std.specs.Prelude.{ℕ, List, codes}
use Rattle.scion_topology.specs.Fault as topology
use Rattle.beaconing.specs.Fault as beacon
use Rattle.path_server.specs.Fault as store
use Rattle.policy_expr.specs.Options as policy
use Rattle.path_verifier.specs.Fault as path
use Rattle.combinator.specs.Fault as combination
use Rattle.network_core.specs.declared.fault.EventFault.{EventFault}
use Rattle.network_core.specs.declared.fault.EventFault.TheVariants.{Beacon, Store, Policy, Combination, Path, Topology, NoPacket, NotInFlight, NoBeacon, NoAnswer, TimeBack, PayloadTooLong, BadOffset, BadLimit, TooMany, NotDelivered}

-- the number and the name of a refusal
abbrev pub code_and_name : EventFault → ℕ × List ℕ
code_and_name (Beacon fault) = beacon.code_and_name fault
code_and_name (Store fault) = store.code_and_name fault
code_and_name (Policy fault) = policy.code_and_name fault
code_and_name (Combination fault) = combination.code_and_name fault
code_and_name (Path fault) = path.code_and_name fault
code_and_name (Topology fault) = topology.code_and_name fault
code_and_name NoPacket = (130, codes "NoPacket")
code_and_name NotInFlight = (131, codes "NotInFlight")
code_and_name NoBeacon = (132, codes "NoBeacon")
code_and_name NoAnswer = (133, codes "NoAnswer")
code_and_name TimeBack = (134, codes "TimeBack")
code_and_name PayloadTooLong = (135, codes "PayloadTooLong")
code_and_name BadOffset = (136, codes "BadOffset")
code_and_name BadLimit = combination.bad_limit
code_and_name TooMany = (138, codes "TooMany")
code_and_name NotDelivered = (139, codes "NotDelivered")
