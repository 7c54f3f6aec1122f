-- No event takes from a packet the interface by which it departs.
use Rattle.std.proofs.Common.{IsOk, refl, sym, subst}
use Rattle.scion_topology.specs.Network.{Network}
use Rattle.scion_topology.proofs.Lasting.{still_there, same_interfaces}
use Rattle.path_verifier.specs.Walk.{walk_of}
use Rattle.forwarding.specs.Journey.{first_out}
use Rattle.network_core.specs.declared.reply.Reply.{Reply}
use Rattle.network_core.specs.Event.{EventValue}
use Rattle.network_core.specs.Value.{PacketValue, NetValue, new_net}
use Rattle.network_core.specs.Step.{Step}
use Rattle.network_core.specs.Delivery.{MayDepart, AllMayDepart}
use Rattle.network_core.proofs.EachPacket.{Outlasts, holds_on}

abbrev Any : Network → Type 0
Any n = Unit {0}

abbrev May : Network → PacketValue → Type 0
May n one = MayDepart n one.sent

lasting : Outlasts Any May
lasting = record {
  departed = λ n sent router sane owned. subst IsOk (sym owned) refl;
  turned = λ n now one stop sane at may. may;
  lost = λ n one may. may;
  altered = λ n one at change may. may;
  linked = λ n m up ia number one change may. subst IsOk (sym (still_there up ia number n m
      one.sent.way.source (first_out (walk_of one.sent.way.pieces)) change).owner) may;
  keyed = λ n m ia key one change may. subst IsOk (sym (same_interfaces ia key n m
      one.sent.way.source (first_out (walk_of one.sent.way.pieces)) change).owner) may;
}

pub none_yet : (network : Network) → AllMayDepart (new_net network)
none_yet network i one there = absurd cc

pub may_depart_then : (old new : NetValue) (event : EventValue) (reply : Reply)
    → Step old event reply new → AllMayDepart old → AllMayDepart new
may_depart_then old new event reply is held = holds_on Any May lasting old new tt held event reply is
