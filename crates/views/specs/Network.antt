-- The output of `scionet_view network`: the picture of the network after some lines.
use Rattle.std.specs.Prelude.{ℕ, if◌then◌else◌, List, [], Option, Some, None, option_map, slice_get, Result, Ok, Err}
use Rattle.std.specs.Option.{ok_or}
use Rattle.scion_topology.specs.declared.fault.TopologyFault.TheVariants.{UnknownAs}
use Rattle.scion_topology.specs.Network.{Network}
use Rattle.forwarding.specs.declared.location.PacketLocation.{PacketLocation}
use Rattle.forwarding.specs.declared.location.PacketLocation.TheVariants.{AtRouter, Refused}
use Rattle.policy_expr.specs.declared.hop.WalkHop.{WalkHop}
use Rattle.path_verifier.specs.Walk.{walk_of}
use Rattle.combinator.specs.Candidate.{PathValue}
use Rattle.network_core.specs.declared.fault.EventFault.{EventFault}
use Rattle.network_core.specs.declared.fault.EventFault.TheVariants.{NoPacket, NoAnswer, Topology}
use Rattle.network_core.specs.Value.{NetValue}
use Rattle.network_view.specs.declared.marks.Router.{Router}
use Rattle.network_view.specs.declared.extent.Extent.{Extent}
use Rattle.network_view.specs.Dot.{dot_of}
use Rattle.network_view.specs.Extent.{has_central}
use Rattle.refusal.specs.Optional.{◌>>=◌}
use Rattle.view_words.specs.declared.view.Subject.{Subject}
use Rattle.view_words.specs.declared.view.Subject.TheVariants.{Packet, Answer}

-- the path of this number in the answer of this number
abbrev pub path_at : (net : NetValue) (answer path : ℕ) → Option PathValue
path_at net answer path = do
  kept ← slice_get net.answers answer
  slice_get kept.answer.paths path

-- the router that has a packet, or that refused it
abbrev pub router_at : PacketLocation → Option Router
router_at (AtRouter stop) = Some (record { ia = stop.ia; number = stop.router })
router_at (Refused ia number cause) = Some (record { ia = ia; number = number })
router_at place = None

-- the hops whose links a picture marks, and the router that it marks: those of the packet or of the
-- path that is named, if one is; refused if there is no such packet or path
abbrev pub marks_in : NetValue → Option Subject → Result (List WalkHop × Option Router) EventFault
marks_in net None = Ok ([], None)
marks_in net (Some (Packet number)) = ok_or (option_map
    (λ packet. (packet.packet.passed, router_at packet.packet.place))
    (slice_get net.packets number)) NoPacket
marks_in net (Some (Answer answer path)) =
    ok_or (option_map (λ path. (walk_of path.pieces, None)) (path_at net answer path)) NoAnswer

-- the picture of a part of a network with these marks, if there are some
abbrev pub picture_with : Network → Extent → Result (List WalkHop × Option Router) EventFault
    → Result (List ℕ) EventFault
picture_with network extent (Ok marks) = Ok (dot_of network extent marks.0 marks.1)
picture_with network extent (Err fault) = Err fault

-- the picture of a part of a network, with the packet or the path marked that is named, if one is;
-- refused if the network has no AS around which the part is
abbrev pub picture_of : NetValue → Extent → Option Subject → Result (List ℕ) EventFault
picture_of net extent subject = if has_central extent.centre net.network.ases
    then picture_with net.network extent (marks_in net subject) else Err (Topology UnknownAs)
