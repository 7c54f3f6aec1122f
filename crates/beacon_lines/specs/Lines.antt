-- The lines of a beaconing.
use Rattle.std.specs.Prelude.{◌≡◌, ℕ, ◌<◌, ◌==◌, ◌||◌, true, if◌then◌else◌, codes, List, [], ◌∷◌, ◌++◌, map, flat_map, Ok}
use Rattle.std.specs.Fmt.{decimal}
use Rattle.isd_as.specs.Address.{canonical}
use Rattle.scion_topology.specs.Network.{Network}
use Rattle.scion_topology.specs.Topology.{network_in}
use Rattle.network_core.specs.Event.{EventValue, Tick, Originate, Extend, Terminate}
use Rattle.network_core.specs.Value.{NetValue}
use Rattle.network_core.specs.Step.{has_room}
use Rattle.network_core.specs.Ran.{IsRun}
use Rattle.beacon_lines.specs.declared.options.BeaconingOptions.{BeaconingOptions}
use Rattle.beacon_lines.specs.Beaconing.{IsBeaconing}
use Rattle.beacon_lines.specs.Reach.{IsComplete, KeepsOptions}

-- the byte as it stands in one line: a line feed or a carriage return, which JSON has only between
-- its tokens, is a space
abbrev pub byte_in_line : ℕ → ℕ
byte_in_line byte = if (byte == 10) || (byte == 13) then 32 else byte

-- the bytes as one line
abbrev pub one_line : List ℕ → List ℕ
one_line bytes = map byte_in_line bytes

-- the line of an event, with its end
unfoldable pub event_line : EventValue → List ℕ
event_line (Tick to) = codes "{\"do\":\"tick\",\"now\":" ++ (decimal to ++ codes "}\n")
event_line (Originate ia egress beta) =
    codes "{\"do\":\"originate\",\"ia\":\"" ++ (canonical ia
    ++ (codes "\",\"egress\":" ++ (decimal egress
    ++ (codes ",\"beta0\":" ++ (decimal beta ++ codes "}\n")))))
event_line (Extend beacon ia egress) =
    codes "{\"do\":\"extend\",\"beacon\":" ++ (decimal beacon
    ++ (codes ",\"ia\":\"" ++ (canonical ia
    ++ (codes "\",\"egress\":" ++ (decimal egress ++ codes "}\n")))))
event_line (Terminate beacon ia) =
    codes "{\"do\":\"terminate\",\"beacon\":" ++ (decimal beacon
    ++ (codes ",\"ia\":\"" ++ (canonical ia ++ codes "\"}\n")))
event_line event = []

-- the text is the line of a topology and the lines of a beaconing of its network, whose beacons are
-- all begun at the second of the options. It keeps the options; and it is complete, unless no
-- segments are wanted or the network has as many beacons as it can hold
pub record AreBeaconLines (options : BeaconingOptions) (line text : List ℕ) : Type 0 where
  pub network : Network
  pub topology : network_in line ≡ Ok network
  pub events : List EventValue
  pub net : NetValue
  pub beaconing : IsBeaconing network options.now events net
  pub run : IsRun network beaconing.history
  pub kept : KeepsOptions options net.segments
  pub complete : 0 < options.per_pair → has_room net.beacons ≡ true
      → IsComplete options network net.segments
  pub says : text ≡ line ++ (codes "\n" ++ flat_map event_line (Tick options.now ∷ events))
