-- A whole packet in a history of a network, in the place of one of its packets.
use Rattle.std.specs.Prelude.{◌==◌, ℕ, if◌then◌else◌, List, [], ◌∷◌}
use Rattle.forwarding.specs.Turn.{Packet}
use Rattle.network_core.specs.Event.{EventValue, Turn}
use Rattle.network_core.specs.Value.{NetValue}
use Rattle.network_core.specs.History.{EventRecord}
use Rattle.whole_packets.specs.Turn.{whole_turn_of}

-- the whole packet in the place of packet `p` after an event: each Turn of that packet is its own
abbrev pub after_event : (p : ℕ) → NetValue → EventValue → Packet → Packet
after_event p net (Turn other) packet =
    if other == p then (whole_turn_of net.network net.moment packet).1 else packet
after_event p net event packet = packet

-- and after all of these events
abbrev pub after_history : (p : ℕ) → (start : NetValue) → List EventRecord → Packet → Packet
after_history p start [] packet = packet
after_history p start (one ∷ later) packet =
    after_history p one.net later (after_event p start one.event packet)
