-- What the calls of beaconing return: a beacon or a segment, or the first refusal in the order
-- given here (draft-dekater-scion-controlplane, path construction).
use Rattle.std.specs.Prelude.{ℕ, ◌-◌, Bool, ◌==◌, not, nat_lt, [], ◌∷◌, length, slice_get, Option, Result, Ok}
use Rattle.std.specs.List.{list_any}
use Rattle.std.specs.Option.{ok_or}
use Rattle.scion_topology.specs.Network.{Network, as_named}
use Rattle.scion_topology.specs.Topology.{interface_at, far_end_in}
use Rattle.path_segment.specs.declared.entry.Entry.{Entry}
use Rattle.path_segment.specs.Chain.{Chain, chain_of, with_last}
use Rattle.beaconing.specs.declared.fault.BeaconFault.{BeaconFault}
use Rattle.beaconing.specs.declared.fault.BeaconFault.TheVariants.{TooLong, Loop, NotCore, NoInterface, LinkDown, WrongKind, NotHere}
use Rattle.refusal.specs.Refusal.{◌>>=◌, check, or_else}
use Rattle.beaconing.specs.Entry.{entry_by, added_by, kind_over, goes_on}

-- the beacon that a core AS begins over one of its links, with this second as its timestamp:
-- NotCore, NoInterface, LinkDown
unfoldable pub originated_beacon : Network → (ia egress now beta0 : ℕ) → Result Chain BeaconFault
originated_beacon n ia egress now beta0 = do
  one ← ok_or (as_named n.ases ia) NotCore
  _ ← check one.core NotCore
  out ← or_else NoInterface (interface_at n ia egress)
  _ ← check out.up LinkDown
  Ok (chain_of (kind_over out.kind) now beta0 (entry_by one now beta0 0 egress ∷ []))

-- the last entry of a beacon
abbrev pub last_of : Chain → Option Entry
last_of beacon = slice_get beacon.entries (length beacon.entries - 1)

-- the interface by which the beacon arrives in this AS from the AS of its last entry: NotHere,
-- LinkDown
unfoldable pub come_to : Network → Chain → ℕ → Result ℕ BeaconFault
come_to n beacon ia = do
  last ← ok_or (last_of beacon) NotHere
  end ← or_else NotHere (far_end_in n last.ia last.cons_egress)
  _ ← check (end.0 == ia) NotHere
  into ← or_else NotHere (interface_at n ia end.1)
  _ ← check into.up LinkDown
  Ok end.1

-- whether the beacon has no entry of this AS
unfoldable pub is_new : Chain → ℕ → Bool
is_new beacon ia = not (list_any (λ entry. entry.ia == ia) beacon.entries)

-- the beacon after an AS has passed it on over one of its links: NotHere, LinkDown for the way in,
-- Loop, TooLong, NoInterface, WrongKind, LinkDown for the way out
unfoldable pub extended_beacon : Network → Chain → (ia egress : ℕ) → Result Chain BeaconFault
extended_beacon n beacon ia egress = do
  one ← ok_or (as_named n.ases ia) NotHere
  ingress ← come_to n beacon ia
  _ ← check (is_new beacon one.ia) Loop
  _ ← check (nat_lt (length beacon.entries) 62) TooLong
  out ← or_else NoInterface (interface_at n ia egress)
  _ ← check (goes_on beacon.kind out.kind) WrongKind
  _ ← check out.up LinkDown
  Ok (with_last beacon (added_by one beacon ingress egress))

-- the segment that a beacon becomes if it ends in this AS: NotHere, LinkDown, Loop
unfoldable pub terminated_beacon : Network → Chain → ℕ → Result Chain BeaconFault
terminated_beacon n beacon ia = do
  one ← ok_or (as_named n.ases ia) NotHere
  ingress ← come_to n beacon ia
  _ ← check (is_new beacon one.ia) Loop
  Ok (with_last beacon (added_by one beacon ingress 0))
