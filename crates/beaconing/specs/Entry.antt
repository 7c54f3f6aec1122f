-- The entry that an AS adds to a beacon (draft-dekater-scion-controlplane, path construction).
use Rattle.std.specs.Prelude.{ℕ, Bool, true, false, List, [], length}
use Rattle.std.specs.Option.{option_map_or}
use Rattle.hop_mac.specs.Hop.{authenticator}
use Rattle.scion_topology.specs.declared.entry.LinkKind.{LinkKind}
use Rattle.scion_topology.specs.declared.entry.LinkKind.TheVariants as links
use Rattle.scion_topology.specs.declared.network.AsEntry.{AsEntry}
use Rattle.scion_topology.specs.Keys.{key_in_use}
use Rattle.scion_topology.specs.Network.{Network, as_named}
use Rattle.path_segment.specs.declared.entry.Entry.{Entry}
use Rattle.path_segment.specs.declared.kind.SegKind.{SegKind}
use Rattle.path_segment.specs.Chain.{Chain, beta_of}
use Rattle.path_segment.specs.declared.kind.SegKind.TheVariants.{Core, Intra}

-- the key in use of the AS of this address, or no bytes if the network has no such AS
abbrev pub key_in : Network → ℕ → List ℕ
key_in n ia = option_map_or (λ one. key_in_use one.keys) (as_named n.ases ia) []

-- the entry of an AS between two of its interfaces, with its authenticator under the AS's key and
-- this accumulator
abbrev pub entry_by : (one : AsEntry) (timestamp beta ingress egress : ℕ) → Entry
entry_by one timestamp beta ingress egress =
    record {
      ia = one.ia;
      cons_ingress = ingress;
      cons_egress = egress;
      exp_time = one.exp_time;
      mac = authenticator (key_in_use one.keys) beta timestamp one.exp_time ingress egress;
    }

-- the entry that an AS adds to a beacon, under the accumulator after all earlier entries
abbrev pub added_by : (one : AsEntry) (beacon : Chain) (ingress egress : ℕ) → Entry
added_by one beacon ingress egress =
    entry_by one beacon.timestamp (beta_of beacon (length beacon.entries)) ingress egress

-- the kind of a beacon that begins over a link of this kind
abbrev pub kind_over : LinkKind → SegKind
kind_over links.Core = Core
kind_over link = Intra

-- whether a beacon may be sent on over such a link: a core beacon to a core AS, an intra beacon to
-- a child
abbrev pub goes_on : SegKind → LinkKind → Bool
goes_on Core links.Core = true
goes_on Intra links.Child = true
goes_on kind link = false
