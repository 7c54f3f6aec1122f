-- The two sides of each check of a router, as text.
use Rattle.std.specs.Prelude.{ℕ, ◌+◌, codes, Bool, true, false, List, [], ◌++◌, length, slice_get, Option, Some, None}
use Rattle.std.specs.Fmt.{decimal}
use Rattle.hex.specs.Hex.{encode_lower}
use Rattle.isd_as.specs.Address.{canonical}
use Rattle.hop_mac.specs.Hop.{authenticator}
use Rattle.scion_topology.specs.declared.entry.IfEntry.{IfEntry}
use Rattle.scion_topology.specs.declared.entry.LinkKind.{LinkKind}
use Rattle.scion_topology.specs.declared.entry.LinkKind.TheVariants.{Core, Parent, Child}
use Rattle.scion_topology.specs.Keys.{key_in_use}
use Rattle.scion_topology.specs.View.{View, entry_of}
use Rattle.path_header.specs.declared.fields.InfoField.{InfoField}
use Rattle.path_header.specs.declared.fields.HopField.{HopField}
use Rattle.path_header.specs.Value.{HeaderValue, segment_at}
use Rattle.router_step.specs.declared.arrival.Arrival.{Arrival}
use Rattle.router_step.specs.declared.arrival.Arrival.TheVariants.{FromHost, Inside, Link}
use Rattle.router_step.specs.Place.{way_in, way_out}
use Rattle.packet_view.specs.Fields.{last_live, indices_text, lens_text}

-- ---- words

-- how the packet came
unfoldable pub arrival_text : Arrival → List ℕ
arrival_text FromHost = codes "a host"
arrival_text Inside = codes "inside the AS"
arrival_text (Link interface) = codes "interface " ++ decimal interface

-- the kind of a link: what the AS at its far end is
unfoldable pub link_kind_text : LinkKind → List ℕ
link_kind_text Core = codes "core"
link_kind_text Parent = codes "parent"
link_kind_text Child = codes "child"

-- the router that owns an interface, if the AS has the interface
unfoldable pub owner_text : Option IfEntry → List ℕ
owner_text None = codes "no router"
owner_text (Some entry) = codes "router " ++ decimal entry.router

-- the kind of the link by which the packet came
unfoldable pub origin_text : View → Arrival → List ℕ
origin_text view FromHost = codes "a host"
origin_text view Inside = codes "inside the AS"
origin_text view (Link interface) = far_text (entry_of view interface) where
  far_text : Option IfEntry → List ℕ
  far_text None = codes "no link"
  far_text (Some entry) = link_kind_text entry.kind

-- ---- sides

-- check 1: the length of the packet
unfoldable pub header_sides : List ℕ → List ℕ
header_sides packet = codes "1 header: a packet of " ++ (decimal (length packet) ++ codes " bytes")

-- the place of the packet, and the segment of its current hop field
unfoldable pub position_text : HeaderValue → List ℕ
position_text header =
    indices_text header ++ (codes " of segment " ++ decimal (segment_at header.lens header.curr_hf))

-- check 2: the packet's place, the segment of its hop field, the segment lengths, and how it came
unfoldable pub indices_sides : Arrival → HeaderValue → List ℕ
indices_sides arrival header =
    codes "2 indices: " ++ (position_text header ++ (codes "; " ++ (lens_text header.lens
    ++ (codes "; from " ++ arrival_text arrival))))

-- check 3: how the packet came, and the hop's way in
unfoldable pub way_in_sides : View → Arrival → InfoField → HopField → List ℕ
way_in_sides view arrival info hop =
    codes "3 way in: from " ++ (arrival_text arrival ++ (codes "; the way in is interface "
    ++ (decimal (way_in info hop) ++ (codes " of " ++ (owner_text (entry_of view (way_in info hop))
    ++ (codes ", this is router " ++ decimal view.router))))))

-- check 4, also in 9: the last second at which the hop is live, and the current second
unfoldable pub live_sides : (number now : ℕ) (info : InfoField) (hop : HopField) → List ℕ
live_sides number now info hop =
    decimal number ++ (codes " live: expires at " ++ (decimal (last_live info.timestamp hop)
    ++ (codes ", now " ++ decimal now)))

-- the hop's authenticator under a key and the info field's accumulator
unfoldable pub mac_under : InfoField → HopField → List ℕ → List ℕ
mac_under info hop key =
    authenticator key info.seg_id info.timestamp hop.exp_time hop.cons_ingress hop.cons_egress

-- the authenticator under the key before, if there is one
unfoldable pub before_text : InfoField → HopField → Option (List ℕ) → List ℕ
before_text info hop None = []
before_text info hop (Some key) =
    codes ", under the one before: " ++ encode_lower (mac_under info hop key)

-- the right authenticators, under all accepted keys
unfoldable pub right_text : View → InfoField → HopField → List ℕ
right_text view info hop =
    codes "right under the key in use: "
    ++ (encode_lower (mac_under info hop (key_in_use view.keys))
    ++ before_text info hop (slice_get view.keys 1))

-- check 5, also in 9: the packet's authenticator, and the right ones
unfoldable pub mac_sides : ℕ → View → InfoField → HopField → List ℕ
mac_sides number view info hop =
    decimal number ++ (codes " authenticator: packet " ++ (encode_lower hop.mac
    ++ (codes ", " ++ right_text view info hop)))

-- check 6: the source, how the packet came, and this AS
unfoldable pub source_sides : View → Arrival → ℕ → List ℕ
source_sides view arrival source =
    codes "6 source: " ++ (canonical source ++ (codes " from " ++ (arrival_text arrival
    ++ (codes "; this is " ++ canonical view.ia))))

-- check 7: the destination, this AS, and whether the path ends here
unfoldable pub destination_sides : View → ℕ → HeaderValue → List ℕ
destination_sides view destination header =
    codes "7 destination: " ++ (canonical destination ++ (codes "; this is " ++ (canonical view.ia
    ++ (codes ", at hop " ++ (decimal (header.curr_hf + 1) ++ (codes " of "
    ++ decimal (length header.hops)))))))

-- check 9: the segment of the packet, that of its next hop, and how the packet came
unfoldable pub switch_sides : Arrival → HeaderValue → List ℕ
switch_sides arrival header =
    codes "9 switch: from segment " ++ (decimal header.curr_inf ++ (codes " to "
    ++ (decimal (segment_at header.lens (header.curr_hf + 1)) ++ (codes "; from "
    ++ arrival_text arrival))))

-- check 10: the way out, and the router that owns it
unfoldable pub way_out_sides : View → InfoField → HopField → List ℕ
way_out_sides view info hop =
    codes "10 way out: interface " ++ (decimal (way_out info hop) ++ (codes " of "
    ++ owner_text (entry_of view (way_out info hop))))

-- check 11: the kinds of the links in and out, and whether there is a switch between them
unfoldable pub kinds_sides : View → Arrival → Bool → LinkKind → List ℕ
kinds_sides view arrival true out =
    codes "11 link kinds: from " ++ (origin_text view arrival ++ (codes " to "
    ++ (link_kind_text out ++ codes ", with a switch")))
kinds_sides view arrival false out =
    codes "11 link kinds: from " ++ (origin_text view arrival ++ (codes " to "
    ++ link_kind_text out))

-- check 12: the router that owns the way out, and this one
unfoldable pub owner_sides : View → IfEntry → List ℕ
owner_sides view out =
    codes "12 owner: router " ++ (decimal out.router ++ (codes ", this is router "
    ++ decimal view.router))

-- check 13: the state of the link
unfoldable pub link_sides : Bool → List ℕ
link_sides true = codes "13 link: up"
link_sides false = codes "13 link: down"
