-- The checks of a router (draft-dekater-scion-dataplane); the numbers are those of the steps.
use Rattle.std.specs.Prelude.{ℕ, ◌+◌, Bool, true, false, not, ◌&&◌, ◌==◌, length}
use Rattle.std.specs.Option.{option_map_or}
use Rattle.std.specs.Bool.{beq}
use Rattle.hop_mac.specs.Lifetime.{is_live_at}
use Rattle.scion_topology.specs.declared.entry.LinkKind.{LinkKind}
use Rattle.scion_topology.specs.declared.entry.LinkKind.TheVariants.{Core, Parent, Child}
use Rattle.scion_topology.specs.View.{View, entry_of, is_authentic}
use Rattle.path_header.specs.declared.lens.SegLens.{SegLens}
use Rattle.path_header.specs.declared.fields.InfoField.{InfoField}
use Rattle.path_header.specs.declared.fields.HopField.{HopField}
use Rattle.path_header.specs.Value.{HeaderValue, segment_at}
use Rattle.router_step.specs.declared.arrival.Arrival.{Arrival}
use Rattle.router_step.specs.declared.arrival.Arrival.TheVariants.{FromHost, Inside, Link}
use Rattle.router_step.specs.Place.{way_in}

-- no segment has a single hop field
abbrev pub has_no_single : SegLens → Bool
has_no_single lens = not (lens.first == 1) && (not (lens.second == 1) && not (lens.third == 1))

-- a packet that comes from a host is at the first hop field
abbrev pub is_start_right : Arrival → ℕ → Bool
is_start_right FromHost hop = hop == 0
is_start_right arrival hop = true

-- step 2: the current hop field belongs to the current info field's segment, no segment has a
-- single hop field, and a packet from a host is at the first hop field
abbrev pub indices_fit : Arrival → HeaderValue → Bool
indices_fit arrival header = (header.curr_inf == segment_at header.lens header.curr_hf)
    && (has_no_single header.lens && is_start_right arrival header.curr_hf)

-- this router owns the interface
abbrev pub is_owned : View → ℕ → Bool
is_owned view interface =
    option_map_or (λ entry. entry.router == view.router) (entry_of view interface) false

-- step 3: a packet that came over a link came by an interface of this router, and that is the hop's
-- way in
abbrev pub way_in_fits : View → Arrival → InfoField → HopField → Bool
way_in_fits view (Link number) info hop = is_owned view number && (number == way_in info hop)
way_in_fits view arrival info hop = true

-- step 4: the hop is live
abbrev pub is_hop_live : ℕ → InfoField → HopField → Bool
is_hop_live now info hop = is_live_at info.timestamp hop.exp_time now

-- step 5: the hop's authenticator is right under the info field's accumulator and an accepted key
abbrev pub is_mac_right : View → InfoField → HopField → Bool
is_mac_right view info hop = is_authentic view hop.mac info.seg_id info.timestamp hop.exp_time
    hop.cons_ingress hop.cons_egress

-- step 6: a packet from a host has this AS as its source, and one that came over a link has another
abbrev pub source_fits : View → Arrival → ℕ → Bool
source_fits view FromHost source = source == view.ia
source_fits view Inside source = true
source_fits view (Link interface) source = not (source == view.ia)

-- the packet is at the last hop of its path
abbrev pub is_last : HeaderValue → Bool
is_last header = header.curr_hf + 1 == length header.hops

-- step 7: the packet is for this AS if and only if it is at the last hop of its path
abbrev pub destination_fits : View → ℕ → Bool → Bool
destination_fits view destination last = beq (destination == view.ia) last

-- step 9: the packet is at the last hop of its segment, that is, the next hop is in another segment
abbrev pub ends_segment : HeaderValue → Bool
ends_segment header = not (segment_at header.lens (header.curr_hf + 1) == header.curr_inf)

-- the packet is at the last hop of a segment, and its path goes on in the next one
abbrev pub changes_segment : HeaderValue → Bool
changes_segment header = not (is_last header) && ends_segment header

-- whether a path may come in by a link of one kind and leave by one of another, within one segment
-- (`false`) and from one segment to the next (`true`)
abbrev pub may_follow : (switched : Bool) (from to : LinkKind) → Bool
may_follow false Core Core = true
may_follow false Child Parent = true
may_follow false Parent Child = true
may_follow true Child Core = true
may_follow true Core Child = true
may_follow true Child Child = true
may_follow switched from to = false

-- step 11: the links by which a packet comes in and leaves may be joined
abbrev pub kinds_fit : View → Arrival → Bool → LinkKind → Bool
kinds_fit view (Link interface) switched out =
    option_map_or (λ entry. may_follow switched entry.kind out) (entry_of view interface) false
kinds_fit view arrival switched out = true
