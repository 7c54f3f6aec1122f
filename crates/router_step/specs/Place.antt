-- The place of a packet on its path, and how a step changes it (draft-dekater-scion-dataplane).
use Rattle.std.specs.Prelude.{ℕ, ◌+◌, Bool, true, false, not, ◌&&◌, if◌then◌else◌, [], slice_index_or, slice_set}
use Rattle.hop_mac.specs.Hop.{beta_after}
use Rattle.path_header.specs.declared.fields.InfoField.{InfoField}
use Rattle.path_header.specs.declared.fields.HopField.{HopField}
use Rattle.path_header.specs.Value.{HeaderValue}
use Rattle.router_step.specs.declared.arrival.Arrival.{Arrival}
use Rattle.router_step.specs.declared.arrival.Arrival.TheVariants.{Link}
use Rattle.router_step.specs.declared.outcome.Outcome.{Outcome}
use Rattle.router_step.specs.declared.outcome.Outcome.TheVariants.{ToLink}

-- the info field of this index
abbrev pub info_field_at : HeaderValue → ℕ → InfoField
info_field_at header index = slice_index_or header.infos index
    (record { construction = false; seg_id = 0; timestamp = 0 })

-- the current info field
abbrev pub current_info : HeaderValue → InfoField
current_info header = info_field_at header header.curr_inf

-- the current hop field
abbrev pub current_hop : HeaderValue → HopField
current_hop header = slice_index_or header.hops header.curr_hf
    (record { exp_time = 0; cons_ingress = 0; cons_egress = 0; mac = [] })

-- the interface by which a packet on this segment enters the hop's AS
abbrev pub way_in : InfoField → HopField → ℕ
way_in info hop = if info.construction then hop.cons_ingress else hop.cons_egress

-- the interface by which it leaves the AS
abbrev pub way_out : InfoField → HopField → ℕ
way_out info hop = if info.construction then hop.cons_egress else hop.cons_ingress

-- the header with this accumulator in its current info field
abbrev pub with_seg_id : HeaderValue → ℕ → HeaderValue
with_seg_id header seg_id =
    let info = record (current_info header) { seg_id = seg_id } in
    record header { infos = slice_set header.infos header.curr_inf info }

-- the packet came over a link
abbrev pub is_over_link : Arrival → Bool
is_over_link (Link interface) = true
is_over_link arrival = false

-- the accumulator on arrival: over a link and against construction direction, this hop's
-- authenticator is taken out by exclusive or; else unchanged
abbrev pub seg_id_on_arrival : Arrival → InfoField → HopField → ℕ
seg_id_on_arrival arrival info hop = if is_over_link arrival && not info.construction
    then beta_after info.seg_id hop.mac else info.seg_id

-- the header after the arrival: the change of step 5
abbrev pub header_on_arrival : Arrival → HeaderValue → HeaderValue
header_on_arrival arrival header =
    with_seg_id header (seg_id_on_arrival arrival (current_info header) (current_hop header))

-- the header after step 9: both indices go on by one if there is a switch to the next segment
abbrev pub moved_on : Bool → HeaderValue → HeaderValue
moved_on switched header =
    let more : ℕ = if switched then 1 else 0 in
    record header { curr_inf = header.curr_inf + more; curr_hf = header.curr_hf + more }

-- the accumulator on leaving over a link: in construction direction, this hop's authenticator is
-- put in by exclusive or; else unchanged
abbrev pub seg_id_on_leaving : InfoField → HopField → ℕ
seg_id_on_leaving info hop =
    if info.construction then beta_after info.seg_id hop.mac else info.seg_id

-- the header after step 13: over a link the packet goes on to the next hop; else nothing changes
abbrev pub header_on_leaving : Outcome → HeaderValue → HeaderValue
header_on_leaving (ToLink interface) header = record (with_seg_id header
    (seg_id_on_leaving (current_info header) (current_hop header))) { curr_hf = header.curr_hf + 1 }
header_on_leaving outcome header = header
