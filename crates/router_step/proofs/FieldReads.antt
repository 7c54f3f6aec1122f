-- What is read of a header after a write.
use Rattle.std.proofs.Common.{◌≡◌, ℕ, ◌<◌, ◌∙◌, ap, sym, length}
use Rattle.std.proofs.lemmas.List.{get_or-set_same}
use Rattle.path_header.specs.declared.fields.InfoField.{InfoField}
use Rattle.path_header.specs.declared.fields.HopField.{HopField}
use Rattle.path_header.specs.Value.{HeaderValue}
use Rattle.router_step.specs.declared.arrival.Arrival.{Arrival}
use Rattle.router_step.specs.Place.{current_info, current_hop, with_seg_id, seg_id_on_arrival, header_on_arrival}

-- the current info field after its accumulator was set
pub info_of-with_seg_id : (header : HeaderValue) (seg_id : ℕ) → header.curr_inf < length header.infos
    → current_info (with_seg_id header seg_id) ≡ record (current_info header) { seg_id = seg_id }
info_of-with_seg_id header seg_id within = get_or-set_same header.infos header.curr_inf _ _ within

-- the current info field after the arrival, from the fields as they came
pub info_of-arrived : (arrival : Arrival) (header : HeaderValue) (info : InfoField) (hop : HopField) (seg_id : ℕ)
    → info ≡ current_info header → header.curr_inf < length header.infos → hop ≡ current_hop header → seg_id ≡ seg_id_on_arrival arrival info hop
    → record info { seg_id = seg_id } ≡ current_info (header_on_arrival arrival header)
info_of-arrived arrival header info hop seg_id info_is within hop_is seg_is =
    let set : seg_id ≡ seg_id_on_arrival arrival (current_info header) (current_hop header) =
    seg_is ∙ ap (λ i. seg_id_on_arrival arrival i hop) info_is ∙ ap (seg_id_on_arrival arrival (current_info header)) hop_is in
    ap (λ (i : InfoField). record i { seg_id = seg_id }) info_is
    ∙ ap (λ n. record (current_info header) { seg_id = n }) set
    ∙ sym (info_of-with_seg_id header _ within)
