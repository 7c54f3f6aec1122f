-- The place from which a packet leaves, and the step that ends there.
use Rattle.std.proofs.Common.{◌≡◌, ◌≢◌, ◌==◌, ℕ, ◌+◌, true, false, not, Ok, Some, refl, ap, sym, subst, ◌∙◌, length, arith, get_or-set_other}
use Rattle.std.specs.Prelude.{slice_get}
use Rattle.std.proofs.lemmas.Option.{get_or_from_slice_get}
use Rattle.std.proofs.lemmas.Grind.{common_steps}
use Rattle.scion_topology.specs.View.{View}
use Rattle.path_header.specs.declared.fields.InfoField.{InfoField}
use Rattle.path_header.specs.declared.fields.HopField.{HopField}
use Rattle.path_header.specs.Value.{HeaderValue, hop_count, segment_at}
use Rattle.router_step.specs.declared.arrival.Arrival.{Arrival}
use Rattle.router_step.specs.declared.outcome.Outcome.{Outcome}
use Rattle.router_step.specs.declared.place.Here.{Here}
use Rattle.router_step.specs.Place.{is_over_link, current_info, current_hop, with_seg_id, moved_on, header_on_leaving}
use Rattle.router_step.specs.Checks.{is_last, ends_segment}
use Rattle.router_step.specs.Step.{passes, admitted_header, at_path_end, switches_here, chosen_outcome, step_of}
use Rattle.router_step.specs.inner.Place.{here_in}

-- the fields in the next segment, which do not change with the accumulator of the segment behind
pub next_place : (header : HeaderValue) (seg_id : ℕ) (here : Here) (info : InfoField) (hop : HopField)
    → here ≡ here_in false (with_seg_id header seg_id)
    → slice_get header.infos (here.segment + 1) ≡ Some info → slice_get header.hops (here.place + 1) ≡ Some hop
    → record { switched = true; lens = here.lens; segment = here.segment + 1; place = here.place + 1; info = info; hop = hop }
    ≡ here_in true (moved_on true (with_seg_id header seg_id))
next_place header seg_id here info hop is info_is hop_is =
    let segment : here.segment ≡ header.curr_inf = ap (λ (h : Here). h.segment) is in
    let place : here.place ≡ header.curr_hf = ap (λ (h : Here). h.place) is in
    let lens : here.lens ≡ header.lens = ap (λ (h : Here). h.lens) is in
    let other : header.curr_inf + 1 ≢ header.curr_inf = omega arith in
    let info_here : slice_get header.infos (header.curr_inf + 1) ≡ Some info = ap (λ n. slice_get header.infos (n + 1)) (sym segment) ∙ info_is in
    let hop_here : slice_get header.hops (header.curr_hf + 1) ≡ Some hop = ap (λ n. slice_get header.hops (n + 1)) (sym place) ∙ hop_is in
    let kept : current_info (moved_on true (with_seg_id header seg_id)) ≡ info = rw get_or-set_other (get_or_from_slice_get header.infos (header.curr_inf + 1) info _ info_here) in
    let hop_kept : current_hop (moved_on true (with_seg_id header seg_id)) ≡ hop = get_or_from_slice_get header.hops (header.curr_hf + 1) hop _ hop_here in
    rw (segment, place, lens, kept, hop_kept) refl

-- the place in the next segment tells that it is there
pub told_by_place : (there : Here) (header : HeaderValue) → there ≡ here_in true (moved_on true header)
    → there ≡ here_in there.switched (moved_on there.switched header)
told_by_place there header is = subst (λ (h : Here). h ≡ here_in h.switched (moved_on h.switched header)) (sym is) refl

pub differs_by : (n m : ℕ) → n ≢ m → (n == m) ≡ false
differs_by n m differs = grind (arith, common_steps)

ends_by : (n m : ℕ) → n ≢ m → not (n == m) ≡ true
ends_by n m differs = ap not (differs_by n m differs)

-- a switch whose hop passes
pub switched_ok : (view : View) (now : ℕ) (arrival : Arrival) (header : HeaderValue) (here there : Here) (segment : ℕ)
    → here ≡ here_in false header → segment ≡ segment_at here.lens (here.place + 1) → segment ≢ here.segment → is_over_link arrival ≡ true
    → there ≡ here_in true (moved_on true header) → passes view now there.info there.hop ≡ Ok tt
    → switches_here view now arrival header ≡ Ok there.switched
unfolding switches_here
switched_ok view now arrival header here there segment here_is segment_is another over there_is passed =
    let at : here.segment ≡ header.curr_inf = ap (λ (h : Here). h.segment) here_is in
    let next : segment ≡ segment_at header.lens (header.curr_hf + 1) = segment_is ∙ ap (λ (h : Here). segment_at h.lens (h.place + 1)) here_is in
    let differs : segment_at header.lens (header.curr_hf + 1) ≢ header.curr_inf = λ same. another (next ∙ same ∙ sym at) in
    let ends : ends_segment header ≡ true = ends_by _ _ differs in
    let passes_there : passes view now (current_info (moved_on true header)) (current_hop (moved_on true header)) ≡ Ok tt =
    subst (λ (h : Here). passes view now h.info h.hop ≡ Ok tt) there_is passed in
    let told : there.switched ≡ true = ap (λ (h : Here). h.switched) there_is in
    rw (ends, over, passes_there, told) refl

-- whether the place is the last one of its path
pub last_by_place : (header : HeaderValue) (here : Here) (count : ℕ) → length header.hops ≡ hop_count header.lens
    → here ≡ here_in false header → count ≡ hop_count here.lens → is_last header ≡ (here.place + 1 == count)
last_by_place header here count hops is count_is =
    let place : here.place ≡ header.curr_hf = ap (λ (h : Here). h.place) is in
    let whole : count ≡ length header.hops = count_is ∙ ap (λ (h : Here). hop_count h.lens) is ∙ sym hops in
    rw (place, whole) refl

-- a step over all of its checks
pub stepped_on : (view : View) (now : ℕ) (arrival : Arrival) (source destination : ℕ) (header here new : HeaderValue) (there : Here) (outcome : Outcome)
    → admitted_header view now arrival header ≡ Ok here → at_path_end view arrival source destination here ≡ Ok false
    → switches_here view now arrival here ≡ Ok there.switched → there ≡ here_in there.switched (moved_on there.switched here)
    → chosen_outcome view arrival there.switched there.info there.hop ≡ Ok outcome → new ≡ header_on_leaving outcome (moved_on there.switched here)
    → step_of view now arrival source destination header ≡ Ok (outcome, new)
unfolding step_of
stepped_on view now arrival source destination header here new there outcome admits goes_on switches is leaves new_is =
    let info : current_info (moved_on there.switched here) ≡ there.info = sym (ap (λ (h : Here). h.info) is) in
    let hop : current_hop (moved_on there.switched here) ≡ there.hop = sym (ap (λ (h : Here). h.hop) is) in
    rw (admits, goes_on, switches, info, hop, leaves, new_is) refl
