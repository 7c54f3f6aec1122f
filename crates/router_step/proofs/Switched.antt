-- A step that goes on in the next segment.
use Rattle.std.proofs.Common.{◌≡◌, ◌≢◌, ℕ, ◌+◌, Bool, true, refl, ap, ◌∙◌, arith, get_or-set_other}
use Rattle.path_header.specs.Value.{HeaderValue}
use Rattle.router_step.specs.declared.outcome.Outcome.{Outcome}
use Rattle.router_step.specs.declared.outcome.Outcome.TheVariants.{ToLink, ToRouter, Deliver}
use Rattle.router_step.specs.Place.{info_field_at, current_info, with_seg_id, header_on_arrival, moved_on, header_on_leaving}
use Rattle.router_step.specs.Checks.{changes_segment}
use Rattle.router_step.specs.Done.{Situation, DoesStep, at_the_way_out, ChangesSegment}
use Rattle.router_step.proofs.StepLaws.{new_header}

-- an info field stays where another one's accumulator is set
kept_beside : (header : HeaderValue) (seg_id index : ℕ) → index ≢ header.curr_inf → info_field_at (with_seg_id header seg_id) index ≡ info_field_at header index
kept_beside header seg_id index other = rw get_or-set_other refl

behind_kept : (outcome : Outcome) (here : HeaderValue) → info_field_at (header_on_leaving outcome (moved_on true here)) here.curr_inf ≡ current_info here
behind_kept (ToLink interface) here =
    let other : here.curr_inf ≢ here.curr_inf + 1 = omega arith in
    kept_beside (moved_on true here) _ here.curr_inf other
behind_kept (ToRouter router) here = refl
behind_kept Deliver here = refl

inf_kept : (outcome : Outcome) (header : HeaderValue) → (header_on_leaving outcome header).curr_inf ≡ header.curr_inf
inf_kept (ToLink interface) header = refl
inf_kept (ToRouter router) header = refl
inf_kept Deliver header = refl

lens_kept : (outcome : Outcome) (header : HeaderValue) → (header_on_leaving outcome header).lens ≡ header.lens
lens_kept (ToLink interface) header = refl
lens_kept (ToRouter router) header = refl
lens_kept Deliver header = refl

hops_kept : (outcome : Outcome) (header : HeaderValue) → (header_on_leaving outcome header).hops ≡ header.hops
hops_kept (ToLink interface) header = refl
hops_kept (ToRouter router) header = refl
hops_kept Deliver header = refl

pub changes_to_next : (at : Situation) (outcome : Outcome) (new : HeaderValue) → DoesStep at outcome new → changes_segment at.header ≡ true → ChangesSegment at new
changes_to_next at outcome new done changes =
    let here = header_on_arrival at.arrival at.header in
    let out : at_the_way_out at ≡ moved_on true here = ap (λ (b : Bool). moved_on b here) changes in
    let is : new ≡ header_on_leaving outcome (moved_on true here) = new_header at outcome new done ∙ ap (header_on_leaving outcome) out in
    let other : at.header.curr_inf + 1 ≢ at.header.curr_inf = omega arith in
    record {
      curr_inf = ap (λ (h : HeaderValue). h.curr_inf) is ∙ inf_kept outcome (moved_on true here);
      curr_hf = ap (λ (h : HeaderValue). h.curr_hf) out;
      lens = ap (λ (h : HeaderValue). h.lens) is ∙ lens_kept outcome (moved_on true here);
      hops = ap (λ (h : HeaderValue). h.hops) is ∙ hops_kept outcome (moved_on true here);
      behind = ap (λ (h : HeaderValue). info_field_at h at.header.curr_inf) is ∙ behind_kept outcome here;
      ahead = ap (λ (h : HeaderValue). current_info h) out ∙ kept_beside at.header _ (at.header.curr_inf + 1) other;
    }
