-- The laws about steps that were done.
use Rattle.std.proofs.Common.{◌≡◌, ◌≢◌, ◌↔◌, Some, ℕ, ◌+◌, ◌<◌, Bool, true, false, not, ◌&&◌, if◌then◌else◌, List, Ok, IsTrue, length, refl, sym, ◌∙◌, ap, subst, inl, inr, arith, set}
use Rattle.std.proofs.lemmas.Bool.{leb-true}
use Rattle.std.proofs.lemmas.List.{length-set, set-set}
use Rattle.hop_mac.specs.Hop.{beta_after}
use Rattle.scion_topology.specs.declared.entry.IfEntry.{IfEntry}
use Rattle.scion_topology.specs.View.{View, IsAuthentic, is_authentic, entry_of}
use Rattle.path_header.specs.declared.fields.InfoField.{InfoField}
use Rattle.path_header.specs.declared.fields.HopField.{HopField}
use Rattle.path_header.specs.Value.{HeaderValue, IsHeader}
use Rattle.router_step.specs.declared.arrival.Arrival.{Arrival}
use Rattle.router_step.specs.declared.outcome.Outcome.{Outcome}
use Rattle.router_step.specs.declared.outcome.Outcome.TheVariants.{ToLink, ToRouter, Deliver}
use Rattle.router_step.specs.Place.{current_info, current_hop, way_out, with_seg_id, is_over_link, seg_id_on_arrival, seg_id_on_leaving, header_on_arrival, moved_on, header_on_leaving}
use Rattle.router_step.specs.Checks.{is_last, ends_segment, changes_segment}
use Rattle.router_step.specs.Step.{passes, switches_here}
use Rattle.router_step.specs.Done.{Situation, DoesStep, on_arrival, at_the_way_out, IsOwnHop, IsOwnLink, StaysOnSegment}
use Rattle.router_step.proofs.FieldReads.{info_of-with_seg_id}
use Rattle.router_step.proofs.DoneSteps.{passes_ok, switched_ok, left_ok, step_ok}

-- no switch moves nothing
not_moved : (header : HeaderValue) → moved_on false header ≡ header
not_moved header =
    let inf : header.curr_inf + 0 ≡ header.curr_inf = omega arith in
    let hf : header.curr_hf + 0 ≡ header.curr_hf = omega arith in
    ap (λ n. record header { curr_inf = n; curr_hf = header.curr_hf + 0 }) inf ∙ ap (λ n. record header { curr_hf = n }) hf

unmoved : (header here : HeaderValue) → changes_segment header ≡ false → moved_on (changes_segment header) here ≡ here
unmoved header here same = ap (λ b. moved_on b here) same ∙ not_moved here

-- the switch is there where the path goes on, on another segment
changes : (header : HeaderValue) (last ends : Bool) → is_last header ≡ last → ends_segment header ≡ ends → changes_segment header ≡ (not last && ends)
changes header last ends at_last at_end = ap (λ b. not b && ends_segment header) at_last ∙ ap (λ b. not last && b) at_end

changes_at_last : (header : HeaderValue) → is_last header ≡ true → changes_segment header ≡ false
changes_at_last header last = ap (λ b. not b && ends_segment header) last

switch_is : (view : View) (now : ℕ) (arrival : Arrival) (header : HeaderValue) (has_switched : Bool) → is_last header ≡ false → switches_here view now arrival (header_on_arrival arrival header) ≡ Ok has_switched → has_switched ≡ changes_segment header
switch_is view now arrival header has_switched on e =
    elim (switched_ok view now arrival (header_on_arrival arrival header) has_switched e) [
      | inl w ↦ w.1.0 ∙ sym (changes header false true on w.0)
      | inr w ↦ w.1 ∙ sym (changes header false false on w.0)
    ]

module _ (by_test : (view : View) (mac : List ℕ) (beta timestamp exp_time cons_ingress cons_egress : ℕ) → IsTrue (is_authentic view mac beta timestamp exp_time cons_ingress cons_egress) ↔ IsAuthentic view mac beta timestamp exp_time cons_ingress cons_egress) where
  -- what a check of a hop tells of it
  own_hop : (view : View) (now : ℕ) (header : HeaderValue) → passes view now (current_info header) (current_hop header) ≡ Ok tt → IsOwnHop view now header
  own_hop view now header e =
      let held = passes_ok view now (current_info header) (current_hop header) e in
      record {
        live = leb-true _ _ held.0;
        authentic = (by_test view (current_hop header).mac (current_info header).seg_id (current_info header).timestamp (current_hop header).exp_time (current_hop header).cons_ingress (current_hop header).cons_egress).0 held.1;
      }

  pub own_here : (at : Situation) (outcome : Outcome) (new : HeaderValue) → DoesStep at outcome new → IsOwnHop at.view at.now (header_on_arrival at.arrival at.header)
  own_here at outcome new e =
      own_hop at.view at.now (header_on_arrival at.arrival at.header) (step_ok at.view at.now at.arrival at.source at.destination at.header new outcome e).0

  pub own_beyond : (at : Situation) (outcome : Outcome) (new : HeaderValue) → DoesStep at outcome new → IsOwnHop at.view at.now (at_the_way_out at)
  own_beyond at outcome new e =
      let here = own_here at outcome new e in
      let at_same : changes_segment at.header ≡ false → IsOwnHop at.view at.now (moved_on (changes_segment at.header) (header_on_arrival at.arrival at.header)) =
      λ same. subst (IsOwnHop at.view at.now) (sym (unmoved at.header (header_on_arrival at.arrival at.header) same)) here in
      elim (step_ok at.view at.now at.arrival at.source at.destination at.header new outcome e).1 [
        | inl w ↦ at_same (changes_at_last at.header w.0)
        | inr w ↦
            elim (switched_ok at.view at.now at.arrival (header_on_arrival at.arrival at.header) w.1.0 w.1.1.switch) [
              | inl s ↦ subst (λ b. IsOwnHop at.view at.now (moved_on b (header_on_arrival at.arrival at.header))) (sym (changes at.header false true w.0 s.0)) (own_hop at.view at.now (moved_on true (header_on_arrival at.arrival at.header)) s.1.1)
              | inr s ↦ at_same (changes at.header false false w.0 s.0)
            ]
      ]

pub new_header : (at : Situation) (outcome : Outcome) (new : HeaderValue) → DoesStep at outcome new
    → new ≡ header_on_leaving outcome (at_the_way_out at)
new_header at outcome new e =
    elim (step_ok at.view at.now at.arrival at.source at.destination at.header new outcome e).1 [
      | inl w ↦ w.1.new_is ∙ sym (ap (λ o. header_on_leaving o (moved_on (changes_segment at.header) (header_on_arrival at.arrival at.header))) w.1.outcome_is ∙ unmoved at.header (header_on_arrival at.arrival at.header) (changes_at_last at.header w.0))
      | inr w ↦ w.1.1.new_is ∙ ap (λ b. header_on_leaving outcome (moved_on b (header_on_arrival at.arrival at.header))) (switch_is at.view at.now at.arrival at.header w.1.0 w.0 w.1.1.switch)
    ]

pub at_the_end : (at : Situation) (new : HeaderValue) → DoesStep at Deliver new
    → (is_last at.header ≡ true) × (new ≡ header_on_arrival at.arrival at.header)
at_the_end at new e =
    elim (step_ok at.view at.now at.arrival at.source at.destination at.header new Deliver e).1 [
      | inl w ↦ (w.0, w.1.new_is)
      | inr w ↦ elim (left_ok at.view at.arrival w.1.0 _ _ Deliver w.1.1.leaves) [ inl d ↦ absurd (let is = d.1.outcome_is in cc) | inr d ↦ absurd (let is = d.1.outcome_is in cc) ]
    ]

-- the later of two accumulators stays
with_later : (header : HeaderValue) (first second : ℕ) → header.curr_inf < length header.infos → with_seg_id (with_seg_id header first) second ≡ with_seg_id header second
with_later header first second within =
    let read : current_info (with_seg_id header first) ≡ record (current_info header) { seg_id = first } = info_of-with_seg_id header first within in
    ap (λ (i : InfoField). record header { infos = set (set header.infos header.curr_inf (record (current_info header) { seg_id = first })) header.curr_inf (record i { seg_id = second }) }) read
    ∙ ap (λ (infos : List InfoField). record header { infos = infos }) (set-set header.infos header.curr_inf _ _)

stays_with : (header : HeaderValue) (seg_id hop : ℕ) → header.curr_inf < length header.infos → StaysOnSegment header (record (with_seg_id header seg_id) { curr_hf = hop })
stays_with header seg_id hop within = record {
  curr_inf = refl;
  lens = refl;
  infos = ap (λ (i : InfoField). set header.infos header.curr_inf (record (current_info header) { seg_id = i.seg_id })) (sym (info_of-with_seg_id header seg_id within));
  hops = refl;
}

stays_through : (arrival : Arrival) (header : HeaderValue) (outcome : Outcome) → header.curr_inf < length header.infos → StaysOnSegment header (header_on_leaving outcome (header_on_arrival arrival header))
stays_through arrival header (ToLink interface) within =
    let here : HeaderValue = header_on_arrival arrival header in
    subst (λ (h : HeaderValue). StaysOnSegment header (record h { curr_hf = header.curr_hf + 1 }))
    (sym (with_later header (seg_id_on_arrival arrival (current_info header) (current_hop header)) (seg_id_on_leaving (current_info here) (current_hop here)) within))
    (stays_with header (seg_id_on_leaving (current_info here) (current_hop here)) (header.curr_hf + 1) within)
stays_through arrival header (ToRouter router) within = stays_with header (seg_id_on_arrival arrival (current_info header) (current_hop header)) header.curr_hf within
stays_through arrival header Deliver within = stays_with header (seg_id_on_arrival arrival (current_info header) (current_hop header)) header.curr_hf within

-- the new header where the packet stays on its segment
on_segment : (at : Situation) (outcome : Outcome) (new : HeaderValue) → DoesStep at outcome new
    → changes_segment at.header ≡ false → new ≡ header_on_leaving outcome (header_on_arrival at.arrival at.header)
on_segment at outcome new e same =
    new_header at outcome new e ∙ ap (header_on_leaving outcome) (unmoved at.header (header_on_arrival at.arrival at.header) same)

pub stays : (at : Situation) (outcome : Outcome) (new : HeaderValue) → IsHeader at.header → DoesStep at outcome new
    → changes_segment at.header ≡ false → StaysOnSegment at.header new
stays at outcome new h e same =
    subst (StaysOnSegment at.header) (sym (on_segment at outcome new e same)) (stays_through at.arrival at.header outcome h.curr_inf)

-- the accumulator that a packet has which stays on its segment
seg_id_gone : Outcome → InfoField → HopField → ℕ
seg_id_gone (ToLink interface) info hop = seg_id_on_leaving info hop
seg_id_gone (ToRouter router) info hop = info.seg_id
seg_id_gone Deliver info hop = info.seg_id

new_seg_id : (arrival : Arrival) (header : HeaderValue) (outcome : Outcome) → header.curr_inf < length header.infos
    → (current_info (header_on_leaving outcome (header_on_arrival arrival header))).seg_id ≡ seg_id_gone outcome (record (current_info header) { seg_id = seg_id_on_arrival arrival (current_info header) (current_hop header) }) (current_hop header)
unfolding seg_id_gone
new_seg_id arrival header (ToLink interface) within =
    let here : HeaderValue = header_on_arrival arrival header in
    let within_here : header.curr_inf < length here.infos = rw length-set within in
    ap (λ (i : InfoField). i.seg_id) (info_of-with_seg_id here (seg_id_on_leaving (current_info here) (current_hop here)) within_here)
    ∙ ap (λ (i : InfoField). seg_id_on_leaving i (current_hop header)) (info_of-with_seg_id header _ within)
new_seg_id arrival header (ToRouter router) within = ap (λ (i : InfoField). i.seg_id) (info_of-with_seg_id header _ within)
new_seg_id arrival header Deliver within = ap (λ (i : InfoField). i.seg_id) (info_of-with_seg_id header _ within)

chosen : {X : Type 0} (b : Bool) (x y : X) → b ≡ true → (if b then x else y) ≡ x
chosen b x y e = ap (λ c. if c then x else y) e

other : {X : Type 0} (b : Bool) (x y : X) → b ≡ false → (if b then x else y) ≡ y
other b x y e = ap (λ c. if c then x else y) e

and_not_true : (b c : Bool) → c ≡ true → (b && not c) ≡ false
and_not_true true c e = ap not e
and_not_true false c e = refl

both_true : (b c : Bool) → b ≡ true → c ≡ true → (b && c) ≡ true
both_true true c d e = e
both_true false c d e = d

pub along : (at : Situation) (interface : ℕ) (new : HeaderValue) → IsHeader at.header → DoesStep at (ToLink interface) new
    → changes_segment at.header ≡ false → (current_info at.header).construction ≡ true → (current_info new).seg_id ≡ beta_after (current_info at.header).seg_id (current_hop at.header).mac
unfolding seg_id_gone
along at interface new h e same forward =
    let came : seg_id_on_arrival at.arrival (current_info at.header) (current_hop at.header) ≡ (current_info at.header).seg_id =
    other (is_over_link at.arrival && not (current_info at.header).construction) _ _ (and_not_true (is_over_link at.arrival) (current_info at.header).construction forward) in
    ap (λ (n : HeaderValue). (current_info n).seg_id) (on_segment at (ToLink interface) new e same)
    ∙ new_seg_id at.arrival at.header (ToLink interface) h.curr_inf
    ∙ chosen (current_info at.header).construction _ _ forward
    ∙ ap (λ n. beta_after n (current_hop at.header).mac) came

against_gone : (outcome : Outcome) (info : InfoField) (hop : HopField) → info.construction ≡ false → seg_id_gone outcome info hop ≡ info.seg_id
unfolding seg_id_gone
against_gone (ToLink interface) info hop backward = other info.construction _ _ backward
against_gone (ToRouter router) info hop backward = refl
against_gone Deliver info hop backward = refl

pub against : ((beta : ℕ) (mac : List ℕ) → beta_after (beta_after beta mac) mac ≡ beta)
    → (at : Situation) (outcome : Outcome) (new : HeaderValue) → IsHeader at.header → DoesStep at outcome new → is_over_link at.arrival ≡ true
    → changes_segment at.header ≡ false → (current_info at.header).construction ≡ false → beta_after (current_info new).seg_id (current_hop at.header).mac ≡ (current_info at.header).seg_id
against undone at outcome new h e by_link same backward =
    let came : seg_id_on_arrival at.arrival (current_info at.header) (current_hop at.header) ≡ beta_after (current_info at.header).seg_id (current_hop at.header).mac =
    chosen (is_over_link at.arrival && not (current_info at.header).construction) _ _ (both_true _ _ by_link (ap not backward)) in
    let gone_is : (current_info new).seg_id ≡ beta_after (current_info at.header).seg_id (current_hop at.header).mac =
    ap (λ (n : HeaderValue). (current_info n).seg_id) (on_segment at outcome new e same)
    ∙ new_seg_id at.arrival at.header outcome h.curr_inf
    ∙ against_gone outcome _ (current_hop at.header) backward
    ∙ came in
    ap (λ n. beta_after n (current_hop at.header).mac) gone_is ∙ undone (current_info at.header).seg_id (current_hop at.header).mac

pub over_own_link : (at : Situation) (interface : ℕ) (new : HeaderValue) → DoesStep at (ToLink interface) new
    → (interface ≡ way_out (current_info (at_the_way_out at)) (current_hop (at_the_way_out at))) × ((entry : IfEntry) × IsOwnLink at.view interface entry)
over_own_link at interface new e =
    elim (step_ok at.view at.now at.arrival at.source at.destination at.header new (ToLink interface) e).1 [
      | inl w ↦ absurd (let is = w.1.outcome_is in cc)
      | inr w ↦
          let here : HeaderValue = on_arrival at in
          let place : moved_on w.1.0 here ≡ at_the_way_out at = ap (λ b. moved_on b here) (switch_is at.view at.now at.arrival at.header w.1.0 w.0 w.1.1.switch) in
          elim (left_ok at.view at.arrival w.1.0 _ _ (ToLink interface) w.1.1.leaves) [
            | inl d ↦ absurd (let is = d.1.outcome_is in cc)
            | inr d ↦
                let way : interface ≡ way_out (current_info (moved_on w.1.0 here)) (current_hop (moved_on w.1.0 here)) = let is = d.1.outcome_is in cc in
                (way ∙ ap (λ h. way_out (current_info h) (current_hop h)) place, (d.0, record { known = ap (entry_of at.view) way ∙ d.1.known; own = d.1.own; up = d.1.up }))
          ]
    ]

pub to_owner : (at : Situation) (router : ℕ) (new : HeaderValue) → DoesStep at (ToRouter router) new
    → (router ≢ at.view.router) × ((entry : IfEntry) × ((entry.router ≡ router) × (entry_of at.view (way_out (current_info (at_the_way_out at)) (current_hop (at_the_way_out at))) ≡ Some entry)))
to_owner at router new e =
    elim (step_ok at.view at.now at.arrival at.source at.destination at.header new (ToRouter router) e).1 [
      | inl w ↦ absurd (let is = w.1.outcome_is in cc)
      | inr w ↦
          let here : HeaderValue = on_arrival at in
          let place : moved_on w.1.0 here ≡ at_the_way_out at = ap (λ b. moved_on b here) (switch_is at.view at.now at.arrival at.header w.1.0 w.0 w.1.1.switch) in
          elim (left_ok at.view at.arrival w.1.0 _ _ (ToRouter router) w.1.1.leaves) [
            | inl d ↦
                let same : router ≡ d.0.router = let is = d.1.outcome_is in cc in
                (λ own. d.1.another (sym same ∙ own), (d.0, (sym same, ap (λ h. entry_of at.view (way_out (current_info h) (current_hop h))) (sym place) ∙ d.1.known)))
            | inr d ↦ absurd (let is = d.1.outcome_is in cc)
          ]
    ]
