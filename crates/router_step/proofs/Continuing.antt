-- The header after a step is one of the grammar, with indices that fit.
use Rattle.std.proofs.Common.{◌≡◌, ◌≢◌, ℕ, ◌+◌, ◌<◌, Bool, true, false, not, ◌&&◌, ◌==◌, if◌then◌else◌, ◌⊎◌, length, refl, sym, ◌∙◌, ap, subst, inl, inr, arith}
use Rattle.std.proofs.lemmas.Bool.Decides.{Decides-eqb, not_from_Decides}
use Rattle.std.proofs.lemmas.List.{length-set}
use Rattle.hop_mac.specs.Hop.{beta_after}
use Rattle.path_header.specs.declared.fields.InfoField.{InfoField}
use Rattle.path_header.specs.Value.{HeaderValue, IsHeader, AreLens, hop_count, info_count, segment_at}
use Rattle.router_step.specs.declared.arrival.Arrival.{Arrival}
use Rattle.router_step.specs.declared.arrival.Arrival.TheVariants.{FromHost, Inside, Link}
use Rattle.router_step.specs.declared.outcome.Outcome.{Outcome}
use Rattle.router_step.specs.declared.outcome.Outcome.TheVariants.{ToLink, ToRouter, Deliver}
use Rattle.router_step.specs.Place.{current_info, current_hop, seg_id_on_leaving, moved_on, header_on_leaving}
use Rattle.router_step.specs.Checks.{has_no_single, is_start_right, indices_fit, ends_segment}
use Rattle.router_step.specs.Done.{Situation, DoesStep, on_arrival, at_the_way_out}
use Rattle.router_step.proofs.DoneSteps.{not_true, not_false, switched_ok, step_ok, indices_ok}
use Rattle.router_step.proofs.FieldReads.{info_of-with_seg_id}
use Rattle.router_step.proofs.StepLaws.{new_header}
use Rattle.router_step.proofs.Places.{IsMovedOn, stayed_on, switched_on}

and_true : (b c : Bool) → (b && c) ≡ true → (b ≡ true) × (c ≡ true)
and_true true c e = (refl, e)
and_true false c e = absurd (cc)

true_and : (b c : Bool) → b ≡ true → c ≡ true → (b && c) ≡ true
true_and true c d e = e
true_and false c d e = d

unequal : (m n : ℕ) → not (m == n) ≡ true → m ≢ n
unequal m n e = not_from_Decides (m == n) (Decides-eqb m n) (not_true (m == n) e)

-- what the check of the indices says
record IsPlaced (header : HeaderValue) : Type 0 where
  segment : header.curr_inf ≡ segment_at header.lens header.curr_hf
  no_single : has_no_single header.lens ≡ true
  first : header.lens.first ≢ 1
  second : header.lens.second ≢ 1
  third : header.lens.third ≢ 1

placed : (arrival : Arrival) (header : HeaderValue) → indices_fit arrival header ≡ true → IsPlaced header
placed arrival header e =
    let parts = and_true (header.curr_inf == segment_at header.lens header.curr_hf) (has_no_single header.lens && is_start_right arrival header.curr_hf) e in
    let more = and_true (has_no_single header.lens) (is_start_right arrival header.curr_hf) parts.1 in
    let lens = and_true (not (header.lens.first == 1)) (not (header.lens.second == 1) && not (header.lens.third == 1)) more.0 in
    let others = and_true (not (header.lens.second == 1)) (not (header.lens.third == 1)) lens.1 in
    record {
      segment = (Decides-eqb _ _).0 parts.0;
      no_single = more.0;
      first = unequal _ _ lens.0;
      second = unequal _ _ others.0;
      third = unequal _ _ others.1;
    }

start_is_right : (arrival : Arrival) (hop : ℕ) → arrival ≢ FromHost → is_start_right arrival hop ≡ true
start_is_right FromHost hop h = absurd (h refl)
start_is_right Inside hop h = refl
start_is_right (Link interface) hop h = refl

-- the new header is one, and stands at its segment
record GoesOn (old new : HeaderValue) : Type 0 where
  header : IsHeader new
  lens : new.lens ≡ old.lens
  segment : new.curr_inf ≡ segment_at new.lens new.curr_hf

kept : (outcome : Outcome) (h : HeaderValue) → AreLens h.lens → length h.infos ≡ info_count h.lens → length h.hops ≡ hop_count h.lens → IsMovedOn h.lens h.curr_inf h.curr_hf
    → GoesOn h (header_on_leaving outcome h)
kept (ToLink interface) h lens infos hops on = record {
  header = record { lens = lens; infos = length-set h.infos h.curr_inf _ ∙ infos; hops = hops; curr_inf = rw (length-set, infos) on.segment; curr_hf = rw hops on.more };
  lens = refl;
  segment = on.next;
}
kept (ToRouter router) h lens infos hops on = record {
  header = record { lens = lens; infos = infos; hops = hops; curr_inf = rw infos on.segment; curr_hf = let more = on.more in rw hops (omega arith) };
  lens = refl;
  segment = on.here;
}
kept Deliver h lens infos hops on = record {
  header = record { lens = lens; infos = infos; hops = hops; curr_inf = rw infos on.segment; curr_hf = let more = on.more in rw hops (omega arith) };
  lens = refl;
  segment = on.here;
}

-- where the packet stands after a switch, or without one
on_its_segment : (header : HeaderValue) (has_switched : Bool) → IsHeader header → IsPlaced header → header.curr_hf + 1 < hop_count header.lens
    → ((ends_segment header ≡ true) × (has_switched ≡ true)) ⊎ ((ends_segment header ≡ false) × (has_switched ≡ false))
    → IsMovedOn header.lens (header.curr_inf + (if has_switched then 1 else 0)) (header.curr_hf + (if has_switched then 1 else 0))
on_its_segment header has_switched h p more either = elim either [
  | inl w ↦
      rw w.1 (subst (λ inf. IsMovedOn header.lens (inf + 1) (header.curr_hf + 1)) (sym p.segment)
      (switched_on header.lens header.curr_hf h.lens p.first p.second p.third more (λ same. unequal _ _ w.0 (same ∙ sym p.segment))))
  | inr w ↦
      let same : segment_at header.lens (header.curr_hf + 1) ≡ header.curr_inf = (Decides-eqb _ _).0 (not_false _ w.0) in
      let stays : IsMovedOn header.lens header.curr_inf header.curr_hf =
      subst (λ inf. IsMovedOn header.lens inf header.curr_hf) (sym p.segment) (stayed_on header.lens header.curr_hf h.lens more (same ∙ p.segment)) in
      let inf : header.curr_inf ≡ header.curr_inf + 0 = omega arith in
      let hf : header.curr_hf ≡ header.curr_hf + 0 = omega arith in
      rw w.1 (subst (λ n. IsMovedOn header.lens n (header.curr_hf + 0)) inf (subst (λ n. IsMovedOn header.lens header.curr_inf n) hf stays))
]

goes_on : (at : Situation) (outcome : Outcome) (new : HeaderValue) → IsHeader at.header → DoesStep at outcome new → GoesOn at.header new
goes_on at outcome new h e =
    let p : IsPlaced at.header = placed at.arrival at.header (indices_ok at.view at.now at.arrival at.source at.destination at.header new outcome e) in
    let infos : length (on_arrival at).infos ≡ info_count at.header.lens = length-set at.header.infos at.header.curr_inf _ ∙ h.infos in
    elim (step_ok at.view at.now at.arrival at.source at.destination at.header new outcome e).1 [
      | inl w ↦
          subst (GoesOn at.header) (sym w.1.new_is) (record {
            header = record { lens = h.lens; infos = infos; hops = h.hops; curr_inf = rw length-set h.curr_inf; curr_hf = h.curr_hf };
            lens = refl;
            segment = p.segment;
          })
      | inr w ↦
          let not_last : at.header.curr_hf + 1 ≢ length at.header.hops = not_from_Decides _ (Decides-eqb _ _) w.0 in
          let within : at.header.curr_hf < length at.header.hops = h.curr_hf in
          let more : at.header.curr_hf + 1 < hop_count at.header.lens = rw (← h.hops) (omega arith) in
          let choice : ((ends_segment at.header ≡ true) × (w.1.0 ≡ true)) ⊎ ((ends_segment at.header ≡ false) × (w.1.0 ≡ false)) =
          elim (switched_ok at.view at.now at.arrival (on_arrival at) w.1.0 w.1.1.switch) [ inl s ↦ inl (s.0, s.1.0) | inr s ↦ inr s ] in
          let on = on_its_segment at.header w.1.0 h p more choice in
          let made : GoesOn (moved_on w.1.0 (on_arrival at)) (header_on_leaving outcome (moved_on w.1.0 (on_arrival at))) = kept outcome (moved_on w.1.0 (on_arrival at)) h.lens infos h.hops on in
          subst (GoesOn at.header) (sym w.1.1.new_is) (record { header = made.header; lens = made.lens; segment = made.segment })
    ]

pub header_again : (at : Situation) (outcome : Outcome) (new : HeaderValue) → IsHeader at.header → DoesStep at outcome new → IsHeader new
header_again at outcome new h e = (goes_on at outcome new h e).header

pub lens_again : (at : Situation) (outcome : Outcome) (new : HeaderValue) → IsHeader at.header
    → DoesStep at outcome new → new.lens ≡ at.header.lens
lens_again at outcome new h e = (goes_on at outcome new h e).lens

pub indices_again : (at : Situation) (outcome : Outcome) (new : HeaderValue) (arrival : Arrival) → IsHeader at.header → DoesStep at outcome new → arrival ≢ FromHost → indices_fit arrival new ≡ true
indices_again at outcome new arrival h e from_outside =
    let on = goes_on at outcome new h e in
    let p : IsPlaced at.header = placed at.arrival at.header (indices_ok at.view at.now at.arrival at.source at.destination at.header new outcome e) in
    true_and _ _ ((Decides-eqb _ _).1 on.segment)
    (true_and _ _ (ap has_no_single on.lens ∙ p.no_single) (start_is_right arrival new.curr_hf from_outside))

pub leaving : (at : Situation) (interface : ℕ) (new : HeaderValue) → IsHeader at.header → DoesStep at (ToLink interface) new
    → (current_info (at_the_way_out at)).construction ≡ true → (current_info new).seg_id ≡ beta_after (current_info (at_the_way_out at)).seg_id (current_hop (at_the_way_out at)).mac
leaving at interface new h e forward =
    let there : HeaderValue = at_the_way_out at in
    let made : new ≡ header_on_leaving (ToLink interface) there = new_header at (ToLink interface) new e in
    let whole : IsHeader (header_on_leaving (ToLink interface) there) = subst IsHeader made (header_again at (ToLink interface) new h e) in
    let within : there.curr_inf < length there.infos = rw length-set at whole.curr_inf in
    ap (λ (n : HeaderValue). (current_info n).seg_id) made
    ∙ ap (λ (i : InfoField). i.seg_id) (info_of-with_seg_id there (seg_id_on_leaving (current_info there) (current_hop there)) within)
    ∙ ap (λ b. if b then beta_after (current_info there).seg_id (current_hop there).mac else (current_info there).seg_id) forward
