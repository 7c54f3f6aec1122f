-- What a step that was done tells: each check held, and the new header is made by three changes.
use Rattle.std.proofs.Common.{◌≡◌, ◌≢◌, ℕ, Bool, true, false, not, ◌==◌, if◌then◌else◌, ◌⊎◌, Result, Ok, Err, Some, None, Option, refl, sym, ◌∙◌, ap, inl, inr}
use Rattle.std.specs.Option.{ok_or}
use Rattle.std.proofs.lemmas.Bool.Decides.{Decides-eqb, not_from_Decides}
use Rattle.scion_topology.specs.declared.entry.IfEntry.{IfEntry}
use Rattle.scion_topology.specs.View.{View, entry_of}
use Rattle.path_header.specs.declared.fields.InfoField.{InfoField}
use Rattle.path_header.specs.declared.fields.HopField.{HopField}
use Rattle.path_header.specs.Value.{HeaderValue}
use Rattle.router_step.specs.declared.arrival.Arrival.{Arrival}
use Rattle.router_step.specs.declared.outcome.Outcome.{Outcome}
use Rattle.router_step.specs.declared.outcome.Outcome.TheVariants.{ToLink, ToRouter, Deliver}
use Rattle.router_step.specs.declared.fault.Refusal.{Refusal}
use Rattle.router_step.specs.declared.fault.Refusal.TheVariants as refusal
use Rattle.refusal.specs.Refusal.{◌>>=◌, check}
use Rattle.router_step.specs.Place.{current_info, current_hop, is_over_link, way_out, header_on_arrival, moved_on, header_on_leaving}
use Rattle.router_step.specs.Checks.{indices_fit, way_in_fits, is_hop_live, is_mac_right, source_fits, is_last, destination_fits, ends_segment, kinds_fit}
use Rattle.router_step.specs.Step.{passes, admitted_header, at_path_end, switches_here, chosen_outcome, step_of}

bind_ok : {A B : Type 0} (r : Result A Refusal) (f : A → Result B Refusal) (y : B) → (r >>= f) ≡ Ok y → (x : A) × ((r ≡ Ok x) × (f x ≡ Ok y))
bind_ok (Ok x) f y e = (x, (refl, e))
bind_ok (Err fault) f y e = absurd (cc)

check_bind : {B : Type 0} (b : Bool) (fault : Refusal) (f : Unit {0} → Result B Refusal) (y : B) → (check b fault >>= f) ≡ Ok y → (b ≡ true) × (f tt ≡ Ok y)
check_bind true fault f y e = (refl, e)
check_bind false fault f y e = absurd (cc)

check_ok : (b : Bool) (fault : Refusal) → check b fault ≡ Ok tt → b ≡ true
check_ok true fault e = refl
check_ok false fault e = absurd (cc)

either : {X : Type 0} (b : Bool) (p q y : X) → (if b then p else q) ≡ y → ((b ≡ true) × (p ≡ y)) ⊎ ((b ≡ false) × (q ≡ y))
either true p q y e = inl (refl, e)
either false p q y e = inr (refl, e)

abbrev pub done : {X : Type 0} → X → Result X Refusal
done x = Ok x

pub same_value : {X : Type 0} (x y : X) → done x ≡ done y → x ≡ y
same_value x y e = cc

pub passes_ok : (view : View) (now : ℕ) (info : InfoField) (hop : HopField) → passes view now info hop ≡ Ok tt → (is_hop_live now info hop ≡ true) × (is_mac_right view info hop ≡ true)
unfolding passes
passes_ok view now info hop e =
    let parts = check_bind (is_hop_live now info hop) refusal.Expired (λ _. check (is_mac_right view info hop) refusal.BadMac) tt e in
    (parts.0, check_ok (is_mac_right view info hop) refusal.BadMac parts.1)

admitted_ok : (view : View) (now : ℕ) (arrival : Arrival) (header here : HeaderValue) → admitted_header view now arrival header ≡ Ok here
    → (passes view now (current_info (header_on_arrival arrival header)) (current_hop header) ≡ Ok tt) × (header_on_arrival arrival header ≡ here)
unfolding admitted_header
admitted_ok view now arrival header here e =
    let second = check_bind (indices_fit arrival header) refusal.IndexMismatch _ here e in
    let third = check_bind (way_in_fits view arrival (current_info header) (current_hop header)) refusal.WrongIngress _ here second.1 in
    let fifth = bind_ok (passes view now (current_info (header_on_arrival arrival header)) (current_hop header)) (λ _. Ok (header_on_arrival arrival header)) here third.1 in
    (fifth.1.0, same_value _ _ fifth.1.1)

ended_ok : (view : View) (arrival : Arrival) (source destination : ℕ) (header : HeaderValue) (last : Bool) → at_path_end view arrival source destination header ≡ Ok last → is_last header ≡ last
unfolding at_path_end
ended_ok view arrival source destination header last e =
    let sixth = check_bind (source_fits view arrival source) refusal.SourceAs _ last e in
    let seventh = check_bind (destination_fits view destination (is_last header)) refusal.DestinationAs (λ _. Ok (is_last header)) last sixth.1 in
    same_value _ _ seventh.1

fits_ok : (view : View) (now : ℕ) (arrival : Arrival) (header here : HeaderValue) → admitted_header view now arrival header ≡ Ok here → indices_fit arrival header ≡ true
unfolding admitted_header
fits_ok view now arrival header here e = (check_bind (indices_fit arrival header) refusal.IndexMismatch _ here e).0

pub switched_ok : (view : View) (now : ℕ) (arrival : Arrival) (header : HeaderValue) (has_switched : Bool) → switches_here view now arrival header ≡ Ok has_switched
    → ((ends_segment header ≡ true) × ((has_switched ≡ true) × (passes view now (current_info (moved_on true header)) (current_hop (moved_on true header)) ≡ Ok tt)))
    ⊎ ((ends_segment header ≡ false) × (has_switched ≡ false))
unfolding switches_here
switched_ok view now arrival header has_switched e =
    elim (either (ends_segment header) _ _ (done has_switched) e) [
      | inl w ↦
          let inside = check_bind (is_over_link arrival) refusal.SwitchInside _ has_switched w.1 in
          let passed = bind_ok (passes view now (current_info (moved_on true header)) (current_hop (moved_on true header))) (λ _. Ok true) has_switched inside.1 in
          inl (w.0, (sym (same_value _ _ passed.1.1), passed.1.0))
      | inr w ↦ inr (w.0, sym (same_value _ _ w.1))
    ]

ok_or_ok : (o : Option IfEntry) (fault : Refusal) (x : IfEntry) → ok_or o fault ≡ Ok x → o ≡ Some x
ok_or_ok None fault x e = absurd (cc)
ok_or_ok (Some y) fault x e = ap Some (same_value y x e)

pub not_true : (b : Bool) → not b ≡ true → b ≡ false
not_true true e = absurd (cc)
not_true false e = refl

pub not_false : (b : Bool) → not b ≡ false → b ≡ true
not_false true e = refl
not_false false e = absurd (cc)

-- a packet goes to the router that owns the way out
pub record GoesInside (view : View) (info : InfoField) (hop : HopField) (outcome : Outcome) (entry : IfEntry) : Type 0 where
  pub outcome_is : outcome ≡ ToRouter entry.router
  pub known : entry_of view (way_out info hop) ≡ Some entry
  pub another : entry.router ≢ view.router

-- a packet leaves over a link of this router, the way out, which is up
pub record Leaves (view : View) (info : InfoField) (hop : HopField) (outcome : Outcome) (entry : IfEntry) : Type 0 where
  pub outcome_is : outcome ≡ ToLink (way_out info hop)
  pub known : entry_of view (way_out info hop) ≡ Some entry
  pub own : entry.router ≡ view.router
  pub up : entry.up ≡ true

pub left_ok : (view : View) (arrival : Arrival) (has_switched : Bool) (info : InfoField) (hop : HopField) (outcome : Outcome) → chosen_outcome view arrival has_switched info hop ≡ Ok outcome
    → ((entry : IfEntry) × GoesInside view info hop outcome entry) ⊎ ((entry : IfEntry) × Leaves view info hop outcome entry)
unfolding chosen_outcome
left_ok view arrival has_switched info hop outcome e =
    let tenth = bind_ok (ok_or (entry_of view (way_out info hop)) refusal.UnknownEgress) _ outcome e in
    let known : entry_of view (way_out info hop) ≡ Some tenth.0 = ok_or_ok _ _ tenth.0 tenth.1.0 in
    let eleventh = check_bind (kinds_fit view arrival has_switched tenth.0.kind) refusal.LinkKinds _ outcome tenth.1.1 in
    elim (either (not (tenth.0.router == view.router)) _ _ (done outcome) eleventh.1) [
      | inl w ↦ inl (
        tenth.0,
        record {
          outcome_is = sym (same_value _ _ w.1);
          known = known;
          another = not_from_Decides (tenth.0.router == view.router) (Decides-eqb _ _) (not_true _ w.0);
        },
      )
      | inr w ↦
          let up = check_bind tenth.0.up refusal.LinkDown (λ _. Ok (ToLink (way_out info hop))) outcome w.1 in
          inr (
            tenth.0,
            record {
              outcome_is = sym (same_value _ _ up.1);
              known = known;
              own = (Decides-eqb tenth.0.router view.router).0 (not_false _ w.0);
              up = up.0;
            },
          )
    ]

-- the parts of a step, each from what the ones before it answered
abbrev after_switch : View → Arrival → HeaderValue → Bool → Result (Outcome × HeaderValue) Refusal
after_switch view arrival here has_switched =
    chosen_outcome view arrival has_switched (current_info (moved_on has_switched here)) (current_hop (moved_on has_switched here))
    >>= λ outcome. Ok (outcome, header_on_leaving outcome (moved_on has_switched here))

abbrev after_end : View → ℕ → Arrival → HeaderValue → Bool → Result (Outcome × HeaderValue) Refusal
after_end view now arrival here last =
    if last then Ok (Deliver, here) else (switches_here view now arrival here >>= λ has_switched. after_switch view arrival here has_switched)

abbrev after_admission : View → ℕ → Arrival → ℕ → ℕ → HeaderValue → Result (Outcome × HeaderValue) Refusal
after_admission view now arrival source destination here =
    at_path_end view arrival source destination here >>= λ last. after_end view now arrival here last

in_parts : (view : View) (now : ℕ) (arrival : Arrival) (source destination : ℕ) (header : HeaderValue)
    → step_of view now arrival source destination header ≡ (admitted_header view now arrival header >>= λ here. after_admission view now arrival source destination here)
unfolding step_of
in_parts view now arrival source destination header = refl

-- the packet went on: what the switch and the way out answered, and the header that they make
pub record WentOn (view : View) (now : ℕ) (arrival : Arrival) (here : HeaderValue) (outcome : Outcome) (new : HeaderValue) (has_switched : Bool) : Type 0 where
  pub switch : switches_here view now arrival here ≡ Ok has_switched
  pub leaves : chosen_outcome view arrival has_switched (current_info (moved_on has_switched here)) (current_hop (moved_on has_switched here)) ≡ Ok outcome
  pub new_is : new ≡ header_on_leaving outcome (moved_on has_switched here)

went_on : (view : View) (now : ℕ) (arrival : Arrival) (here : HeaderValue) (outcome : Outcome) (new : HeaderValue)
    → (switches_here view now arrival here >>= λ has_switched. after_switch view arrival here has_switched) ≡ Ok (outcome, new)
    → (has_switched : Bool) × WentOn view now arrival here outcome new has_switched
went_on view now arrival here outcome new e =
    let answer : Outcome × HeaderValue = (outcome, new) in
    let ninth = bind_ok (switches_here view now arrival here) (λ has_switched. after_switch view arrival here has_switched) answer e in
    let rest = bind_ok (chosen_outcome view arrival ninth.0 (current_info (moved_on ninth.0 here)) (current_hop (moved_on ninth.0 here))) (λ way. Ok (way, header_on_leaving way (moved_on ninth.0 here))) answer ninth.1.1 in
    let both : (rest.0, header_on_leaving rest.0 (moved_on ninth.0 here)) ≡ answer = same_value _ _ rest.1.1 in
    let same : rest.0 ≡ outcome = ap (λ (a : Outcome × HeaderValue). a.0) both in
    let made : header_on_leaving rest.0 (moved_on ninth.0 here) ≡ new = ap (λ (a : Outcome × HeaderValue). a.1) both in (
      ninth.0,
      record {
        switch = ninth.1.0;
        leaves = rest.1.0 ∙ ap done same;
        new_is = sym made ∙ ap (λ way. header_on_leaving way (moved_on ninth.0 here)) same;
      },
    )

-- the packet's path ended here
pub record Delivered (here : HeaderValue) (outcome : Outcome) (new : HeaderValue) : Type 0 where
  pub outcome_is : outcome ≡ Deliver
  pub new_is : new ≡ here

ends_or_goes_on : (view : View) (now : ℕ) (arrival : Arrival) (source destination : ℕ) (here : HeaderValue) (outcome : Outcome) (new : HeaderValue)
    → after_admission view now arrival source destination here ≡ Ok (outcome, new)
    → ((is_last here ≡ true) × Delivered here outcome new)
    ⊎ ((is_last here ≡ false) × ((has_switched : Bool) × WentOn view now arrival here outcome new has_switched))
ends_or_goes_on view now arrival source destination here outcome new e =
    let answer : Outcome × HeaderValue = (outcome, new) in
    let ends = bind_ok (at_path_end view arrival source destination here) (λ last. after_end view now arrival here last) answer e in
    let is : is_last here ≡ ends.0 = ended_ok view arrival source destination here ends.0 ends.1.0 in
    elim (either ends.0 _ _ (done answer) ends.1.1) [
      | inl w ↦
          let both : (Deliver, here) ≡ answer = same_value _ _ w.1 in
          inl (is ∙ w.0, record { outcome_is = sym (ap (λ (a : Outcome × HeaderValue). a.0) both); new_is = sym (ap (λ (a : Outcome × HeaderValue). a.1) both) })
      | inr w ↦ inr (is ∙ w.0, went_on view now arrival here outcome new w.1)
    ]

pub step_ok : (view : View) (now : ℕ) (arrival : Arrival) (source destination : ℕ) (header new : HeaderValue) (outcome : Outcome) → step_of view now arrival source destination header ≡ Ok (outcome, new)
    → (passes view now (current_info (header_on_arrival arrival header)) (current_hop header) ≡ Ok tt)
    × (((is_last header ≡ true) × Delivered (header_on_arrival arrival header) outcome new)
    ⊎ ((is_last header ≡ false) × ((has_switched : Bool) × WentOn view now arrival (header_on_arrival arrival header) outcome new has_switched)))
step_ok view now arrival source destination header new outcome e =
    let answer : Outcome × HeaderValue = (outcome, new) in
    let admits = bind_ok (admitted_header view now arrival header) (λ here. after_admission view now arrival source destination here) answer (sym (in_parts view now arrival source destination header) ∙ e) in
    let here = admitted_ok view now arrival header admits.0 admits.1.0 in (
      here.0,
      ends_or_goes_on view now arrival source destination (header_on_arrival arrival header) outcome new
          (ap (λ h. after_admission view now arrival source destination h) here.1 ∙ admits.1.1),
    )

-- the indices of a packet that was not refused fit
pub indices_ok : (view : View) (now : ℕ) (arrival : Arrival) (source destination : ℕ) (header new : HeaderValue) (outcome : Outcome) → step_of view now arrival source destination header ≡ Ok (outcome, new)
    → indices_fit arrival header ≡ true
indices_ok view now arrival source destination header new outcome e =
    let answer : Outcome × HeaderValue = (outcome, new) in
    let admits = bind_ok (admitted_header view now arrival header) (λ here. after_admission view now arrival source destination here) answer (sym (in_parts view now arrival source destination header) ∙ e) in
    fits_ok view now arrival header admits.0 admits.1.0
