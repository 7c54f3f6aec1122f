-- The numbers of a header fit into their bits after a step, so that it still has a spelling.
use Rattle.std.proofs.Common.{◌≡◌, ℕ, zero, suc, ◌+◌, ◌*◌, ◌^◌, ◌<◌, Bool, true, false, not, ◌&&◌, if◌then◌else◌, List, [], ◌∷◌, length, set, Some, sym, subst, arith}
use Rattle.std.specs.Prelude.{slice_get, slice_index}
use Rattle.std.specs.List.{AllByRecursion}
use Rattle.std.proofs.lemmas.Nat.{xor_lt}
use Rattle.std.proofs.lemmas.List.{length-set}
use Rattle.std.proofs.lemmas.Option.{slice_get-get_or}
use Rattle.hop_mac.specs.Hop.{beta_after}
use Rattle.path_header.specs.declared.fields.InfoField.{InfoField}
use Rattle.path_header.specs.declared.fields.HopField.{HopField}
use Rattle.path_header.specs.Value.{HeaderValue, IsHeader}
use Rattle.path_header.specs.Spelling.{InfoFits, HopFits, FitsBits, SpellsHeader, spelling}
use Rattle.path_header.proofs.WholeHeader.{spelling_spells}
use Rattle.router_step.specs.declared.arrival.Arrival.{Arrival}
use Rattle.router_step.specs.declared.outcome.Outcome.{Outcome}
use Rattle.router_step.specs.declared.outcome.Outcome.TheVariants.{ToLink, ToRouter, Deliver}
use Rattle.router_step.specs.Place.{current_info, current_hop, with_seg_id, is_over_link, seg_id_on_arrival, seg_id_on_leaving, header_on_arrival, header_on_leaving}
use Rattle.router_step.specs.Done.{Situation, DoesStep, at_the_way_out}
use Rattle.router_step.proofs.StepLaws.{new_header}
use Rattle.router_step.proofs.Continuing.{header_again}

-- ---- accumulators have 16 bits

pub chosen : (b : Bool) (x y : ℕ) → x < 2 ^ 16 → y < 2 ^ 16 → (if b then x else y) < 2 ^ 16
chosen true x y one other = one
chosen false x y one other = other

pub stepped : (beta : ℕ) (hop : HopField) → beta < 2 ^ 16 → HopFits hop
    → beta_after beta hop.mac < 2 ^ 16
stepped beta hop small fits =
    let high = fits.mac 0 in
    let low = fits.mac 1 in
    xor_lt 16 beta (slice_index hop.mac 0 * 256 + slice_index hop.mac 1) small (omega arith)

pub on_leaving : (info : InfoField) (hop : HopField) → info.seg_id < 2 ^ 16 → HopFits hop
    → seg_id_on_leaving info hop < 2 ^ 16
on_leaving info hop small fits =
    chosen _ (beta_after info.seg_id hop.mac) info.seg_id (stepped info.seg_id hop small fits) small

-- ---- what holds of each of a list

pub all_there : {X : Type 0} (P : X → Type 0) (xs : List X) (i : ℕ) (x : X) → AllByRecursion P xs
    → slice_get xs i ≡ Some x → P x
all_there P [] i x all there = absurd cc
all_there P (y ∷ ys) zero x all there = let is : y ≡ x = cc in subst P is all.0
all_there P (y ∷ ys) (suc i) x all there = all_there P ys i x all.1 there

all_set : {X : Type 0} (P : X → Type 0) (xs : List X) (i : ℕ) (x : X) → AllByRecursion P xs → P x
    → AllByRecursion P (set xs i x)
all_set P [] i x all here = tt
all_set P (y ∷ ys) zero x all here = (here, all.1)
all_set P (y ∷ ys) (suc i) x all here = (all.0, all_set P ys i x all.1 here)

-- ---- the numbers of a header fit after a step

info_fits : (header : HeaderValue) → header.curr_inf < length header.infos → FitsBits header
    → InfoFits (current_info header)
info_fits header within fits =
    all_there InfoFits header.infos header.curr_inf (current_info header) fits.infos
    (slice_get-get_or header.infos header.curr_inf _ within)

hop_fits : (header : HeaderValue) → header.curr_hf < length header.hops → FitsBits header
    → HopFits (current_hop header)
hop_fits header within fits =
    all_there HopFits header.hops header.curr_hf (current_hop header) fits.hops
    (slice_get-get_or header.hops header.curr_hf _ within)

fits_with : (header : HeaderValue) (seg_id : ℕ) → header.curr_inf < length header.infos
    → FitsBits header → seg_id < 2 ^ 16 → FitsBits (with_seg_id header seg_id)
fits_with header seg_id within fits small =
    let info = info_fits header within fits in
    record {
      infos = all_set InfoFits header.infos header.curr_inf
          (record (current_info header) { seg_id = seg_id }) fits.infos
          (record { seg_id = small; timestamp = info.timestamp });
      hops = fits.hops;
    }

fits_on_arrival : (arrival : Arrival) (header : HeaderValue) → IsHeader header → FitsBits header
    → FitsBits (header_on_arrival arrival header)
fits_on_arrival arrival header is fits =
    let info = current_info header in
    let hop = current_hop header in
    let small = (info_fits header is.curr_inf fits).seg_id in
    fits_with header (seg_id_on_arrival arrival info hop) is.curr_inf fits
    (chosen (is_over_link arrival && not info.construction) (beta_after info.seg_id hop.mac)
    info.seg_id (stepped info.seg_id hop small (hop_fits header is.curr_hf fits)) small)

fits_gone : (outcome : Outcome) (there : HeaderValue) → FitsBits there
    → IsHeader (header_on_leaving outcome there) → FitsBits (header_on_leaving outcome there)
fits_gone (ToLink interface) there fits is =
    let within : there.curr_inf < length there.infos = rw length-set at is.curr_inf in
    let more : there.curr_hf + 1 < length there.hops = is.curr_hf in
    let made = fits_with there (seg_id_on_leaving (current_info there) (current_hop there))
    within fits
    (on_leaving (current_info there) (current_hop there) (info_fits there within fits).seg_id
    (hop_fits there (omega arith) fits)) in
    record { infos = made.infos; hops = made.hops }
fits_gone (ToRouter router) there fits is = fits
fits_gone Deliver there fits is = fits

pub fits_again : (at : Situation) (outcome : Outcome) (new : HeaderValue) → IsHeader at.header
    → FitsBits at.header → DoesStep at outcome new → FitsBits new
fits_again at outcome new is fits done =
    let here = fits_on_arrival at.arrival at.header is fits in
    let there : FitsBits (at_the_way_out at) = record { infos = here.infos; hops = here.hops } in
    let made = new_header at outcome new done in
    subst FitsBits (sym made)
    (fits_gone outcome (at_the_way_out at) there
    (subst IsHeader made (header_again at outcome new is done)))

pub spelled_again : (at : Situation) (outcome : Outcome) (new : HeaderValue) (text : List ℕ)
    → SpellsHeader text at.header → DoesStep at outcome new → SpellsHeader (spelling new) new
spelled_again at outcome new text spells done =
    spelling_spells new (header_again at outcome new spells.is_header done)
    (fits_again at outcome new spells.is_header spells.fits done)
