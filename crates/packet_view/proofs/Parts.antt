-- The parts of the lines of two checks are their sides.
use Rattle.std.proofs.Common.{◌≡◌, ℕ, ◌∙◌, sym, ap, List, [], ◌++◌, codes}
use Rattle.std.specs.Prelude.{slice_get}
use Rattle.std.specs.Fmt.{decimal}
use Rattle.std.proofs.lemmas.List.{append-nil, append_assoc}
use Rattle.hex.specs.Hex.{encode_lower}
use Rattle.scion_topology.specs.Keys.{key_in_use}
use Rattle.scion_topology.specs.View.{View}
use Rattle.path_header.specs.declared.fields.InfoField.{InfoField}
use Rattle.path_header.specs.declared.fields.HopField.{HopField}
use Rattle.path_header.specs.Value.{HeaderValue, segment_at}
use Rattle.router_step.specs.declared.arrival.Arrival.{Arrival}
use Rattle.packet_view.specs.Fields.{indices_text, lens_text}
use Rattle.packet_view.specs.Sides.{arrival_text, indices_sides, position_text, mac_under, mac_sides, right_text, before_text}

-- of a packet's place
pub indices_parts : (arrival : Arrival) (header : HeaderValue) (segment : ℕ) (place lens came : List ℕ)
    → place ≡ indices_text header → segment ≡ segment_at header.lens header.curr_hf
    → lens ≡ lens_text header.lens → came ≡ arrival_text arrival
    → codes "2 indices: " ++ (place ++ (codes " of segment " ++ (decimal segment ++ (codes "; " ++ (lens ++ (codes "; from " ++ (came ++ []))))))) ≡ indices_sides arrival header
unfolding indices_sides position_text
indices_parts arrival header segment place lens came same_place same_segment same_lens same_came =
    ap (λ (t : List ℕ). codes "2 indices: " ++ (place ++ (codes " of segment " ++ (decimal segment ++ (codes "; " ++ (lens ++ (codes "; from " ++ t)))))))
    (append-nil came ∙ same_came)
    ∙ ap (λ (t : List ℕ). codes "2 indices: " ++ (place ++ (codes " of segment " ++ (decimal segment ++ (codes "; " ++ (t ++ (codes "; from " ++ arrival_text arrival))))))) same_lens
    ∙ ap (λ (n : ℕ). codes "2 indices: " ++ (place ++ (codes " of segment " ++ (decimal n ++ (codes "; " ++ (lens_text header.lens ++ (codes "; from " ++ arrival_text arrival))))))) same_segment
    ∙ ap (λ (t : List ℕ). codes "2 indices: " ++ (t ++ (codes " of segment " ++ (decimal (segment_at header.lens header.curr_hf) ++ (codes "; " ++ (lens_text header.lens ++ (codes "; from " ++ arrival_text arrival))))))) same_place
    ∙ ap (λ (t : List ℕ). codes "2 indices: " ++ t)
    (sym (append_assoc (indices_text header) (codes " of segment " ++ decimal (segment_at header.lens header.curr_hf)) (codes "; " ++ (lens_text header.lens ++ (codes "; from " ++ arrival_text arrival)))))

-- of an authenticator, whose parts are the right ones
pub mac_parts : (number : ℕ) (view : View) (info : InfoField) (hop : HopField) (shown : ℕ) (right before : List ℕ)
    → shown ≡ number → right ≡ mac_under info hop (key_in_use view.keys)
    → before ≡ before_text info hop (slice_get view.keys 1)
    → decimal shown ++ (codes " authenticator: packet " ++ (encode_lower hop.mac ++ (codes ", " ++ (codes "right under the key in use: " ++ (encode_lower right ++ (before ++ [])))))) ≡ mac_sides number view info hop
unfolding mac_sides right_text
mac_parts number view info hop shown right before same_number same_right same_before =
    ap (λ (t : List ℕ). decimal shown ++ (codes " authenticator: packet " ++ (encode_lower hop.mac ++ (codes ", " ++ (codes "right under the key in use: " ++ (encode_lower right ++ t))))))
    (append-nil before ∙ same_before)
    ∙ ap (λ (m : List ℕ). decimal shown ++ (codes " authenticator: packet " ++ (encode_lower hop.mac ++ (codes ", " ++ (codes "right under the key in use: " ++ (encode_lower m ++ before_text info hop (slice_get view.keys 1))))))) same_right
    ∙ ap (λ (n : ℕ). decimal n ++ (codes " authenticator: packet " ++ (encode_lower hop.mac ++ (codes ", " ++ (codes "right under the key in use: " ++ (encode_lower (mac_under info hop (key_in_use view.keys)) ++ before_text info hop (slice_get view.keys 1))))))) same_number
