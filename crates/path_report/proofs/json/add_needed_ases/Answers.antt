-- Part after part.
use Rattle.std.proofs.Common.{◌≡◌, ◌++◌, ℕ, List, codes, ap, ◌∙◌, subst}
use Rattle.std.specs.Prelude.{OnOk, Result, Ok, Err, if◌then◌else◌, is_ok}
use Rattle.std.specs.String.{string_bytes}
use Rattle.std.proofs.lemmas.List.{append_assoc}
use Rattle.path_report.specs.Json.{address_json, ases_json, items_json}
use Rattle.path_report.proofs.json.add_needed_ases.Goals as goal

-- what a text is if a write went well
when_ok : {A E : Type 0} (r : Result A E) (x y z : List ℕ) → x ≡ (if is_ok r then y else z) → OnOk r (x ≡ y)
when_ok (Ok done) x y z is = is
when_ok (Err fault) x y z is = tt

pub returns : goal.returns
unfolding ases_json
returns c =
    let text : List ℕ = string_bytes c.args.text.now in
    let name : List ℕ = codes ",\"through\":[" in
    let items : List ℕ = items_json address_json c.args.ases.now in
    let parts = ap (λ (t : List ℕ). t ++ codes "]")
    (c.in_ok-add_addresses.ensures ∙ ap (λ (t : List ℕ). t ++ items) c.in_ok-push_str.ensures.bytes)
    ∙ append_assoc (text ++ name) items (codes "]") ∙ append_assoc text name (items ++ codes "]") in
    subst (λ (t : List ℕ). OnOk c.push_str-2.result (string_bytes c.push_str-2.new.self ≡ t)) parts
    (when_ok c.push_str-2.result (string_bytes c.push_str-2.new.self) (string_bytes c.add_addresses.new.text ++ codes "]")
    (string_bytes c.add_addresses.new.text) c.push_str-2.ensures.bytes)
