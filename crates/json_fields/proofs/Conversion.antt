-- What `of_json` makes of a value: its data, if each number can be read.
use Rattle.std.proofs.Common.{◌≡◌, Bool, true, false, cond, ◌&&◌, Option, Some, None, option_map, option_and_then, is_some, unwrap_or, refl, ap, ◌∙◌}
use Rattle.json.specs.Json as json
use Rattle.serde_json.specs.Data.{Num, Data, null, number, array, object, Items, item, Members, no_members, put}
use Rattle.serde_json.specs.Read.{number_of, of_json, of_items, of_members}
use Rattle.json_fields.specs.Data.{data_of, items_of, members_of}
use Rattle.json_fields.specs.inner.Numbers.{readable, items_readable, members_readable}

-- a value, if a test passes
abbrev only_if : {A : Type 0} → Bool → A → Option A
only_if b a = cond b (Some a) None

number_only : (o : Option Num) → option_map number o ≡ only_if (is_some o) (unwrap_or (option_map number o) null)
number_only None = refl
number_only (Some n) = refl

mapped : {A B : Type 0} (f : A → B) (b : Bool) (a : A) → option_map f (only_if b a) ≡ only_if b (f a)
mapped f true a = refl
mapped f false a = refl

both_items : (b c : Bool) (d : Data) (ds : Items) → option_and_then (λ x. option_map (item x) (only_if c ds)) (only_if b d) ≡ only_if (b && c) (item d ds)
both_items true true d ds = refl
both_items true false d ds = refl
both_items false c d ds = refl

both_members : (b c : Bool) (d : Data) (next : Data → Option Members) (ms : Members) → next d ≡ only_if c ms → option_and_then next (only_if b d) ≡ only_if (b && c) ms
both_members true c d next ms e = e
both_members false c d next ms e = refl

mutual
  pub of_json_is : (j : json.Json) → of_json j ≡ only_if (readable j) (data_of j)
  of_json_is json.null = refl
  of_json_is (json.boolean b) = refl
  of_json_is (json.number s) = number_only (number_of s)
  of_json_is (json.string s) = refl
  of_json_is (json.array js) = ap (option_map array) (of_items_is js) ∙ mapped array (items_readable js) (items_of js)
  of_json_is (json.object ms) = ap (option_map object) (of_members_is ms no_members) ∙ mapped object (members_readable ms) (members_of ms no_members)

  of_items_is : (js : json.Items) → of_items js ≡ only_if (items_readable js) (items_of js)
  of_items_is json.no_items = refl
  of_items_is (json.item j js) = rw (of_json_is j, of_items_is js) (both_items (readable j) (items_readable js) (data_of j) (items_of js))

  of_members_is : (ms : json.Members) (found : Members) → of_members ms found ≡ only_if (members_readable ms) (members_of ms found)
  of_members_is json.no_members found = refl
  of_members_is (json.member k j ms) found =
      rw (of_json_is j) (both_members (readable j) (members_readable ms) (data_of j) (λ d. of_members ms (put k d found)) (members_of ms (put k (data_of j) found)) (of_members_is ms (put k (data_of j) found)))
