-- A member of the data is the data of the member.
use Rattle.std.proofs.Common.{◌≡◌, ℕ, List, Bool, true, false, cond, Option, Some, None, option_map, unwrap_or, bytes_eq, refl, sym, ap, ◌∙◌}
use Rattle.std.proofs.lemmas.Slice.Eq.{bytes_eq-Decides}
use Rattle.json.specs.Json as json
use Rattle.json.specs.Find as found
use Rattle.serde_json.specs.Data.{Num, Data, null, number, Members, no_members, put}
use Rattle.serde_json.specs.Find.{get, get_member}
use Rattle.serde_json.specs.Read.{number_of}
use Rattle.serde_json.proofs.Views.{get_member-put, get_member-put_other}
use Rattle.json_fields.specs.Data.{data_of, members_of}

-- the first of two that is there
abbrev or_else : Option Data → Option Data → Option Data
or_else None later = later
or_else (Some d) later = Some d

or_nothing : (o : Option Data) → or_else o None ≡ o
or_nothing None = refl
or_nothing (Some d) = refl

-- what was put is found under its own name alone
found_after : (b : Bool) (name k : List ℕ) (d : Data) (ms : Members) → bytes_eq k name ≡ b → get_member name (put k d ms) ≡ cond b (Some d) (get_member name ms)
found_after true name k d ms e =
    let same : k ≡ name = (bytes_eq-Decides k name).0 e in
    rw (sym same) (get_member-put k d ms)
found_after false name k d ms e = get_member-put_other name k d ms (λ same. (let yes = (bytes_eq-Decides k name).1 (sym same) in absurd cc))

latest : (o : Option json.Json) (b : Bool) (j : json.Json) (rest : Option Data) → or_else (option_map data_of o) (cond b (Some (data_of j)) rest) ≡ or_else (option_map data_of (found.later_or o (cond b (Some j) None))) rest
latest None true j rest = refl
latest None false j rest = refl
latest (Some i) b j rest = refl

members_found : (name : List ℕ) (ms : json.Members) (before : Members) → get_member name (members_of ms before) ≡ or_else (option_map data_of (found.get_member name ms)) (get_member name before)
members_found name json.no_members before = refl
members_found name (json.member k j ms) before =
    members_found name ms (put k (data_of j) before)
    ∙ ap (or_else (option_map data_of (found.get_member name ms))) (found_after (bytes_eq k name) name k (data_of j) before refl)
    ∙ latest (found.get_member name ms) (bytes_eq k name) j (get_member name before)

no_number_get : (name : List ℕ) (o : Option Num) → get name (unwrap_or (option_map number o) null) ≡ None
no_number_get name None = refl
no_number_get name (Some n) = refl

pub get-data_of : (name : List ℕ) (j : json.Json) → get name (data_of j) ≡ option_map data_of (found.get name j)
get-data_of name json.null = refl
get-data_of name (json.boolean b) = refl
get-data_of name (json.number s) = no_number_get name (number_of s)
get-data_of name (json.string s) = refl
get-data_of name (json.array js) = refl
get-data_of name (json.object ms) = members_found name ms no_members ∙ or_nothing (option_map data_of (found.get_member name ms))
