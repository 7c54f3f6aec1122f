-- What a text says, by what was read of its tokens.
use Rattle.std.proofs.Common.{◌≡◌, ℕ, List, [], ◌∷◌, length, ◌==◌, true, false, cond, Option, Some, None, option_and_then, refl, sym, ap, ◌∙◌, arith, ne_eqb}
use Rattle.std.proofs.lemmas.Str.{is_utf8-from_IsUtf8}
use Rattle.std.specs.Str.{IsUtf8}
use Rattle.json.specs.Json.{Json, value, if_last}
use Rattle.json.specs.Lex.{tokens}
use Rattle.json.specs.Token.{Token}
use Rattle.serde_json.specs.Data.{Data}
use Rattle.serde_json.specs.Read.{read, of_json}
use Rattle.json_fields.specs.Fields.{document_in}
use Rattle.json_fields.specs.Data.{data_of}
use Rattle.json_fields.specs.inner.Numbers.{readable}
use Rattle.json_fields.proofs.Conversion.{of_json_is}

abbrev last_data : Option (Json × List Token) → Option Data
last_data found = option_and_then of_json (option_and_then (λ p. if_last p.0 p.1) found)

ends : (j : Json) (rest : List Token) → (length rest == 0) ≡ true → last_data (Some (j, rest)) ≡ of_json j
ends j [] e = refl
ends j (t ∷ more) e = let some = ne_eqb (length (t ∷ more)) 0 (λ z. omega arith) in absurd cc

goes_on : (j : Json) (rest : List Token) → (length rest == 0) ≡ false → last_data (Some (j, rest)) ≡ None
goes_on j [] e = absurd cc
goes_on j (t ∷ more) e = refl

-- the one value of a text, whose numbers can be read
pub read_whole : (text : List ℕ) (ts rest : List Token) (j : Json) → ts ≡ tokens text → value 127 ts ≡ Some (j, rest) → (length rest == 0) ≡ true → readable j ≡ true → read text ≡ Some (data_of j)
read_whole text ts rest j all is last good =
    ap (λ r. last_data (value 127 r)) (sym all) ∙ ap last_data is ∙ ends j rest last ∙ of_json_is j ∙ ap (λ b. cond b (Some (data_of j)) None) good

-- no value, where something follows it
pub more_none : (text : List ℕ) (ts rest : List Token) (j : Json) → ts ≡ tokens text → value 127 ts ≡ Some (j, rest) → (length rest == 0) ≡ false → read text ≡ None
more_none text ts rest j all is more =
    ap (λ r. last_data (value 127 r)) (sym all) ∙ ap last_data is ∙ goes_on j rest more

unreadable : (j : Json) (rest : List Token) → of_json j ≡ None → last_data (Some (j, rest)) ≡ None
unreadable j [] none = none
unreadable j (t ∷ more) none = refl

-- no value, where a number cannot be read
pub unreadable_none : (text : List ℕ) (ts rest : List Token) (j : Json) → ts ≡ tokens text → value 127 ts ≡ Some (j, rest) → readable j ≡ false → read text ≡ None
unreadable_none text ts rest j all is bad =
    ap (λ r. last_data (value 127 r)) (sym all) ∙ ap last_data is ∙ unreadable j rest (of_json_is j ∙ ap (λ b. cond b (Some (data_of j)) None) bad)

pub invalid_none : (text : List ℕ) (ts : List Token) → ts ≡ tokens text → value 127 ts ≡ None → read text ≡ None
invalid_none text ts all is = ap (λ r. last_data (value 127 r)) (sym all) ∙ ap last_data is

-- the document of bytes that are UTF-8
pub document_is : (bytes : List ℕ) → IsUtf8 bytes → read bytes ≡ document_in bytes
unfolding document_in
document_is bytes text = ap (λ b. cond b (read bytes) None) (sym (is_utf8-from_IsUtf8 bytes text))
