-- The text of the object of a finding, from the texts of its members.
use Rattle.std.proofs.Common.{◌≡◌, ◌∙◌, ℕ, List, [], ◌++◌, codes, Some, ap, append_assoc, refl}
use Rattle.serde_json.specs.Written.{compact_text}
use Rattle.serde_json.proofs.OnLiterals.{serde_json_on_literals}
use Rattle.line_faults.specs.Finding.{FindingValue, finding_object, number_or_null, text_or_null}

-- the text was empty before the rest
pub from_nothing : (text rest : List ℕ) → text ≡ [] → text ++ rest ≡ rest
from_nothing text rest is = ap (λ t. t ++ rest) is

-- a member, its name with what stands before and its value, was added before the rest
pub with_member : (text name json rest more : List ℕ) → more ≡ text ++ (name ++ json)
    → more ++ rest ≡ text ++ (name ++ (json ++ rest))
with_member text name json rest more is =
    ap (λ t. t ++ rest) is ∙ append_assoc text (name ++ json) rest
    ∙ ap (λ t. text ++ t) (append_assoc name json rest)

pub object_of : (f : FindingValue) (column found line member name refusal reply says wanted : List ℕ)
    → column ≡ compact_text (number_or_null f.column) → found ≡ compact_text (text_or_null f.found)
    → line ≡ compact_text (number_or_null (Some f.line))
    → member ≡ compact_text (text_or_null f.member) → name ≡ compact_text (text_or_null f.name)
    → refusal ≡ compact_text (number_or_null f.refusal) → reply ≡ compact_text (text_or_null f.reply)
    → says ≡ compact_text (text_or_null (Some f.says)) → wanted ≡ compact_text (text_or_null f.wanted)
    → codes "{\"column\":" ++ (column ++ (codes ",\"found\":" ++ (found ++ (codes ",\"line\":"
    ++ (line ++ (codes ",\"member\":" ++ (member ++ (codes ",\"name\":" ++ (name
    ++ (codes ",\"refusal\":" ++ (refusal ++ (codes ",\"reply\":" ++ (reply ++ (codes ",\"text\":"
    ++ (says ++ (codes ",\"wanted\":" ++ (wanted ++ codes "}")))))))))))))))))
    ≡ compact_text (finding_object f)
unfolding serde_json_on_literals finding_object
object_of f column found line member name refusal reply says wanted c fo l m n re rp s w =
    rw (c, fo, l, m, n, re, rp, s, w) refl
