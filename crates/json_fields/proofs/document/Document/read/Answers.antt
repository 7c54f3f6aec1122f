use Rattle.std.proofs.Common.{◌≡◌, IfOk, option_map, sym, ap, ◌∙◌, subst, rules}
use Rattle.std.proofs.lemmas.Str.{is_utf8-from_IsUtf8}
use Rattle.serde_json.specs.Read.{read}
use Rattle.json_fields.proofs.Documents.{no_document}
use Rattle.json_fields.specs.Documents.{document_data}
use Rattle.json_fields.proofs.Texts.{document_is}
use Rattle.json_fields.proofs.document.Document.read.Goals as goal

pub returns-in_default-clause-value : goal.returns-in_default-clause-value
returns-in_default-clause-value c = sym (no_document c.args.bytes.now (λ text. absurd (c.in_default.ensures.cases.0 text)))

pub returns-clause-value : goal.returns-clause-value
returns-clause-value c =
    let same = c.in-Ok.ensures.cases.0 in
    let text = c.in-Ok.ensures.cases.1 in
    subst (λ d. IfOk c.read_text.result (λ found. option_map (λ d. document_data d) found ≡ d)) (ap read same ∙ document_is c.args.bytes.now text) c.read_text.ensures

pub returns-clause-wanted : goal.returns-clause-wanted
returns-clause-wanted c = let is = is_utf8-from_IsUtf8 c.args.bytes.now c.in-Ok.ensures.cases.1 in search rules
