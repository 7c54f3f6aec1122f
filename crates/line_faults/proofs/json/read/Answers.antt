use Rattle.std.proofs.Common.{sym, ◌∙◌}
use Rattle.serde_json.specs.View.{view}
use Rattle.json_fields.proofs.Documents.{is_document, no_document}
use Rattle.line_faults.proofs.json.read.Goals as goal

pub returns-in-Ok : goal.returns-in-Ok
returns-in-Ok c =
    sym (is_document c.args.line.now (view c.in-Ok.value) c.in-Ok.ensures.ok.0 c.in-Ok.ensures.ok.1)

pub returns-in-Err-2 : goal.returns-in-Err-2
returns-in-Err-2 c =
    sym (no_document c.args.line.now (λ text.
    c.in-Err.ensures.err (λ memory. (let is = sym c.if-is_memory.false ∙ c.is_memory.ensures.1 memory in absurd cc)) text))
