use Rattle.std.proofs.Common.{length, refl, sym, arith}
use Rattle.std.proofs.lemmas.Option.{slice_get_read}
use Rattle.serde_json.specs.View.{view}
use Rattle.event_lines.specs.Members.{no_text}
use Rattle.event_lines.proofs.PolicyFormed.{first_there, no_text_is, none_there}
use Rattle.event_lines.proofs.policy_misfit.first_no_text.Goals as goal

pub returns-then-not-is_string : goal.returns-then-not-is_string
returns-then-not-is_string c =
    let entries = c.args.entries.now in
    let number = c.loop-number.number in
    let entry = c.index-entries-number.result in
    let here = slice_get_read entries (length entries) number entry refl c.loop-number-test.true
    c.index-entries-number.is in
    let gives = no_text_is number (view entry) c.is_string.result c.is_string.ensures
    c.if-not-is_string.true in
    sym (first_there _ no_text entries number entry number c.loop-number.invariant here gives)

pub returns : goal.returns
returns c =
    sym (none_there _ no_text c.args.entries.now (λ k entry less there.
    c.loop-number.invariant k entry (omega (arith, less, c.loop-number-test.false)) there))
