use Rattle.std.proofs.Common.{arith, ◌<◌, ap, get_or, length, set, ◌∙◌}
use Rattle.beacon_lines.specs.Lines.{byte_in_line}
use Rattle.beacon_lines.proofs.InLine.{all_in_line, line_up_to, next_as_was, next_in_line}
use Rattle.beacon_lines.proofs.lines.to_one_line.Goals as goal

pub loop-byte-preserved : goal.loop-byte-preserved
loop-byte-preserved c =
    let bytes = c.args.bytes.now in
    let i = c.loop-byte.byte-index in
    let within : i < length bytes = omega arith in
    let was = ap (λ l. get_or l i 0) c.loop-byte.invariant ∙ next_as_was bytes i within in
    ap (λ l. set l i c.byte_in_line.result) c.loop-byte.invariant
    ∙ next_in_line bytes i c.byte_in_line.result within
    (c.byte_in_line.ensures ∙ ap byte_in_line was)

pub returns : goal.returns
returns c =
    c.loop-byte.invariant ∙ ap (line_up_to c.args.bytes.now) (omega arith)
    ∙ all_in_line c.args.bytes.now
