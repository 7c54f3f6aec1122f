-- What is left of the checks comes behind the text so far.
use Rattle.std.proofs.Common.{◌≡◌, ◌++◌, drop}
use Rattle.std.specs.String.{string_bytes}
use Rattle.packet_view.specs.Lines.{checks_text}
use Rattle.packet_view.proofs.lines.checks_text.Given as goal

abbrev pub invariant-loop-check : goal.invariant-loop-check
invariant-loop-check l =
    checks_text l.checks ≡ string_bytes l.text ++ checks_text (drop l.check-index l.checks)
