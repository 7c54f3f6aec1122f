-- The parts of the front are added.
use Rattle.std.proofs.Common.{◌≡◌, ◌++◌, take}
use Rattle.std.specs.String.{string_bytes}
use Rattle.packet_view.specs.inner.Part.{parts_text}
use Rattle.packet_view.proofs.part.add_parts.Given as goal

abbrev pub invariant-loop-part : goal.invariant-loop-part
invariant-loop-part l = string_bytes l.text ≡ string_bytes l.initial.text ++ parts_text (take l.part-index l.parts)
