use Rattle.std.proofs.Common.{take, All}
use Rattle.path_segment.specs.declared.entry.Entry.{Entry}
use Rattle.path_header.specs.Spelling.{HopFits}
use Rattle.path_verifier.specs.Header.{field_of}
use Rattle.combinator.proofs.usable_piece.know_hops.Given as goal

abbrev pub invariant-loop-entry : goal.invariant-loop-entry
invariant-loop-entry l = All (λ (entry : Entry). HopFits (field_of entry)) (take l.entry-index l.entries)
