use Rattle.path_header.specs.Spelling.{hop_spelling, HopFits}
use Rattle.path_header.proofs.Room.{Written}
use Rattle.path_header.proofs.writing.put_hops.Given as goal

abbrev pub invariant-loop-i : goal.invariant-loop-i
invariant-loop-i l = Written hop_spelling 12 HopFits l.hops l.initial.room l.room l.at l.i
