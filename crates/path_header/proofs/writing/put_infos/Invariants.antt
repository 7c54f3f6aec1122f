use Rattle.path_header.specs.Spelling.{info_spelling, InfoFits}
use Rattle.path_header.proofs.Room.{Written}
use Rattle.path_header.proofs.writing.put_infos.Given as goal

abbrev pub invariant-loop-i : goal.invariant-loop-i
invariant-loop-i l = Written info_spelling 8 InfoFits l.infos l.initial.room l.room l.at l.i
