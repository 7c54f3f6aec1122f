use Rattle.std.proofs.Common.{◌≡◌, ◌++◌, map, take, drop}
use Rattle.path_header.specs.Reversal.{turned_info}
use Rattle.path_header.proofs.reversal.turn.Given as goal

abbrev pub invariant-loop-info : goal.invariant-loop-info
invariant-loop-info l = l.infos ≡ map turned_info (take l.info-index l.initial.infos) ++ drop l.info-index l.initial.infos
