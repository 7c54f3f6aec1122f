use Rattle.combinator.proofs.usable_piece.begins_with.Given as goal

abbrev pub invariant-loop-place : goal.invariant-loop-place
invariant-loop-place l = Unit {0}
