use Rattle.std.proofs.Common.{◌≡◌, ◌+◌, ◌++◌, length, drop}
use Rattle.path_verifier.specs.Header.{fields_of}
use Rattle.path_verifier.proofs.header.push_fields.Given as goal

-- the fields so far and those to come are all
abbrev pub invariant-loop-place : goal.invariant-loop-place
invariant-loop-place l = record {
  told : l.fields.items ++ drop l.place (fields_of l.piece) ≡ l.initial.fields.items ++ fields_of l.piece;
  count : length l.fields.items ≡ length l.initial.fields.items + l.place;
}
