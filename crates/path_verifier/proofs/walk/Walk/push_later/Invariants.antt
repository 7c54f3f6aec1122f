use Rattle.std.proofs.Common.{◌≡◌, ◌+◌, ◌-◌, ◌≤◌, ◌++◌, length, drop}
use Rattle.path_verifier.specs.Walk.{hops_of}
use Rattle.path_verifier.specs.Header.{len_of}
use Rattle.path_verifier.proofs.walk.Walk.push_later.Given as goal

-- the hops so far and those to come are all
abbrev pub invariant-loop-place : goal.invariant-loop-place
invariant-loop-place l = record {
  told : l.self ++ drop l.place (hops_of l.piece) ≡ l.initial.self ++ drop 1 (hops_of l.piece);
  room : length l.self + (len_of l.piece - l.place) ≤ 64;
}
