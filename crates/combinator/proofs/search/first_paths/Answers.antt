use Rattle.std.proofs.Common.{subst, sym}
use Rattle.path_verifier.specs.Accepted.{NamesOnce}
use Rattle.path_verifier.specs.Walk.{walk_of}
use Rattle.combinator.proofs.Growing.{none_named}
use Rattle.combinator.proofs.search.first_paths.Goals as goal

pub try_behind-requires-clause-walk : goal.try_behind-requires-clause-walk
unfolding walk_of
try_behind-requires-clause-walk g c = c.new-2.ensures

pub try_behind-requires-clause-once : goal.try_behind-requires-clause-once
try_behind-requires-clause-once g c = subst NamesOnce (sym c.new-2.ensures) none_named
