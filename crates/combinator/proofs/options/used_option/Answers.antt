use Rattle.std.proofs.Common.{subst, sym}
use Rattle.path_verifier.specs.Accepted.{NamesOnce}
use Rattle.path_verifier.specs.Walk.{walk_of}
use Rattle.combinator.proofs.Growing.{none_named}
use Rattle.combinator.proofs.Wanted.{none_left}
use Rattle.combinator.proofs.options.used_option.Goals as goal

pub try_behind-requires-clause-walk : goal.try_behind-requires-clause-walk
unfolding walk_of
try_behind-requires-clause-walk g c = c.new-walk.ensures

pub try_behind-requires-clause-once : goal.try_behind-requires-clause-once
try_behind-requires-clause-once g c = subst NamesOnce (sym c.new-walk.ensures) none_named

pub returns-clause-none : goal.returns-clause-none
returns-clause-none g c =
    let ask = c.args.request.now in
    none_left ask.set.now ask.src ask.dst ask.options.now c.args.groups.now c.requires.search c.try_behind.result c.try_behind.ensures.none
