use Rattle.std.proofs.Common.{[], ap, subst, sym}
use Rattle.path_verifier.specs.Accepted.{NamesOnce}
use Rattle.path_verifier.specs.Walk.{walk_of}
use Rattle.combinator.specs.Candidate.{Question}
use Rattle.combinator.specs.inner.Gathered.{IsListed}
use Rattle.combinator.specs.inner.Over.{OfChoices, OfEachOver}
use Rattle.combinator.proofs.Gathered.{are_walks}
use Rattle.combinator.proofs.Growing.{none_named}
use Rattle.combinator.proofs.walks.gathered.Goals as goal

pub try_behind-requires-clause-walk : goal.try_behind-requires-clause-walk
unfolding walk_of
try_behind-requires-clause-walk g c = c.new-walk.ensures

pub try_behind-requires-clause-once : goal.try_behind-requires-clause-once
try_behind-requires-clause-once g c = subst NamesOnce (sym c.new-walk.ensures) none_named

pub returns : goal.returns
returns g c =
    let question = c.args.ask.now in
    let walks = c.try_behind.new.walks in
    are_walks question c.args.limit c.args.groups.now c.requires walks c.in_ok-try_behind.ensures.gathered
    (subst (OfEachOver (OfChoices (IsListed question c.args.limit walks)) c.args.groups.now 3 [])
    (ap (λ (q : Question). q.src) c.ask.view_is) c.in_ok-try_behind.ensures.listed)
