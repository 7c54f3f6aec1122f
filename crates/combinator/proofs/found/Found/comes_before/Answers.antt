use Rattle.std.proofs.Common.{◌+◌, ◌*◌, [], ◌∷◌, ◌++◌, subst, arith, ltb-true}
use Rattle.path_verifier.specs.Header.{header_of}
use Rattle.combinator.specs.Candidate.{PathValue, path_with}
use Rattle.combinator.specs.inner.Front.{groups_in, pieces_in}
use Rattle.combinator.specs.inner.Over.{OfChoices}
use Rattle.combinator.specs.inner.Search.{ComesBefore}
use Rattle.combinator.proofs.Before.{before_longer_choices, total_with}
use Rattle.combinator.proofs.Prefix.{both_groups}
use Rattle.combinator.proofs.Tried.{count_fields}
use Rattle.combinator.proofs.found.Found.comes_before.Goals as goal

pub returns-then-self-least : goal.returns-then-self-least
returns-then-self-least c = λ fewer.
    let mine = pieces_in c.self.inside.chosen in
    let groups = groups_in c.args.front.now ++ c.args.group.now ∷ [] in
    let less = ltb-true c.self.inside.hop_count (c.hop_count.result + c.len.result + 2 * c.args.further) fewer in
    let count = c.self.invariant.0 in
    let own = count_fields mine in
    let total = total_with (groups_in c.args.front.now) c.args.group.now in
    let front = c.hop_count.ensures.value in
    let last = c.len.ensures.value in
    subst (λ (path : PathValue). OfChoices (λ pieces. ComesBefore path pieces c.args.further) groups) c.self.view_is
    (before_longer_choices (path_with mine (header_of mine)) groups c.args.further
    (both_groups (groups_in c.args.front.now) (c.args.group.now ∷ []) c.known.ensures (c.known-2.ensures, tt))
    (omega (arith, less, count, own, total, front, last)))
