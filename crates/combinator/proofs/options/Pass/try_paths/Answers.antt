use Rattle.std.proofs.Common.{◌≡◌, List, Some, sym, ap, subst, ◌∙◌}
use Rattle.std.specs.Prelude.{◌⊎◌, IfSome}
use Rattle.path_verifier.specs.Accepted.{AreLive, MakesPath}
use Rattle.path_verifier.specs.Piece.{PieceValue}
use Rattle.path_verifier.specs.Walk.{walk_of}
use Rattle.combinator.specs.Answer.{question_under}
use Rattle.combinator.specs.Candidate.{question_of}
use Rattle.combinator.specs.inner.Choice.{IsAllowed}
use Rattle.combinator.specs.inner.Front.{groups_in}
use Rattle.combinator.specs.inner.Group.{heads_of}
use Rattle.combinator.proofs.Choices.{heads_there}
use Rattle.combinator.proofs.Facts.{all_twice}
use Rattle.combinator.proofs.Growing.{grown, not_once, restored, roomy}
use Rattle.combinator.proofs.Over.{live_there}
use Rattle.combinator.proofs.Wanted.{any_rules, leaves_on, passed_if_path, passed_where_none, within_of}
use Rattle.combinator.proofs.options.Pass.try_paths.Goals as goal

pub go_on_by-requires-clause-few : goal.go_on_by-requires-clause-few
go_on_by-requires-clause-few g c =
    let on = c.requires.walk in
    roomy on.front c.args.group.now (groups_in c.args.front.now) on.same c.args.walk.now on.own c.requires.few
    c.piece.result (c.piece.ensures.value ∙ c.head.ensures)

pub returns-then-not-go_on_by-clause-walk : goal.returns-then-not-go_on_by-clause-walk
returns-then-not-go_on_by-clause-walk g c =
    let on = c.requires.walk in
    let groups = groups_in c.args.front.now in
    let piece = c.piece.ensures.value ∙ c.head.ensures in
    c.shorten.ensures
    ∙ restored on.front c.args.group.now groups on.same c.args.walk.now on.own c.go_on_by.new.self c.len-len.result
    (c.go_on_by.ensures.walk ∙ grown on.front c.args.group.now groups on.same c.args.walk.now on.own c.piece.result piece)
    c.len-len.ensures

pub returns-then-not-go_on_by-clause-none : goal.returns-then-not-go_on_by-clause-none
returns-then-not-go_on_by-clause-none g c =
    let ask = c.args.self.now.request.now in
    let on = c.requires.walk in
    let groups = groups_in c.args.front.now in
    let piece = c.piece.ensures.value ∙ c.head.ensures in
    let never = not_once on.front c.args.group.now groups on.same c.args.walk.now on.own c.go_on_by.new.self
    (c.go_on_by.ensures.walk ∙ grown on.front c.args.group.now groups on.same c.args.walk.now on.own c.piece.result piece)
    c.go_on_by.result c.if-not-go_on_by.true (c.go_on_by.ensures.once c.requires.once) in
    passed_where_none ask.set.now ask.src ask.dst ask.options.now c.args.best groups
    (λ rules. all_twice (question_of ask.set.now ask.src ask.dst rules) groups (c.requires.front rules).are never)

pub best_on-next-requires-clause-held : goal.best_on-next-requires-clause-held
best_on-next-requires-clause-held g c =
    let ask = c.args.self.now.request.now in
    within_of (question_under ask.set.now ask.src ask.dst) ask.options.now c.args.best c.requires.leaves

pub best_on-next-requires-clause-walk : goal.best_on-next-requires-clause-walk
best_on-next-requires-clause-walk g c =
    let on = c.requires.walk in
    c.go_on_by.ensures.walk
    ∙ grown on.front c.args.group.now (groups_in c.args.front.now) on.same c.args.walk.now on.own
    c.piece.result (c.piece.ensures.value ∙ c.head.ensures)
    ∙ ap walk_of (sym (c.pieces.ensures ∙ c.heads.ensures))

pub best_on-next-requires-clause-live : goal.best_on-next-requires-clause-live
best_on-next-requires-clause-live g c =
    let moment = c.args.self.now.request.now.set.now.moment in
    let groups = groups_in c.args.front.now in
    let are = c.requires.front any_rules in
    subst (AreLive moment) (sym (c.pieces.ensures ∙ c.heads.ensures))
    (live_there moment groups (heads_of groups) are.live (heads_there groups are.are))

pub best_on-next-requires-clause-once : goal.best_on-next-requires-clause-once
best_on-next-requires-clause-once g c = (c.go_on_by.ensures.once c.requires.once).0 c.if-not-go_on_by.false

pub returns-clause-walk : goal.returns-clause-walk
returns-clause-walk g c =
    let on = c.requires.walk in
    let groups = groups_in c.args.front.now in
    let piece = c.piece.ensures.value ∙ c.head.ensures in
    c.shorten-2.ensures
    ∙ restored on.front c.args.group.now groups on.same c.args.walk.now on.own c.go_on_by.new.self c.len-len.result
    (c.go_on_by.ensures.walk ∙ grown on.front c.args.group.now groups on.same c.args.walk.now on.own c.piece.result piece)
    c.len-len.ensures

pub returns-clause-leaves : goal.returns-clause-leaves
returns-clause-leaves g c =
    let ask = c.args.self.now.request.now in
    let on = c.requires.walk in
    let groups = groups_in c.args.front.now in
    let walk = c.go_on_by.new.self in
    let is_walk = c.go_on_by.ensures.walk
    ∙ grown on.front c.args.group.now groups on.same c.args.walk.now on.own c.piece.result (c.piece.ensures.value ∙ c.head.ensures) in
    leaves_on ask.set.now ask.src ask.dst ask.options.now groups c.requires.front walk is_walk
    c.args.best c.best_on-next.result c.requires.leaves
    (subst (λ (ps : List PieceValue). IfSome c.best_on-next.result (λ place. (c.args.best ≡ Some place)
    ⊎ (MakesPath ps ask.src ask.dst ask.set.now.moment × IsAllowed ask.options.now walk place)))
    (c.pieces.ensures ∙ c.heads.ensures) c.best_on-next.ensures.allowed)

pub returns-clause-none : goal.returns-clause-none
returns-clause-none g c =
    let ask = c.args.self.now.request.now in
    let on = c.requires.walk in
    let groups = groups_in c.args.front.now in
    let walk = c.go_on_by.new.self in
    let is_walk = c.go_on_by.ensures.walk
    ∙ grown on.front c.args.group.now groups on.same c.args.walk.now on.own c.piece.result (c.piece.ensures.value ∙ c.head.ensures) in
    passed_if_path ask.set.now ask.src ask.dst ask.options.now groups c.requires.front walk is_walk c.best_on-next.result
    (λ path. c.best_on-next.ensures.none
    (subst (λ (ps : List PieceValue). MakesPath ps ask.src ask.dst ask.set.now.moment) (sym (c.pieces.ensures ∙ c.heads.ensures)) path))
