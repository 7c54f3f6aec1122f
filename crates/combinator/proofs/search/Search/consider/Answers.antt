use Rattle.std.proofs.Common.{◌≡◌, true, false, List, All, sym, ap, subst, ◌∙◌, arith}
use Rattle.path_verifier.specs.Accepted.{AreLive}
use Rattle.path_verifier.specs.Walk.{walk_of}
use Rattle.combinator.specs.Candidate.{PathValue, IsOf}
use Rattle.combinator.specs.Order.{path_cmp}
use Rattle.combinator.specs.Answer.{IsBest}
use Rattle.combinator.specs.inner.Front.{groups_in, pieces_in}
use Rattle.combinator.specs.inner.Group.{heads_of}
use Rattle.combinator.specs.inner.Placed.{Met}
use Rattle.combinator.proofs.Choices.{heads_there}
use Rattle.combinator.proofs.Facts.{all_twice, met_where_none}
use Rattle.combinator.proofs.Growing.{grown, not_once, restored, roomy}
use Rattle.combinator.proofs.Over.{best_count, best_live, best_own, met_best, met_not_best, one_walk}
use Rattle.combinator.proofs.search.Search.consider.Goals as goal

pub of-found-requires : goal.of-found-requires
of-found-requires g c =
    let front = c.requires.front in
    let few = c.requires.few in
    let same = best_count c.args.self.now.ask.now (groups_in c.args.front.now) front.are front.live front.own
    (pieces_in c.best.result) c.best.ensures in
    omega (arith, few, same)

pub returns-then-is_met-clause-met : goal.returns-then-is_met-clause-met
returns-then-is_met-clause-met g c =
    let front = c.requires.front in
    let limit = c.args.self.now.limit in
    let kept = c.args.state.now.kept.items in
    met_best c.args.self.now.ask.now (groups_in c.args.front.now) front.are front.live front.own
    (pieces_in c.best.result) c.best.ensures limit kept c.requires.search.spelled
    (subst (Met path_cmp limit kept) c.of-found.ensures
    (subst (λ (paths : List PathValue). Met path_cmp limit paths c.of-found.result) c.deref.ensures.value (c.is_met.ensures c.if-is_met.true)))

pub go_on_by-requires-clause-few : goal.go_on_by-requires-clause-few
go_on_by-requires-clause-few g c =
    let on = c.requires.walk in
    roomy on.front c.args.group.now (groups_in c.args.front.now) on.same c.args.state.now.walk on.own c.requires.few
    c.piece.result (c.piece.ensures.value ∙ c.head.ensures)

pub returns-then-not-go_on_by-clause-walk : goal.returns-then-not-go_on_by-clause-walk
returns-then-not-go_on_by-clause-walk g c =
    let on = c.requires.walk in
    let groups = groups_in c.args.front.now in
    let piece = c.piece.ensures.value ∙ c.head.ensures in
    c.shorten.ensures
    ∙ restored on.front c.args.group.now groups on.same c.args.state.now.walk on.own c.go_on_by.new.self c.len-len.result
    (c.go_on_by.ensures.walk ∙ grown on.front c.args.group.now groups on.same c.args.state.now.walk on.own c.piece.result piece)
    c.len-len.ensures

pub returns-then-not-go_on_by-clause-met : goal.returns-then-not-go_on_by-clause-met
returns-then-not-go_on_by-clause-met g c =
    let question = c.args.self.now.ask.now in
    let on = c.requires.walk in
    let groups = groups_in c.args.front.now in
    let piece = c.piece.ensures.value ∙ c.head.ensures in
    met_where_none question c.args.self.now.limit c.args.state.now.kept.items groups
    (all_twice question groups c.requires.front.are
    (not_once on.front c.args.group.now groups on.same c.args.state.now.walk on.own c.go_on_by.new.self
    (c.go_on_by.ensures.walk ∙ grown on.front c.args.group.now groups on.same c.args.state.now.walk on.own c.piece.result piece)
    c.go_on_by.result c.if-not-go_on_by.true (c.go_on_by.ensures.once c.requires.once)))

pub is_best-requires-clause-own : goal.is_best-requires-clause-own
is_best-requires-clause-own g c =
    let front = c.requires.front in
    let question = c.args.self.now.ask.now in
    subst (λ (path : PathValue). All (IsOf question.set) path.pieces) (sym c.of-found.ensures)
    (best_own question (groups_in c.args.front.now) front.are front.live front.own (pieces_in c.best.result) c.best.ensures)

pub is_best-requires-clause-live : goal.is_best-requires-clause-live
is_best-requires-clause-live g c =
    let front = c.requires.front in
    let question = c.args.self.now.ask.now in
    subst (λ (path : PathValue). AreLive question.set.moment path.pieces) (sym c.of-found.ensures)
    (best_live question (groups_in c.args.front.now) front.are front.live front.own (pieces_in c.best.result) c.best.ensures)

pub is_best-requires-clause-walk : goal.is_best-requires-clause-walk
is_best-requires-clause-walk g c =
    let front = c.requires.front in
    let on = c.requires.walk in
    let groups = groups_in c.args.front.now in
    let piece = c.piece.ensures.value ∙ c.head.ensures in
    c.go_on_by.ensures.walk
    ∙ grown on.front c.args.group.now groups on.same c.args.state.now.walk on.own c.piece.result piece
    ∙ one_walk c.args.self.now.ask.now groups front.are front.live front.own (pieces_in c.best.result) c.best.ensures
    (heads_of groups) (heads_there groups front.are)
    ∙ ap (λ (path : PathValue). walk_of path.pieces) (sym c.of-found.ensures)

pub is_best-requires-clause-once : goal.is_best-requires-clause-once
is_best-requires-clause-once g c = (c.go_on_by.ensures.once c.requires.once).0 c.if-not-go_on_by.false

pub returns-then-not-is_best-clause-walk : goal.returns-then-not-is_best-clause-walk
returns-then-not-is_best-clause-walk g c =
    let on = c.requires.walk in
    let groups = groups_in c.args.front.now in
    let piece = c.piece.ensures.value ∙ c.head.ensures in
    c.shorten-then-not-is_best.ensures
    ∙ restored on.front c.args.group.now groups on.same c.args.state.now.walk on.own c.go_on_by.new.self c.len-len.result
    (c.go_on_by.ensures.walk ∙ grown on.front c.args.group.now groups on.same c.args.state.now.walk on.own c.piece.result piece)
    c.len-len.ensures

pub returns-then-not-is_best-clause-met : goal.returns-then-not-is_best-clause-met
returns-then-not-is_best-clause-met g c =
    let front = c.requires.front in
    let question = c.args.self.now.ask.now in
    met_not_best question (groups_in c.args.front.now) front.are front.live front.own
    (pieces_in c.best.result) c.best.ensures c.args.self.now.limit c.args.state.now.kept.items
    (λ best. (
    let yes = c.is_best.ensures.1 (subst (IsBest question) (sym c.of-found.ensures) best) in
    let clash : true ≡ false = sym yes ∙ c.if-not-is_best.true in
    cc))

pub returns-clause-walk : goal.returns-clause-walk
returns-clause-walk g c =
    let on = c.requires.walk in
    let groups = groups_in c.args.front.now in
    let piece = c.piece.ensures.value ∙ c.head.ensures in
    c.shorten-2.ensures
    ∙ restored on.front c.args.group.now groups on.same c.args.state.now.walk on.own c.go_on_by.new.self c.len-len.result
    (c.go_on_by.ensures.walk ∙ grown on.front c.args.group.now groups on.same c.args.state.now.walk on.own c.piece.result piece)
    c.len-len.ensures

pub returns-clause-kept : goal.returns-clause-kept
returns-clause-kept g c = record {
  order = c.in_ok-take_in.ensures.order;
  few = c.in_ok-take_in.ensures.few;
  best = c.in_ok-take_in.ensures.best c.args.self.now.ask.now c.requires.kept.best (c.is_best.ensures.0 c.if-not-is_best.false);
}

pub returns-clause-met : goal.returns-clause-met
returns-clause-met g c =
    let front = c.requires.front in
    let limit = c.args.self.now.limit in
    met_best c.args.self.now.ask.now (groups_in c.args.front.now) front.are front.live front.own
    (pieces_in c.best.result) c.best.ensures limit c.take_in.new.ordered.items c.requires.search.spelled
    (subst (Met path_cmp limit c.take_in.new.ordered.items) c.of-found.ensures c.in_ok-take_in.ensures.met)
