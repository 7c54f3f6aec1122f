use Rattle.std.proofs.Common.{◌≡◌, true, false, sym, ap, subst, ◌∙◌, arith}
use Rattle.path_verifier.specs.Walk.{walk_of}
use Rattle.path_verifier.specs.Accepted.{MakesPath}
use Rattle.combinator.specs.Candidate.{PathValue}
use Rattle.combinator.specs.inner.Front.{groups_in, pieces_in}
use Rattle.combinator.specs.inner.Search.{IsNoWorse}
use Rattle.combinator.proofs.Facts.{no_better_where_none, too_long}
use Rattle.combinator.proofs.Over.{best_count, no_better_best, no_better_refused, no_better_apart, better_not_best}
use Rattle.combinator.proofs.Ranks.{same_walk, walk_itself}
use Rattle.combinator.proofs.search.Search.is_better.Goals as goal

pub returns-then-hop_count-gt-MAX_HOPS-clause-none : goal.returns-then-hop_count-gt-MAX_HOPS-clause-none
returns-then-hop_count-gt-MAX_HOPS-clause-none g c = λ _.
    let groups = groups_in c.args.front.now in
    let long = c.if-hop_count-gt-MAX_HOPS.true in
    let count = c.hop_count.ensures.value in
    no_better_where_none c.args.self.now.ask.now c.args.found.now groups
    (too_long c.args.self.now.ask.now groups c.requires.front.are (omega (arith, long, count)))

pub of-rival-requires : goal.of-rival-requires
of-rival-requires g c =
    let front = c.requires.front in
    let few = c.if-hop_count-gt-MAX_HOPS.false in
    let count = c.hop_count.ensures.value in
    let same = best_count c.args.self.now.ask.now (groups_in c.args.front.now) front.are front.live front.own
    (pieces_in c.best.result) c.best.ensures in
    omega (arith, few, count, same)

pub returns-then-not-is_worse-clause-none : goal.returns-then-not-is_worse-clause-none
returns-then-not-is_worse-clause-none g c = λ _.
    let front = c.requires.front in
    no_better_best c.args.self.now.ask.now (groups_in c.args.front.now) front.are front.live front.own
    (pieces_in c.best.result) c.best.ensures c.args.found.now
    (subst (IsNoWorse c.args.found.now) c.of-rival.ensures (c.is_worse.ensures.no_worse c.if-not-is_worse.true))

pub returns-then-not-makes_path-clause-none : goal.returns-then-not-makes_path-clause-none
returns-then-not-makes_path-clause-none g c = λ _.
    let front = c.requires.front in
    let question = c.args.self.now.ask.now in
    no_better_refused question (groups_in c.args.front.now) front.are front.live front.own
    (pieces_in c.best.result) c.best.ensures c.args.found.now
    (λ path. (
    let yes = c.makes_path.ensures.path.1 (subst (λ (p : PathValue). MakesPath p.pieces question.src question.dst question.set.moment) (sym c.of-rival.ensures) path) in
    let clash : true ≡ false = sym yes ∙ c.if-not-makes_path.true in
    cc))

pub returns-in-Equal-clause-better : goal.returns-in-Equal-clause-better
returns-in-Equal-clause-better g c = λ _.
    let front = c.requires.front in
    let question = c.args.self.now.ask.now in
    let rival = ap (λ (p : PathValue). p.pieces) c.of-rival.ensures in
    let walk : walk_of (pieces_in c.best.result) ≡ walk_of c.args.found.now.pieces =
    ap walk_of (sym rival) ∙ sym (c.makes_path.ensures.walk c.if-not-makes_path.false) ∙ sym c.as_slice.ensures.value
    ∙ same_walk c.as_slice.result.now c.args.walk.now (sym c.compare_walks.ensures ∙ c.in-Equal.is) ∙ c.requires.walk in
    better_not_best question (groups_in c.args.front.now) front.are front.live front.own
    (pieces_in c.best.result) c.best.ensures c.args.found.now c.requires.candidate
    (subst (λ (p : PathValue). MakesPath p.pieces question.src question.dst question.set.moment) c.of-rival.ensures (c.makes_path.ensures.path.0 c.if-not-makes_path.false))
    walk
    (subst (λ (p : PathValue). ¬ (IsNoWorse c.args.found.now p)) c.of-rival.ensures (c.is_worse.ensures.worse c.if-not-is_worse.false))

pub returns-in_default : goal.returns-in_default
returns-in_default g c = record {
  better = λ never. (let clash : false ≡ true = never in cc);
  none = λ _.
      let front = c.requires.front in
      let rival = ap (λ (p : PathValue). p.pieces) c.of-rival.ensures in
      no_better_apart c.args.self.now.ask.now (groups_in c.args.front.now) front.are front.live front.own
      (pieces_in c.best.result) c.best.ensures c.args.found.now
      (λ walk. c.in_default.not-Equal (c.compare_walks.ensures
      ∙ walk_itself c.as_slice.result.now c.args.walk.now
      (c.as_slice.ensures.value ∙ c.makes_path.ensures.walk c.if-not-makes_path.false ∙ ap walk_of rival ∙ walk ∙ sym c.requires.walk)));
}
