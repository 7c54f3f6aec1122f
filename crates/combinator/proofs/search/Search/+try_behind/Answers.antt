use Rattle.std.proofs.Common.{◌≡◌, ◌-◌, ◌<◌, [], ◌∷◌, ◌++◌, List, length, true, false, refl, sym, ap, subst, eq-eqb, eqb-true, ◌∙◌, arith, length-append}
use Rattle.path_verifier.specs.Piece.{ends_in, kind_of}
use Rattle.policy_expr.specs.declared.hop.WalkHop.{WalkHop}
use Rattle.path_verifier.specs.Accepted.{MayAdjoin, NamesOnce}
use Rattle.path_verifier.specs.Header.{total_hops}
use Rattle.path_verifier.specs.Walk.{walk_of}
use Rattle.combinator.specs.Candidate.{Question, PathValue}
use Rattle.combinator.specs.inner.Front.{groups_in}
use Rattle.combinator.specs.inner.Group.{GroupValue, heads_of}
use Rattle.combinator.specs.inner.Over.{OfChoices}
use Rattle.combinator.specs.inner.Search.{AreBefore, IsMetBy}
use Rattle.combinator.proofs.Facts.{met_where_none}
use Rattle.combinator.proofs.Growing.{grown, not_once, restored, roomy}
use Rattle.combinator.proofs.Passing.{choices_met_on, elsewhere, all_behind, longer_behind}
use Rattle.combinator.proofs.Stepping.{barred_tried, end_tried, further_tried, here_is, last_tried, one_tried, there, too_many_tried, twice_tried}
use Rattle.combinator.proofs.Trying.{all_tried, for_more}
use Rattle.combinator.proofs.search.Search.+try_behind.Goals as goal

pub loop-group-preserved-then-not-may_go_on : goal.loop-group-preserved-then-not-may_go_on
loop-group-preserved-then-not-may_go_on g t c =
    let a = c.args in
    let question = a.self.now.ask.now in
    let limit = a.self.now.limit in
    let groups = a.self.now.groups.now in
    let front = groups_in a.front.now in
    let group = c.group-item.result in
    let kept = c.loop-group.state.kept.items in
    let fact = IsMetBy question limit kept in
    let bars = c.may_go_on.ensures c.if-not-may_go_on.true in record {
      walk = c.loop-group.invariant.walk;
      kept = c.loop-group.invariant.kept;
      still = c.loop-group.invariant.still;
      met = barred_tried question groups c.requires.search front c.requires.front (a.depth - 1) a.at c.groups_from-next_groups.result.now
          c.groups_from-next_groups.ensures c.loop-group.group-index group c.loop-group-test.true c.group-item.is
          fact fact (met_where_none question limit kept) (λ list fine. fine) c.loop-group.invariant.met
          bars.0 bars.1 bars.2 (λ may. bars.3 (subst (MayAdjoin (kind_of bars.1.head)) (sym c.kind.ensures) may));
    }

pub loop-group-preserved-then-is_behind : goal.loop-group-preserved-then-is_behind
loop-group-preserved-then-is_behind g t c =
    let a = c.args in
    let question = a.self.now.ask.now in
    let limit = a.self.now.limit in
    let groups = a.self.now.groups.now in
    let front = groups_in a.front.now in
    let group = c.group-item.result in
    let kept = c.loop-group.state.kept.items in
    let fact = IsMetBy question limit kept in
    let here = here_is question groups c.requires.search front c.requires.front (a.depth - 1) a.at c.groups_from-next_groups.result.now
    c.groups_from-next_groups.ensures c.loop-group.group-index group c.loop-group-test.true c.group-item.is in record {
      walk = c.loop-group.invariant.walk;
      kept = c.loop-group.invariant.kept;
      still = c.loop-group.invariant.still;
      met = one_tried question groups c.requires.search front c.requires.front (a.depth - 1) a.at c.groups_from-next_groups.result.now
          c.groups_from-next_groups.ensures c.loop-group.group-index group c.loop-group-test.true c.group-item.is
          fact fact (met_where_none question limit kept) (λ list fine. fine) c.loop-group.invariant.met
          (all_behind question limit kept groups c.requires.search.are.each front group c.requires.front.are here 0
          (subst (λ (paths : List PathValue). OfChoices (λ pieces. AreBefore limit paths pieces 0) (front ++ group ∷ [])) c.deref.ensures.value
          (c.is_behind.ensures c.if-is_behind.true)) refl (a.depth - 1) a.at);
    }

pub loop-group-preserved-then-hop_count-gt-MAX_HOPS : goal.loop-group-preserved-then-hop_count-gt-MAX_HOPS
loop-group-preserved-then-hop_count-gt-MAX_HOPS g t c =
    let a = c.args in
    let question = a.self.now.ask.now in
    let kept = c.loop-group.state.kept.items in
    let fact = IsMetBy question a.self.now.limit kept in
    let count = c.hop_count.ensures.value in
    let long = c.if-hop_count-gt-MAX_HOPS.true in record {
      walk = c.loop-group.invariant.walk;
      kept = c.loop-group.invariant.kept;
      still = c.loop-group.invariant.still;
      met = too_many_tried question a.self.now.groups.now c.requires.search (groups_in a.front.now) c.requires.front (a.depth - 1) a.at
          c.groups_from-next_groups.result.now c.groups_from-next_groups.ensures c.loop-group.group-index c.group-item.result
          c.loop-group-test.true c.group-item.is fact fact (met_where_none question a.self.now.limit kept) (λ list fine. fine)
          c.loop-group.invariant.met
          (subst (λ (gs : List GroupValue). 64 < total_hops (heads_of gs)) c.with-longer.ensures (omega (arith, count, long)));
    }

pub consider-requires-clause-walk : goal.consider-requires-clause-walk
consider-requires-clause-walk g t c = record {
  front = groups_in c.args.front.now;
  same = c.with-longer.ensures;
  own = c.loop-group.invariant.walk ∙ c.requires.walk;
}

pub consider-requires-clause-once : goal.consider-requires-clause-once
consider-requires-clause-once g t c = subst NamesOnce (sym c.loop-group.invariant.walk) c.requires.once

pub go_on_by-requires-clause-few : goal.go_on_by-requires-clause-few
go_on_by-requires-clause-few g t c =
    let count = c.hop_count.ensures.value in
    let few = c.if-hop_count-gt-MAX_HOPS.false in
    roomy (groups_in c.args.front.now) c.group-item.result (groups_in c.with-longer.result) c.with-longer.ensures c.loop-group.state.walk
    (c.loop-group.invariant.walk ∙ c.requires.walk) (omega (arith, count, few)) c.piece.result (c.piece.ensures.value ∙ c.head.ensures)

pub loop-group-preserved-then-not-go_on_by : goal.loop-group-preserved-then-not-go_on_by
loop-group-preserved-then-not-go_on_by g t c =
    let a = c.args in
    let question = a.self.now.ask.now in
    let front = groups_in a.front.now in
    let longer = groups_in c.with-longer.result in
    let kept = c.loop-group.state.kept.items in
    let fact = IsMetBy question a.self.now.limit kept in
    let own = c.loop-group.invariant.walk ∙ c.requires.walk in
    let more = c.go_on_by.ensures.walk
    ∙ grown front c.group-item.result longer c.with-longer.ensures c.loop-group.state.walk own c.piece.result (c.piece.ensures.value ∙ c.head.ensures) in
    let before = subst NamesOnce (sym c.loop-group.invariant.walk) c.requires.once in
    let never = not_once front c.group-item.result longer c.with-longer.ensures c.loop-group.state.walk own c.go_on_by.new.self more
    c.go_on_by.result c.if-not-go_on_by.true (c.go_on_by.ensures.once before) in record {
      walk = c.shorten.ensures
          ∙ restored front c.group-item.result longer c.with-longer.ensures c.loop-group.state.walk own c.go_on_by.new.self c.len-len.result more
          (c.len-len.ensures ∙ ap (λ (w : List WalkHop). length w) (sym c.loop-group.invariant.walk))
          ∙ c.loop-group.invariant.walk;
      kept = c.loop-group.invariant.kept;
      still = c.loop-group.invariant.still;
      met = twice_tried question a.self.now.groups.now c.requires.search front c.requires.front (a.depth - 1) a.at
          c.groups_from-next_groups.result.now c.groups_from-next_groups.ensures c.loop-group.group-index c.group-item.result
          c.loop-group-test.true c.group-item.is fact fact (met_where_none question a.self.now.limit kept) (λ list fine. fine)
          c.loop-group.invariant.met
          (subst (λ (gs : List GroupValue). ¬ (NamesOnce (walk_of (heads_of gs)))) c.with-longer.ensures never);
    }

pub consider-requires-clause-front : goal.consider-requires-clause-front
consider-requires-clause-front g t c =
    let a = c.args in
    let question = a.self.now.ask.now in
    let limit = a.self.now.limit in
    let groups = a.self.now.groups.now in
    let front = groups_in a.front.now in
    let group = c.group-item.result in
    for_more question groups c.requires.search front (groups_in c.with-longer.result) group
    (there question groups c.requires.search front c.requires.front (a.depth - 1) a.at c.groups_from-next_groups.result.now
    c.groups_from-next_groups.ensures c.loop-group.group-index group c.loop-group-test.true c.group-item.is)
    c.with-longer.ensures c.requires.front

pub loop-group-preserved-then-eq : goal.loop-group-preserved-then-eq
loop-group-preserved-then-eq g t c =
    let a = c.args in
    let question = a.self.now.ask.now in
    let limit = a.self.now.limit in
    let groups = a.self.now.groups.now in
    let front = groups_in a.front.now in
    let group = c.group-item.result in
    let old = c.loop-group.state.kept.items in
    let new = c.consider.new.state.kept.items in
    let dst : c.ask.inside.dst ≡ question.dst = ap (λ (q : Question). q.dst) c.ask.view_is in record {
      walk = c.in_ok-consider.ensures.walk ∙ c.loop-group.invariant.walk;
      kept = c.in_ok-consider.ensures.kept;
      still = λ path met. c.in_ok-consider.ensures.still path (c.loop-group.invariant.still path met);
      met = end_tried question groups c.requires.search front c.requires.front (a.depth - 1) a.at c.groups_from-next_groups.result.now
          c.groups_from-next_groups.ensures c.loop-group.group-index group c.loop-group-test.true c.group-item.is
          (IsMetBy question limit old) (IsMetBy question limit new) (met_where_none question limit new)
          (choices_met_on question limit old new c.in_ok-consider.ensures.still) c.loop-group.invariant.met
          (sym c.ends-end.ensures ∙ eqb-true c.ends-end.result c.ask.inside.dst (sym c.eq.ensures ∙ c.if-eq.true) ∙ dst)
          (groups_in c.with-longer.result) c.with-longer.ensures c.in_ok-consider.ensures.met;
    }

pub loop-group-preserved-then-depth-eq1 : goal.loop-group-preserved-then-depth-eq1
loop-group-preserved-then-depth-eq1 g t c =
    let a = c.args in
    let question = a.self.now.ask.now in
    let limit = a.self.now.limit in
    let groups = a.self.now.groups.now in
    let front = groups_in a.front.now in
    let group = c.group-item.result in
    let kept = c.loop-group.state.kept.items in
    let fact = IsMetBy question limit kept in
    let dst : c.ask.inside.dst ≡ question.dst = ap (λ (q : Question). q.dst) c.ask.view_is in
    let apart : ¬ (ends_in group.head ≡ question.dst) = λ same. (
    let clash : false ≡ true = sym c.if-eq.false ∙ c.eq.ensures ∙ eq-eqb c.ends-end.result c.ask.inside.dst (c.ends-end.ensures ∙ same ∙ sym dst) in
    cc) in record {
      walk = c.loop-group.invariant.walk;
      kept = c.loop-group.invariant.kept;
      still = c.loop-group.invariant.still;
      met = last_tried question groups c.requires.search front c.requires.front (a.depth - 1) a.at c.groups_from-next_groups.result.now
          c.groups_from-next_groups.ensures c.loop-group.group-index group c.loop-group-test.true c.group-item.is
          fact fact (met_where_none question limit kept) (λ list fine. fine) c.loop-group.invariant.met
          apart (let one = c.if-depth-eq1.true in omega (arith, one));
    }

pub loop-group-preserved-then-is_behind-2 : goal.loop-group-preserved-then-is_behind-2
loop-group-preserved-then-is_behind-2 g t c =
    let a = c.args in
    let question = a.self.now.ask.now in
    let limit = a.self.now.limit in
    let groups = a.self.now.groups.now in
    let front = groups_in a.front.now in
    let group = c.group-item.result in
    let kept = c.loop-group.state.kept.items in
    let fact = IsMetBy question limit kept in
    let dst : c.ask.inside.dst ≡ question.dst = ap (λ (q : Question). q.dst) c.ask.view_is in
    let apart : ¬ (ends_in group.head ≡ question.dst) = λ same. (
    let clash : false ≡ true = sym c.if-eq.false ∙ c.eq.ensures ∙ eq-eqb c.ends-end.result c.ask.inside.dst (c.ends-end.ensures ∙ same ∙ sym dst) in
    cc) in
    let here = here_is question groups c.requires.search front c.requires.front (a.depth - 1) a.at c.groups_from-next_groups.result.now
    c.groups_from-next_groups.ensures c.loop-group.group-index group c.loop-group-test.true c.group-item.is in record {
      walk = c.loop-group.invariant.walk;
      kept = c.loop-group.invariant.kept;
      still = c.loop-group.invariant.still;
      met = one_tried question groups c.requires.search front c.requires.front (a.depth - 1) a.at c.groups_from-next_groups.result.now
          c.groups_from-next_groups.ensures c.loop-group.group-index group c.loop-group-test.true c.group-item.is
          fact fact (met_where_none question limit kept) (λ list fine. fine) c.loop-group.invariant.met
          (λ begins. (
            elsewhere question fact (met_where_none question limit kept) groups c.requires.search.are.each front group c.requires.front.are here apart,
            longer_behind question limit kept groups c.requires.search.are.each front group c.requires.front.are here 1
                (subst (λ (paths : List PathValue). OfChoices (λ pieces. AreBefore limit paths pieces 1) (front ++ group ∷ [])) c.deref-in-loop-group.ensures.value
                (c.is_behind-in-loop-group.ensures c.if-is_behind-2.true)) (omega arith) (a.depth - 1) (ends_in group.head),
          ));
    }

pub try_behind-requires : goal.try_behind-requires
try_behind-requires g t c κs within =
    let a = c.args in
    let question = a.self.now.ask.now in
    let limit = a.self.now.limit in
    let groups = a.self.now.groups.now in
    let front = groups_in a.front.now in
    let group = c.group-item.result in
    let longer = for_more question groups c.requires.search front (groups_in c.with-longer.result) group
    (there question groups c.requires.search front c.requires.front (a.depth - 1) a.at c.groups_from-next_groups.result.now
    c.groups_from-next_groups.ensures c.loop-group.group-index group c.loop-group-test.true c.group-item.is)
    c.with-longer.ensures c.requires.front in
    let long = ap (λ (gs : List GroupValue). length gs) c.with-longer.ensures in
    let both = length-append front (group ∷ []) in
    let some = c.requires.some in
    let few = c.requires.few in
    let apart = c.if-depth-eq1.false in
    let nearer = c.decreases in
    let walk = c.go_on_by.ensures.walk
    ∙ grown front group (groups_in c.with-longer.result) c.with-longer.ensures c.loop-group.state.walk
    (c.loop-group.invariant.walk ∙ c.requires.walk) c.piece.result (c.piece.ensures.value ∙ c.head.ensures) in
    let once = (c.go_on_by.ensures.once (subst NamesOnce (sym c.loop-group.invariant.walk) c.requires.once)).0 c.if-not-go_on_by.false in (
      omega (arith, nearer, some),
      (
        within,
        (c.requires.search, (c.loop-group.invariant.kept, (longer, (walk, (once, (omega (arith, some, apart), omega (arith, long, both, few, some))))))),
      ),
    )

pub loop-group-preserved : goal.loop-group-preserved
loop-group-preserved g t c =
    let a = c.args in
    let question = a.self.now.ask.now in
    let limit = a.self.now.limit in
    let groups = a.self.now.groups.now in
    let front = groups_in a.front.now in
    let group = c.group-item.result in
    let old = c.loop-group.state.kept.items in
    let new = c.try_behind.new.state.kept.items in
    let dst : c.ask.inside.dst ≡ question.dst = ap (λ (q : Question). q.dst) c.ask.view_is in
    let apart : ¬ (ends_in group.head ≡ question.dst) = λ same. (
    let clash : false ≡ true = sym c.if-eq.false ∙ c.eq.ensures ∙ eq-eqb c.ends-end.result c.ask.inside.dst (c.ends-end.ensures ∙ same ∙ sym dst) in
    cc) in
    let own = c.loop-group.invariant.walk ∙ c.requires.walk in
    let piece = c.piece.ensures.value ∙ c.head.ensures in record {
      walk = c.shorten-in-loop-group.ensures
          ∙ restored front group (groups_in c.with-longer.result) c.with-longer.ensures c.loop-group.state.walk own
          c.try_behind.new.state.walk c.len-len.result
          (c.in_ok-try_behind.ensures.walk ∙ c.go_on_by.ensures.walk
          ∙ grown front group (groups_in c.with-longer.result) c.with-longer.ensures c.loop-group.state.walk own c.piece.result piece)
          (c.len-len.ensures ∙ ap (λ (w : List WalkHop). length w) (sym c.loop-group.invariant.walk))
          ∙ c.loop-group.invariant.walk;
      kept = c.in_ok-try_behind.ensures.kept;
      still = λ path met. c.in_ok-try_behind.ensures.still path (c.loop-group.invariant.still path met);
      met = further_tried question groups c.requires.search front c.requires.front (a.depth - 1) a.at c.groups_from-next_groups.result.now
          c.groups_from-next_groups.ensures c.loop-group.group-index group c.loop-group-test.true c.group-item.is
          (IsMetBy question limit old) (IsMetBy question limit new) (met_where_none question limit new)
          (choices_met_on question limit old new c.in_ok-try_behind.ensures.still) c.loop-group.invariant.met
          apart (groups_in c.with-longer.result) c.with-longer.ensures c.ends-end.result c.ends-end.ensures c.in_ok-try_behind.ensures.met;
    }

pub returns-clause-met : goal.returns-clause-met
returns-clause-met g t c =
    let a = c.args in
    let some = c.requires.some in
    all_tried (OfChoices (IsMetBy a.self.now.ask.now a.self.now.limit c.loop-group.state.kept.items)) a.self.now.groups.now c.groups_from-next_groups.result.now
    a.depth (a.depth - 1) (groups_in a.front.now) a.at c.loop-group.group-index (omega (arith, some)) c.groups_from-next_groups.ensures
    c.loop-group-test.false c.loop-group.invariant.met
