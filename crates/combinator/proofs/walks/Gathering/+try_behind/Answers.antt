use Rattle.std.proofs.Common.{rules, ◌≡◌, ◌-◌, ◌<◌, [], ◌∷◌, List, length, true, false, sym, ap, subst, eq-eqb, eqb-true, ◌∙◌, arith, length-append}
use Rattle.policy_expr.specs.declared.hop.WalkHop.{WalkHop}
use Rattle.path_verifier.specs.Header.{total_hops}
use Rattle.path_verifier.specs.Piece.{ends_in, kind_of}
use Rattle.path_verifier.specs.Accepted.{MayAdjoin, NamesOnce}
use Rattle.path_verifier.specs.Walk.{walk_of}
use Rattle.combinator.specs.Candidate.{Question}
use Rattle.combinator.specs.inner.Front.{groups_in}
use Rattle.combinator.specs.inner.Gathered.{IsListed}
use Rattle.combinator.specs.inner.Group.{GroupValue, heads_of}
use Rattle.combinator.specs.inner.Over.{OfChoices}
use Rattle.combinator.proofs.Gathered.{all_full, listed_on, listed_where_none}
use Rattle.combinator.proofs.Growing.{grown, not_once, restored, roomy}
use Rattle.combinator.proofs.Stepping.{barred_tried, end_tried, further_tried, last_tried, there, too_many_tried, twice_tried}
use Rattle.combinator.proofs.Trying.{all_tried, for_more}
use Rattle.combinator.proofs.walks.Gathering.+try_behind.Goals as goal

pub returns-then-len-self-clause-listed : goal.returns-then-len-self-clause-listed
returns-then-len-self-clause-listed g t c =
    let a = c.args in
    all_full a.self.now.ask.now a.self.now.limit c.loop-group.walks
    (search rules)
    a.self.now.groups.now c.requires.search.are.each a.depth (groups_in a.front.now) a.at

pub loop-group-preserved-then-not-may_go_on : goal.loop-group-preserved-then-not-may_go_on
loop-group-preserved-then-not-may_go_on g t c =
    let a = c.args in
    let question = a.self.now.ask.now in
    let fact = IsListed question a.self.now.limit c.loop-group.walks in
    let bars = c.may_go_on.ensures c.if-not-may_go_on.true in record {
      walk = c.loop-group.invariant.walk;
      gathered = c.loop-group.invariant.gathered;
      still = c.loop-group.invariant.still;
      listed = barred_tried question a.self.now.groups.now c.requires.search (groups_in a.front.now) c.requires.front (a.depth - 1) a.at
          c.groups_from-next_groups.result.now c.groups_from-next_groups.ensures c.loop-group.group-index c.group-item.result
          c.loop-group-test.true c.group-item.is fact fact
          (listed_where_none question a.self.now.limit c.loop-group.walks) (λ list fine. fine) c.loop-group.invariant.listed
          bars.0 bars.1 bars.2 (λ may. bars.3 (subst (MayAdjoin (kind_of bars.1.head)) (sym c.kind.ensures) may));
    }

pub loop-group-preserved-then-hop_count-gt-MAX_HOPS : goal.loop-group-preserved-then-hop_count-gt-MAX_HOPS
loop-group-preserved-then-hop_count-gt-MAX_HOPS g t c =
    let a = c.args in
    let question = a.self.now.ask.now in
    let fact = IsListed question a.self.now.limit c.loop-group.walks in
    let count = c.hop_count.ensures.value in
    let long = c.if-hop_count-gt-MAX_HOPS.true in record {
      walk = c.loop-group.invariant.walk;
      gathered = c.loop-group.invariant.gathered;
      still = c.loop-group.invariant.still;
      listed = too_many_tried question a.self.now.groups.now c.requires.search (groups_in a.front.now) c.requires.front (a.depth - 1) a.at
          c.groups_from-next_groups.result.now c.groups_from-next_groups.ensures c.loop-group.group-index c.group-item.result
          c.loop-group-test.true c.group-item.is fact fact
          (listed_where_none question a.self.now.limit c.loop-group.walks) (λ list fine. fine) c.loop-group.invariant.listed
          (subst (λ (gs : List GroupValue). 64 < total_hops (heads_of gs)) c.with-longer.ensures (omega (arith, count, long)));
    }

pub add_walk-requires-clause-walk : goal.add_walk-requires-clause-walk
add_walk-requires-clause-walk g t c = record {
  front = groups_in c.args.front.now;
  same = c.with-longer.ensures;
  own = c.loop-group.invariant.walk ∙ c.requires.walk;
}

pub add_walk-requires-clause-once : goal.add_walk-requires-clause-once
add_walk-requires-clause-once g t c = subst NamesOnce (sym c.loop-group.invariant.walk) c.requires.once

pub go_on_by-requires-clause-few : goal.go_on_by-requires-clause-few
go_on_by-requires-clause-few g t c =
    let count = c.hop_count.ensures.value in
    let few = c.if-hop_count-gt-MAX_HOPS.false in
    roomy (groups_in c.args.front.now) c.group-item.result (groups_in c.with-longer.result) c.with-longer.ensures c.loop-group.walk
    (c.loop-group.invariant.walk ∙ c.requires.walk) (omega (arith, count, few)) c.piece.result (c.piece.ensures.value ∙ c.head.ensures)

pub add_walk-requires-clause-front : goal.add_walk-requires-clause-front
add_walk-requires-clause-front g t c =
    let a = c.args in
    let groups = a.self.now.groups.now in
    for_more a.self.now.ask.now groups c.requires.search (groups_in a.front.now) (groups_in c.with-longer.result) c.group-item.result
    (there a.self.now.ask.now groups c.requires.search (groups_in a.front.now) c.requires.front (a.depth - 1) a.at
    c.groups_from-next_groups.result.now c.groups_from-next_groups.ensures c.loop-group.group-index c.group-item.result
    c.loop-group-test.true c.group-item.is)
    c.with-longer.ensures c.requires.front

pub loop-group-preserved-then-eq : goal.loop-group-preserved-then-eq
loop-group-preserved-then-eq g t c =
    let a = c.args in
    let question = a.self.now.ask.now in
    let limit = a.self.now.limit in
    let old = c.loop-group.walks in
    let new = c.add_walk.new.walks in
    let dst : c.ask.inside.dst ≡ question.dst = ap (λ (q : Question). q.dst) c.ask.view_is in record {
      walk = c.in_ok-add_walk.ensures.walk ∙ c.loop-group.invariant.walk;
      gathered = c.in_ok-add_walk.ensures.gathered;
      still = λ walk has. c.in_ok-add_walk.ensures.still walk (c.loop-group.invariant.still walk has);
      listed = end_tried question a.self.now.groups.now c.requires.search (groups_in a.front.now) c.requires.front (a.depth - 1) a.at
          c.groups_from-next_groups.result.now c.groups_from-next_groups.ensures c.loop-group.group-index c.group-item.result
          c.loop-group-test.true c.group-item.is (IsListed question limit old) (IsListed question limit new)
          (listed_where_none question limit new) (listed_on question limit old new c.in_ok-add_walk.ensures.still) c.loop-group.invariant.listed
          (sym c.ends-end.ensures ∙ eqb-true c.ends-end.result c.ask.inside.dst (sym c.eq.ensures ∙ c.if-eq.true) ∙ dst)
          (groups_in c.with-longer.result) c.with-longer.ensures c.in_ok-add_walk.ensures.listed;
    }

pub loop-group-preserved-then-depth-eq1 : goal.loop-group-preserved-then-depth-eq1
loop-group-preserved-then-depth-eq1 g t c =
    let a = c.args in
    let question = a.self.now.ask.now in
    let fact = IsListed question a.self.now.limit c.loop-group.walks in
    let dst : c.ask.inside.dst ≡ question.dst = ap (λ (q : Question). q.dst) c.ask.view_is in
    let apart : ¬ (ends_in c.group-item.result.head ≡ question.dst) = λ same. (
    let clash : false ≡ true = sym c.if-eq.false ∙ c.eq.ensures ∙ eq-eqb c.ends-end.result c.ask.inside.dst (c.ends-end.ensures ∙ same ∙ sym dst) in
    cc) in record {
      walk = c.loop-group.invariant.walk;
      gathered = c.loop-group.invariant.gathered;
      still = c.loop-group.invariant.still;
      listed = last_tried question a.self.now.groups.now c.requires.search (groups_in a.front.now) c.requires.front (a.depth - 1) a.at
          c.groups_from-next_groups.result.now c.groups_from-next_groups.ensures c.loop-group.group-index c.group-item.result
          c.loop-group-test.true c.group-item.is fact fact
          (listed_where_none question a.self.now.limit c.loop-group.walks) (λ list fine. fine) c.loop-group.invariant.listed
          apart (let one = c.if-depth-eq1.true in omega (arith, one));
    }

pub loop-group-preserved-then-not-go_on_by : goal.loop-group-preserved-then-not-go_on_by
loop-group-preserved-then-not-go_on_by g t c =
    let a = c.args in
    let question = a.self.now.ask.now in
    let front = groups_in a.front.now in
    let longer = groups_in c.with-longer.result in
    let fact = IsListed question a.self.now.limit c.loop-group.walks in
    let own = c.loop-group.invariant.walk ∙ c.requires.walk in
    let more = c.go_on_by.ensures.walk
    ∙ grown front c.group-item.result longer c.with-longer.ensures c.loop-group.walk own c.piece.result (c.piece.ensures.value ∙ c.head.ensures) in
    let before = subst NamesOnce (sym c.loop-group.invariant.walk) c.requires.once in
    let never = not_once front c.group-item.result longer c.with-longer.ensures c.loop-group.walk own c.go_on_by.new.self more
    c.go_on_by.result c.if-not-go_on_by.true (c.go_on_by.ensures.once before) in record {
      walk = c.shorten.ensures
          ∙ restored front c.group-item.result longer c.with-longer.ensures c.loop-group.walk own c.go_on_by.new.self c.len-len.result more
          (c.len-len.ensures ∙ ap (λ (w : List WalkHop). length w) (sym c.loop-group.invariant.walk))
          ∙ c.loop-group.invariant.walk;
      gathered = c.loop-group.invariant.gathered;
      still = c.loop-group.invariant.still;
      listed = twice_tried question a.self.now.groups.now c.requires.search front c.requires.front (a.depth - 1) a.at
          c.groups_from-next_groups.result.now c.groups_from-next_groups.ensures c.loop-group.group-index c.group-item.result
          c.loop-group-test.true c.group-item.is fact fact
          (listed_where_none question a.self.now.limit c.loop-group.walks) (λ list fine. fine) c.loop-group.invariant.listed
          (subst (λ (gs : List GroupValue). ¬ (NamesOnce (walk_of (heads_of gs)))) c.with-longer.ensures never);
    }

pub try_behind-requires : goal.try_behind-requires
try_behind-requires g t c κs within =
    let a = c.args in
    let groups = a.self.now.groups.now in
    let more = for_more a.self.now.ask.now groups c.requires.search (groups_in a.front.now) (groups_in c.with-longer.result) c.group-item.result
    (there a.self.now.ask.now groups c.requires.search (groups_in a.front.now) c.requires.front (a.depth - 1) a.at
    c.groups_from-next_groups.result.now c.groups_from-next_groups.ensures c.loop-group.group-index c.group-item.result
    c.loop-group-test.true c.group-item.is)
    c.with-longer.ensures c.requires.front in
    let long = ap (λ (gs : List GroupValue). length gs) c.with-longer.ensures in
    let both = length-append (groups_in a.front.now) (c.group-item.result ∷ []) in
    let some = c.requires.some in
    let few = c.requires.few in
    let apart = c.if-depth-eq1.false in
    let nearer = c.decreases in
    let walk = c.go_on_by.ensures.walk
    ∙ grown (groups_in a.front.now) c.group-item.result (groups_in c.with-longer.result) c.with-longer.ensures c.loop-group.walk
    (c.loop-group.invariant.walk ∙ c.requires.walk) c.piece.result (c.piece.ensures.value ∙ c.head.ensures) in
    let once = (c.go_on_by.ensures.once (subst NamesOnce (sym c.loop-group.invariant.walk) c.requires.once)).0 c.if-not-go_on_by.false in (
      omega (arith, nearer, some),
      (
        within,
        (c.requires.search, (c.loop-group.invariant.gathered, (more, (walk, (once, (omega (arith, some, apart), omega (arith, long, both, few, some))))))),
      ),
    )

pub loop-group-preserved : goal.loop-group-preserved
loop-group-preserved g t c =
    let a = c.args in
    let question = a.self.now.ask.now in
    let limit = a.self.now.limit in
    let old = c.loop-group.walks in
    let new = c.try_behind.new.walks in
    let dst : c.ask.inside.dst ≡ question.dst = ap (λ (q : Question). q.dst) c.ask.view_is in
    let apart : ¬ (ends_in c.group-item.result.head ≡ question.dst) = λ same. (
    let clash : false ≡ true = sym c.if-eq.false ∙ c.eq.ensures ∙ eq-eqb c.ends-end.result c.ask.inside.dst (c.ends-end.ensures ∙ same ∙ sym dst) in
    cc) in
    let own = c.loop-group.invariant.walk ∙ c.requires.walk in
    let piece = c.piece.ensures.value ∙ c.head.ensures in record {
      walk = c.shorten-in-loop-group.ensures
          ∙ restored (groups_in a.front.now) c.group-item.result (groups_in c.with-longer.result) c.with-longer.ensures c.loop-group.walk own
          c.try_behind.new.walk c.len-len.result
          (c.in_ok-try_behind.ensures.walk ∙ c.go_on_by.ensures.walk
          ∙ grown (groups_in a.front.now) c.group-item.result (groups_in c.with-longer.result) c.with-longer.ensures c.loop-group.walk own
          c.piece.result piece)
          (c.len-len.ensures ∙ ap (λ (w : List WalkHop). length w) (sym c.loop-group.invariant.walk))
          ∙ c.loop-group.invariant.walk;
      gathered = c.in_ok-try_behind.ensures.gathered;
      still = λ walk has. c.in_ok-try_behind.ensures.still walk (c.loop-group.invariant.still walk has);
      listed = further_tried question a.self.now.groups.now c.requires.search (groups_in a.front.now) c.requires.front (a.depth - 1) a.at
          c.groups_from-next_groups.result.now c.groups_from-next_groups.ensures c.loop-group.group-index c.group-item.result
          c.loop-group-test.true c.group-item.is (IsListed question limit old) (IsListed question limit new)
          (listed_where_none question limit new) (listed_on question limit old new c.in_ok-try_behind.ensures.still) c.loop-group.invariant.listed
          apart (groups_in c.with-longer.result) c.with-longer.ensures c.ends-end.result c.ends-end.ensures c.in_ok-try_behind.ensures.listed;
    }

pub returns-clause-listed : goal.returns-clause-listed
returns-clause-listed g t c =
    let a = c.args in
    let some = c.requires.some in
    all_tried (OfChoices (IsListed a.self.now.ask.now a.self.now.limit c.loop-group.walks)) a.self.now.groups.now
    c.groups_from-next_groups.result.now a.depth (a.depth - 1) (groups_in a.front.now) a.at c.loop-group.group-index (omega (arith, some))
    c.groups_from-next_groups.ensures c.loop-group-test.false c.loop-group.invariant.listed
