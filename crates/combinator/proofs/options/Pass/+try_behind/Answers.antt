use Rattle.std.proofs.Common.{◌≡◌, ◌+◌, ◌-◌, ◌<◌, ◌∷◌, [], List, length, true, false, eq-eqb, eqb-true, refl, sym, ap, subst, ◌∙◌, arith, length-append}
use Rattle.path_verifier.specs.Piece.{ends_in, kind_of}
use Rattle.policy_expr.specs.declared.hop.WalkHop.{WalkHop}
use Rattle.path_verifier.specs.Accepted.{MayAdjoin, NamesOnce}
use Rattle.path_verifier.specs.Header.{total_hops}
use Rattle.path_verifier.specs.Walk.{walk_of}
use Rattle.combinator.specs.inner.Front.{groups_in}
use Rattle.combinator.specs.inner.Group.{GroupValue, heads_of}
use Rattle.combinator.proofs.Growing.{grown, not_once, restored, roomy}
use Rattle.combinator.proofs.Trying.{all_tried, none_tried, of_part, tried_more}
use Rattle.combinator.proofs.Wanted.{Passed, passed_on, for_any_more, over_at_first, from_apart, from_end, from_elsewhere, from_too_many, from_twice}
use Rattle.combinator.proofs.options.Pass.+try_behind.Goals as goal

pub returns-then-is_first-clause-none : goal.returns-then-is_first-clause-none
returns-then-is_first-clause-none g t c =
    let a = c.args in
    let ask = a.self.now.request.now in
    over_at_first ask.set.now ask.src ask.dst ask.options.now a.self.now.groups.now c.requires.search
    a.self.now.first c.loop-group.next (c.is_first.ensures c.if-is_first.true) c.requires.first a.depth (groups_in a.front.now) a.at

pub loop-group-preserved-then-not-may_go_on : goal.loop-group-preserved-then-not-may_go_on
loop-group-preserved-then-not-may_go_on g t c =
    let a = c.args in
    let ask = a.self.now.request.now in
    let front = groups_in a.front.now in
    let next = c.groups_from-next_groups.result.now in
    let group = c.group-item.result in
    let there = of_part a.self.now.groups.now next a.at c.loop-group.group-index group c.groups_from-next_groups.ensures c.loop-group-test.true c.group-item.is in
    let bars = c.may_go_on.ensures c.if-not-may_go_on.true in
    let here = from_apart ask.set.now ask.src ask.dst ask.options.now a.self.now.groups.now c.requires.search
    front c.requires.front group there c.loop-group.next (a.depth - 1) a.at bars.0 bars.1 bars.2
    (λ may. bars.3 (subst (MayAdjoin (kind_of bars.1.head)) (sym c.kind.ensures) may)) in record {
      walk = c.loop-group.invariant.walk;
      leaves = c.loop-group.invariant.leaves;
      later = c.loop-group.invariant.later;
      none = tried_more (Passed ask.set.now ask.src ask.dst ask.options.now c.loop-group.next) (Passed ask.set.now ask.src ask.dst ask.options.now c.loop-group.next)
          a.self.now.groups.now next (a.depth - 1) front a.at c.loop-group.group-index group c.loop-group-test.true c.group-item.is
          (passed_on ask.set.now ask.src ask.dst ask.options.now c.loop-group.next c.loop-group.next (λ place option wanted. wanted)) c.loop-group.invariant.none here;
    }

pub loop-group-preserved-then-hop_count-gt-MAX_HOPS : goal.loop-group-preserved-then-hop_count-gt-MAX_HOPS
loop-group-preserved-then-hop_count-gt-MAX_HOPS g t c =
    let a = c.args in
    let ask = a.self.now.request.now in
    let front = groups_in a.front.now in
    let next = c.groups_from-next_groups.result.now in
    let group = c.group-item.result in
    let best = c.loop-group.next in
    let count = c.hop_count.ensures.value in
    let long = c.if-hop_count-gt-MAX_HOPS.true in
    let there = of_part a.self.now.groups.now next a.at c.loop-group.group-index group c.groups_from-next_groups.ensures c.loop-group-test.true c.group-item.is in
    let here = from_too_many ask.set.now ask.src ask.dst ask.options.now a.self.now.groups.now c.requires.search
    front c.requires.front group there best (a.depth - 1) a.at
    (subst (λ (gs : List GroupValue). 64 < total_hops (heads_of gs)) c.with-longer.ensures (omega (arith, count, long))) in record {
      walk = c.loop-group.invariant.walk;
      leaves = c.loop-group.invariant.leaves;
      later = c.loop-group.invariant.later;
      none = tried_more (Passed ask.set.now ask.src ask.dst ask.options.now best) (Passed ask.set.now ask.src ask.dst ask.options.now best)
          a.self.now.groups.now next (a.depth - 1) front a.at c.loop-group.group-index group c.loop-group-test.true c.group-item.is
          (passed_on ask.set.now ask.src ask.dst ask.options.now best best (λ place option wanted. wanted)) c.loop-group.invariant.none here;
    }

pub try_paths-next-requires-clause-walk : goal.try_paths-next-requires-clause-walk
try_paths-next-requires-clause-walk g t c = record {
  front = groups_in c.args.front.now;
  same = c.with-longer.ensures;
  own = c.loop-group.invariant.walk ∙ c.requires.walk;
}

pub try_paths-next-requires-clause-once : goal.try_paths-next-requires-clause-once
try_paths-next-requires-clause-once g t c = subst NamesOnce (sym c.loop-group.invariant.walk) c.requires.once

pub go_on_by-requires-clause-few : goal.go_on_by-requires-clause-few
go_on_by-requires-clause-few g t c =
    let count = c.hop_count.ensures.value in
    let few = c.if-hop_count-gt-MAX_HOPS.false in
    roomy (groups_in c.args.front.now) c.group-item.result (groups_in c.with-longer.result) c.with-longer.ensures c.loop-group.walk
    (c.loop-group.invariant.walk ∙ c.requires.walk) (omega (arith, count, few)) c.piece.result (c.piece.ensures.value ∙ c.head.ensures)

pub loop-group-preserved-then-not-go_on_by : goal.loop-group-preserved-then-not-go_on_by
loop-group-preserved-then-not-go_on_by g t c =
    let a = c.args in
    let ask = a.self.now.request.now in
    let front = groups_in a.front.now in
    let longer = groups_in c.with-longer.result in
    let next = c.groups_from-next_groups.result.now in
    let group = c.group-item.result in
    let best = c.loop-group.next in
    let own = c.loop-group.invariant.walk ∙ c.requires.walk in
    let more = c.go_on_by.ensures.walk
    ∙ grown front group longer c.with-longer.ensures c.loop-group.walk own c.piece.result (c.piece.ensures.value ∙ c.head.ensures) in
    let before = subst NamesOnce (sym c.loop-group.invariant.walk) c.requires.once in
    let never = not_once front group longer c.with-longer.ensures c.loop-group.walk own c.go_on_by.new.self more
    c.go_on_by.result c.if-not-go_on_by.true (c.go_on_by.ensures.once before) in
    let there = of_part a.self.now.groups.now next a.at c.loop-group.group-index group c.groups_from-next_groups.ensures c.loop-group-test.true c.group-item.is in
    let here = from_twice ask.set.now ask.src ask.dst ask.options.now a.self.now.groups.now c.requires.search
    front c.requires.front group there best (a.depth - 1) a.at
    (subst (λ (gs : List GroupValue). ¬ (NamesOnce (walk_of (heads_of gs)))) c.with-longer.ensures never) in record {
      walk = c.shorten.ensures
          ∙ restored front group longer c.with-longer.ensures c.loop-group.walk own c.go_on_by.new.self c.len-len.result more
          (c.len-len.ensures ∙ ap (λ (w : List WalkHop). length w) (sym c.loop-group.invariant.walk))
          ∙ c.loop-group.invariant.walk;
      leaves = c.loop-group.invariant.leaves;
      later = c.loop-group.invariant.later;
      none = tried_more (Passed ask.set.now ask.src ask.dst ask.options.now best) (Passed ask.set.now ask.src ask.dst ask.options.now best)
          a.self.now.groups.now next (a.depth - 1) front a.at c.loop-group.group-index group c.loop-group-test.true c.group-item.is
          (passed_on ask.set.now ask.src ask.dst ask.options.now best best (λ place option wanted. wanted)) c.loop-group.invariant.none here;
    }

pub try_paths-next-requires-clause-front : goal.try_paths-next-requires-clause-front
try_paths-next-requires-clause-front g t c =
    let a = c.args in
    let ask = a.self.now.request.now in
    let next = c.groups_from-next_groups.result.now in
    for_any_more ask.set.now ask.src ask.dst a.self.now.groups.now (groups_in a.front.now) (groups_in c.with-longer.result) c.group-item.result
    c.requires.search c.requires.front
    (of_part a.self.now.groups.now next a.at c.loop-group.group-index c.group-item.result c.groups_from-next_groups.ensures c.loop-group-test.true c.group-item.is)
    c.with-longer.ensures

pub loop-group-preserved-then-eq : goal.loop-group-preserved-then-eq
loop-group-preserved-then-eq g t c =
    let a = c.args in
    let ask = a.self.now.request.now in
    let front = groups_in a.front.now in
    let next = c.groups_from-next_groups.result.now in
    let group = c.group-item.result in
    let new = c.try_paths-next.result in
    let there = of_part a.self.now.groups.now next a.at c.loop-group.group-index group c.groups_from-next_groups.ensures c.loop-group-test.true c.group-item.is in
    let here = from_end ask.set.now ask.src ask.dst ask.options.now a.self.now.groups.now c.requires.search
    front c.requires.front group there new (a.depth - 1) a.at (sym c.ends-end.ensures ∙ eqb-true c.ends-end.result ask.dst (sym c.eq.ensures ∙ c.if-eq.true))
    (groups_in c.with-longer.result) c.with-longer.ensures c.try_paths-next.ensures.none in record {
      walk = c.try_paths-next.ensures.walk ∙ c.loop-group.invariant.walk;
      leaves = c.try_paths-next.ensures.leaves;
      later = λ place option wanted. c.loop-group.invariant.later place option (c.try_paths-next.ensures.later place option wanted);
      none = tried_more (Passed ask.set.now ask.src ask.dst ask.options.now c.loop-group.next) (Passed ask.set.now ask.src ask.dst ask.options.now new)
          a.self.now.groups.now next (a.depth - 1) front a.at c.loop-group.group-index group c.loop-group-test.true c.group-item.is
          (passed_on ask.set.now ask.src ask.dst ask.options.now new c.loop-group.next c.try_paths-next.ensures.later) c.loop-group.invariant.none here;
    }

pub loop-group-preserved-then-depth-eq1 : goal.loop-group-preserved-then-depth-eq1
loop-group-preserved-then-depth-eq1 g t c =
    let a = c.args in
    let ask = a.self.now.request.now in
    let front = groups_in a.front.now in
    let longer = groups_in c.with-longer.result in
    let next = c.groups_from-next_groups.result.now in
    let group = c.group-item.result in
    let best = c.loop-group.next in
    let there = of_part a.self.now.groups.now next a.at c.loop-group.group-index group c.groups_from-next_groups.ensures c.loop-group-test.true c.group-item.is in
    let here = from_elsewhere ask.set.now ask.src ask.dst ask.options.now a.self.now.groups.now c.requires.search
    front c.requires.front group there best (a.depth - 1) a.at
    (λ ends. (
    let same = eq-eqb c.ends-end.result ask.dst (c.ends-end.ensures ∙ ends) in
    let clash : true ≡ false = sym same ∙ sym c.eq.ensures ∙ c.if-eq.false in
    cc))
    longer c.with-longer.ensures (ends_in group.head) refl
    (none_tried (Passed ask.set.now ask.src ask.dst ask.options.now best) a.self.now.groups.now (a.depth - 1) longer (ends_in group.head)
    (let one = c.if-depth-eq1.true in omega (arith, one))) in record {
      walk = c.loop-group.invariant.walk;
      leaves = c.loop-group.invariant.leaves;
      later = c.loop-group.invariant.later;
      none = tried_more (Passed ask.set.now ask.src ask.dst ask.options.now best) (Passed ask.set.now ask.src ask.dst ask.options.now best)
          a.self.now.groups.now next (a.depth - 1) front a.at c.loop-group.group-index group c.loop-group-test.true c.group-item.is
          (passed_on ask.set.now ask.src ask.dst ask.options.now best best (λ place option wanted. wanted)) c.loop-group.invariant.none here;
    }

pub try_behind-next-requires : goal.try_behind-next-requires
try_behind-next-requires g t c κs within =
    let a = c.args in
    let ask = a.self.now.request.now in
    let next = c.groups_from-next_groups.result.now in
    let some = c.requires.some in
    let few = c.requires.few in
    let one = c.if-depth-eq1.false in
    let more : 1 < a.depth = omega (arith, some, one) in
    let long : length (groups_in c.with-longer.result) ≡ length (groups_in a.front.now) + 1 =
    ap (λ (gs : List GroupValue). length gs) c.with-longer.ensures ∙ length-append (groups_in a.front.now) (c.group-item.result ∷ []) in
    let walk = c.go_on_by.ensures.walk
    ∙ grown (groups_in a.front.now) c.group-item.result (groups_in c.with-longer.result) c.with-longer.ensures c.loop-group.walk
    (c.loop-group.invariant.walk ∙ c.requires.walk) c.piece.result (c.piece.ensures.value ∙ c.head.ensures) in
    let once = (c.go_on_by.ensures.once (subst NamesOnce (sym c.loop-group.invariant.walk) c.requires.once)).0 c.if-not-go_on_by.false in (
      (let nearer = c.decreases in omega (arith, more, nearer)),
      (
        within,
        (
          c.requires.search,
          (
            c.requires.first,
            (
              c.loop-group.invariant.leaves,
              (
                for_any_more ask.set.now ask.src ask.dst a.self.now.groups.now (groups_in a.front.now) (groups_in c.with-longer.result) c.group-item.result
                    c.requires.search c.requires.front
                    (of_part a.self.now.groups.now next a.at c.loop-group.group-index c.group-item.result c.groups_from-next_groups.ensures c.loop-group-test.true c.group-item.is)
                    c.with-longer.ensures,
                (walk, (once, (omega (arith, more), omega (arith, more, long, few)))),
              ),
            ),
          ),
        ),
      ),
    )

pub loop-group-preserved : goal.loop-group-preserved
loop-group-preserved g t c =
    let a = c.args in
    let ask = a.self.now.request.now in
    let front = groups_in a.front.now in
    let longer = groups_in c.with-longer.result in
    let next = c.groups_from-next_groups.result.now in
    let group = c.group-item.result in
    let new = c.try_behind-next.result in
    let there = of_part a.self.now.groups.now next a.at c.loop-group.group-index group c.groups_from-next_groups.ensures c.loop-group-test.true c.group-item.is in
    let here = from_elsewhere ask.set.now ask.src ask.dst ask.options.now a.self.now.groups.now c.requires.search
    front c.requires.front group there new (a.depth - 1) a.at
    (λ ends. (
    let same = eq-eqb c.ends-end.result ask.dst (c.ends-end.ensures ∙ ends) in
    let clash : true ≡ false = sym same ∙ sym c.eq.ensures ∙ c.if-eq.false in
    cc))
    longer c.with-longer.ensures c.ends-end.result c.ends-end.ensures c.try_behind-next.ensures.none in
    let own = c.loop-group.invariant.walk ∙ c.requires.walk in
    let piece = c.piece.ensures.value ∙ c.head.ensures in record {
      walk = c.shorten-in-loop-group.ensures
          ∙ restored front group longer c.with-longer.ensures c.loop-group.walk own c.try_behind-next.new.walk c.len-len.result
          (c.try_behind-next.ensures.walk ∙ c.go_on_by.ensures.walk
          ∙ grown front group longer c.with-longer.ensures c.loop-group.walk own c.piece.result piece)
          (c.len-len.ensures ∙ ap (λ (w : List WalkHop). length w) (sym c.loop-group.invariant.walk))
          ∙ c.loop-group.invariant.walk;
      leaves = c.try_behind-next.ensures.leaves;
      later = λ place option wanted. c.loop-group.invariant.later place option (c.try_behind-next.ensures.later place option wanted);
      none = tried_more (Passed ask.set.now ask.src ask.dst ask.options.now c.loop-group.next) (Passed ask.set.now ask.src ask.dst ask.options.now new)
          a.self.now.groups.now next (a.depth - 1) front a.at c.loop-group.group-index group c.loop-group-test.true c.group-item.is
          (passed_on ask.set.now ask.src ask.dst ask.options.now new c.loop-group.next c.try_behind-next.ensures.later) c.loop-group.invariant.none here;
    }

pub returns-clause-none : goal.returns-clause-none
returns-clause-none g t c =
    let a = c.args in
    let ask = a.self.now.request.now in
    let some = c.requires.some in
    all_tried (Passed ask.set.now ask.src ask.dst ask.options.now c.loop-group.next) a.self.now.groups.now c.groups_from-next_groups.result.now
    a.depth (a.depth - 1) (groups_in a.front.now) a.at c.loop-group.group-index (omega (arith, some)) c.groups_from-next_groups.ensures
    c.loop-group-test.false c.loop-group.invariant.none
