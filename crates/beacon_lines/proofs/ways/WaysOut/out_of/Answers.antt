use Rattle.std.proofs.Common.{◌≡◌, ◌≤◌, ◌-◌, length, drop, take, ltb, leb, false, true, sym, ap, ◌∙◌, subst, rules, tests, arith}
use Rattle.std.specs.List.Sorted.{IsPartitionPoint}
use Rattle.std.proofs.lemmas.List.{length-drop, take_all}
use Rattle.std.proofs.lemmas.List.Sorted.{IsNonDecreasingBy-drop, IsPartitionPoint-from_clause, IsPartitionedBy-leb, IsPartitionedBy-ltb}
use Rattle.beacon_lines.specs.declared.ways.WayOut.{WayOut}
use Rattle.beacon_lines.specs.inner.Ways.{AreWaysFrom}
use Rattle.beacon_lines.proofs.Leaving.{between}
use Rattle.beacon_lines.proofs.ways.WaysOut.out_of.Goals as goal

pub returns : goal.returns
returns c = λ n class all.
    let ways = c.args.self.now.ways.items in
    let ia = c.args.ia in
    let start = c.partition_point-start.result in
    let count = c.partition_point-count.result in
    let same = c.deref.ensures.value in
    let shown = c.deref-2.result.now in
    let same_later = c.deref-2.ensures.value in
    let later = take (length shown - start) (drop start shown) in
    let all_later : later ≡ drop start shown =
    take_all (length shown - start) (drop start shown)
    (let short = length-drop start shown in omega arith) in
    let later_is : later ≡ drop start ways = all_later ∙ ap (drop start) same_later in
    let lower = IsPartitionPoint-from_clause (λ (w : WayOut). ltb w.near ia) c.deref.result.now
    start
    c.partition_point-start.ensures.partitioned
    (IsPartitionedBy-ltb (λ (w : WayOut). w.near) c.deref.result.now ia (rw same all.ordered))
    (λ a r q k. search (rules, tests)) in
    let upper = IsPartitionPoint-from_clause (λ (w : WayOut). leb w.near ia) later count
    c.partition_point-count.ensures.partitioned
    (IsPartitionedBy-leb (λ (w : WayOut). w.near) later ia
    (rw later_is (IsNonDecreasingBy-drop (λ (w : WayOut). w.near) start ways all.ordered)))
    (λ a r q k. search (rules, tests)) in
    let within : start ≤ length ways =
    (let bound = c.partition_point-start.ensures.bound in let long = ap length same in omega
    arith) in
    subst (λ list. AreWaysFrom n class ia (take count list)) (sym later_is)
    (between n class ia ways start count all within
    (subst (λ list. IsPartitionPoint (λ (w : WayOut). ltb w.near ia ≡ true)
    (λ (w : WayOut). ltb w.near ia ≡ false) list start) same lower)
    (subst (λ list. IsPartitionPoint (λ (w : WayOut). leb w.near ia ≡ true)
    (λ (w : WayOut). leb w.near ia ≡ false) list count) later_is upper))
