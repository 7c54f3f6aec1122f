-- One AS more, which all walks pass or some don't.
use Rattle.std.proofs.Common.{◌+◌, ◌++◌, ℕ, Bool, List, map, take, sym, ap, ◌∙◌}
use Rattle.std.specs.Prelude.{filter}
use Rattle.scion_topology.specs.declared.network.AsEntry.{AsEntry}
use Rattle.path_report.specs.declared.open_walk.OpenWalk.{OpenWalk}
use Rattle.path_report.specs.Pair.{addresses}
use Rattle.path_report.specs.inner.Needed.{if_through, is_through}
use Rattle.path_report.proofs.Passing.{through_next}
use Rattle.path_report.proofs.needed.needed_ases.Goals as goal

pub loop-one-preserved : goal.loop-one-preserved
loop-one-preserved c =
    let pair = c.args.pair.now in
    let walks = c.args.walks.now in
    let one = c.one-item.result in
    let i = c.loop-one.one-index in
    let test : ℕ → Bool = is_through pair (map (λ (walk : OpenWalk). walk.hops.now) walks) in
    let ases = c.ases-one-items.ensures in
    let next = through_next pair walks c.ases-one-items.result.now i one c.loop-one-test.true c.one-item.is in
    c.in_ok-add_if_through.ensures
    ∙ ap (λ (front : List ℕ). front ++ if_through pair walks one.ia) c.loop-one.invariant
    ∙ ap (λ (list : List AsEntry). filter test (addresses (take i list)) ++ if_through pair walks one.ia) (sym ases)
    ∙ sym next
    ∙ ap (λ (list : List AsEntry). filter test (addresses (take (i + 1) list))) ases
