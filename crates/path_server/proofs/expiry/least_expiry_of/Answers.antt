use Rattle.std.proofs.Common.{subst, ap, sym, ◌∙◌, ◌∷◌, [], ◌++◌, take, arith}
use Rattle.std.proofs.lemmas.List.{take_all, take_more}
use Rattle.path_server.specs.Expiry.{IsEarliestExpiry}
use Rattle.path_server.proofs.Lasting.{earliest_with}
use Rattle.path_server.proofs.expiry.least_expiry_of.Goals as goal

pub loop-segment-preserved : goal.loop-segment-preserved
loop-segment-preserved c =
    let segments = c.args.segments.now in
    let i = c.loop-segment.segment-index in
    let front = take i segments in
    let segment = c.segment-item.result in
    let more = take_more segments i segment c.loop-segment-test.true ∙ ap (λ one. front ++ one ∷ []) (sym c.segment-item.is) in
    subst (λ all. IsEarliestExpiry all c.min-least.result) (sym more)
    (earliest_with front segment c.loop-segment.least c.least_expiry.result c.min-least.result c.loop-segment.invariant c.least_expiry.ensures c.min-least.ensures)

pub returns : goal.returns
returns c =
    subst (λ all. IsEarliestExpiry all c.loop-segment.least)
    (take_all c.loop-segment.segment-index c.args.segments.now (omega (arith, c.loop-segment-test.false)))
    c.loop-segment.invariant
