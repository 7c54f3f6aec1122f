use Rattle.std.proofs.Common.{All, subst, arith}
use Rattle.std.proofs.lemmas.Bool.{leb-true}
use Rattle.path_segment.specs.Chain.{IsChainLive}
use Rattle.path_server.proofs.store.PathStore.are_all_live.Goals as goal

pub returns : goal.returns
returns c = λ early. subst (All (λ segment. IsChainLive segment c.args.now)) c.self.view_is
    (λ k d within i e inside. omega (arith, c.self.inside.earliest.lasting k d within i e inside, leb-true _ _ early, c.from.ensures))
