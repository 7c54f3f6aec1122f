use Rattle.std.proofs.Common.{rules, ◌∙◌, ap, sym, subst}
use Rattle.std.proofs.lemmas.Fn.{filter_same}
use Rattle.path_server.specs.inner.Blocks.{joined, AreFilled}
use Rattle.path_server.proofs.Swept.{has_some, joined_some, filled_some}
use Rattle.path_server.proofs.sweeps.drop_empty.Goals as goal

pub returns-clause-same : goal.returns-clause-same
returns-clause-same c =
    let kept = filter_same _ has_some _ (λ x b f' k. search rules) _ _ c.retain.ensures.filtered in
    ap joined kept ∙ joined_some c.args.blocks.now.items

pub returns-clause-filled : goal.returns-clause-filled
returns-clause-filled c =
    let kept = filter_same _ has_some _ (λ x b f' k. search rules) _ _ c.retain.ensures.filtered in
    subst AreFilled (sym kept) (filled_some c.args.blocks.now.items c.requires)
