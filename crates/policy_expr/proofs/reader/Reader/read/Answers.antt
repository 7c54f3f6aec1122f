use Rattle.std.proofs.Common.{◌∙◌, IsOk, ap, subst}
use Rattle.policy_expr.specs.inner.Views.{gives, remaining}
use Rattle.policy_expr.proofs.reader.Reader.read.Goals as goal

pub take-requires : goal.take-requires
take-requires g c =
    (remaining c.in-Some.behind, subst (λ read. IsOk read) (c.loop-token.invariant ∙ ap (gives c.loop-token.self) c.in-Some.ensures) c.requires)
