-- Hop predicates (path policy language): which hops an `ISD-AS#IN,OUT` matches. 0 is the wildcard.
use Rattle.std.specs.Prelude.{◌⊎◌}
use Rattle.isd_as.specs.Address.{isd_of, as_number_of, Fits}
use Rattle.policy_expr.specs.declared.hop.HopPred.{HopPred}
use Rattle.policy_expr.specs.declared.hop.Interfaces.{Interfaces}
use Rattle.policy_expr.specs.declared.hop.Interfaces.TheVariants.{Any, Either, Both}
use Rattle.policy_expr.specs.declared.hop.WalkHop.{WalkHop}

-- the hop has these interfaces; a single number may be its way in or its way out
abbrev pub FitsInterfaces : Interfaces → WalkHop → Type 0
FitsInterfaces Any hop = Unit {0}
FitsInterfaces (Either wanted) hop = Fits wanted hop.ingress ⊎ Fits wanted hop.egress
FitsInterfaces (Both ingress egress) hop = Fits ingress hop.ingress × Fits egress hop.egress

-- the hop has the ISD, the AS and the interfaces of the predicate
pub record Matches (pred : HopPred) (hop : WalkHop) : Type 0 where
  pub isd : Fits (isd_of pred.ia) (isd_of hop.ia)
  pub as_number : Fits (as_number_of pred.ia) (as_number_of hop.ia)
  pub interfaces : FitsInterfaces pred.interfaces hop
