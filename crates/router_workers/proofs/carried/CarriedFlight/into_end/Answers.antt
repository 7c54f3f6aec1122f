use Rattle.std.proofs.Common.{sym, subst}
use Rattle.router_workers.specs.declared.carried.Job.{Job}
use Rattle.router_workers.proofs.Unlost.{IsUnlost}
use Rattle.router_workers.proofs.TurnByTurn.{carried_unlost}
use Rattle.router_workers.proofs.carried.CarriedFlight.into_end.Goals as goal

pub unreachable-requires : goal.unreachable-requires
unreachable-requires g c =
    let kept = carried_unlost _ _ _ _ _ _ c.self.invariant in
    let here = subst (λ (job : Job). IsUnlost job.place) (sym c.deref-job.ensures) kept in
    subst IsUnlost c.in-Lost.is here
