-- A report, from the ends of all flights.
use Rattle.std.proofs.Common.{◌≡◌, ℕ, List, length, subst}
use Rattle.router_workers.specs.Flight.{FlightValue}
use Rattle.router_workers.specs.Run.{IsFlightEnd, IsReport}
use Rattle.router_workers.specs.inner.Run.{AreEnds}
use Rattle.router_workers.specs.declared.end.End.{End}

pub reported : (ends : List End) (flights : List FlightValue) (now slots : ℕ)
    → length ends ≡ length flights → AreEnds flights now slots ends
    → IsReport flights now slots ends
reported ends flights now slots all each = record {
  all = all;
  each = λ i given end at here.
      let e = each i end here in
      let same : e.0 ≡ given = cc (e.1.0, at) in
      subst (λ (g : FlightValue). IsFlightEnd flights now slots g end) same e.1.1;
}
