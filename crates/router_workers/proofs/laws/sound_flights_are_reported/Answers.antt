use Rattle.router_workers.proofs.Reported.{sound_reported}
use Rattle.router_workers.proofs.laws.sound_flights_are_reported.Goals as goal

pub returns : goal.returns
returns c = sound_reported
