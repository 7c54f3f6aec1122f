use Rattle.router_workers.proofs.Delivered.{delivered}
use Rattle.router_workers.proofs.laws.sound_flights_are_delivered.Goals as goal

pub returns : goal.returns
returns c = delivered
