use Rattle.forwarding.proofs.Bounded.{ended_in_time, fewer_before, passed_before, stops_are_there, owners_are_there}
use Rattle.forwarding.proofs.laws.journeys_are_bounded.Goals as goal

pub returns : goal.returns
returns c = record { ended = ended_in_time; before = fewer_before; passed = passed_before; there = stops_are_there; owners = owners_are_there }
