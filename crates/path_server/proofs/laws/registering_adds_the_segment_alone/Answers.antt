use Rattle.path_server.proofs.Plain.{Contains-registered_kept, Contains-registered_added}
use Rattle.path_server.proofs.laws.registering_adds_the_segment_alone.Goals as goal

pub returns : goal.returns
returns c = record { kept = Contains-registered_kept; added = Contains-registered_added }
