use Rattle.path_requests.proofs.Places.{told}
use Rattle.path_requests.proofs.laws.places_are_of_the_segments.Goals as goal

pub returns : goal.returns
returns c = told
