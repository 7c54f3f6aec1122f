use Rattle.forwarding.proofs.Ended.{turn_by_view}
use Rattle.forwarding.proofs.laws.views_are_of_the_place.Goals as goal

pub returns : goal.returns
returns c = turn_by_view
