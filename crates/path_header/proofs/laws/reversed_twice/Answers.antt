use Rattle.path_header.proofs.TurnedTwice.{turned_twice}
use Rattle.path_header.proofs.laws.reversed_twice.Goals as goal

pub returns-clause-back : goal.returns-clause-back
returns-clause-back c = turned_twice
