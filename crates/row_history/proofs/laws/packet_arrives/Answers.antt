use Rattle.row_history.proofs.Happened.{arrives}
use Rattle.row_history.proofs.laws.packet_arrives.Goals as goal

pub returns : goal.returns
returns c = arrives
