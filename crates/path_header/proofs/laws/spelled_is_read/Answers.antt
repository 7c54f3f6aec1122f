use Rattle.path_header.proofs.WholeHeader.{spelled_is_read, spelled_is_long, spelling_spells}
use Rattle.path_header.proofs.laws.spelled_is_read.Goals as goal

pub returns : goal.returns
returns c = record { read = spelled_is_read; long = spelled_is_long; spelled = spelling_spells }
