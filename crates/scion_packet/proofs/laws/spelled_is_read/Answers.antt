use Rattle.scion_packet.proofs.Spelled.{spelled_is_read, whole_of}
use Rattle.scion_packet.proofs.laws.spelled_is_read.Goals as goal

pub returns-clause-read : goal.returns-clause-read
returns-clause-read c = spelled_is_read

pub returns-clause-parts : goal.returns-clause-parts
returns-clause-parts c = whole_of
