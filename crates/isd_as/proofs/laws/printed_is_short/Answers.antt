use Rattle.isd_as.proofs.Canonical.{length-canonical-le}
use Rattle.isd_as.proofs.laws.printed_is_short.Goals as goal

pub returns : goal.returns
returns c = length-canonical-le
