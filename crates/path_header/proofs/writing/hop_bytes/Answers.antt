use Rattle.std.proofs.Common.{rules}
use Rattle.path_header.proofs.Room.{six}
use Rattle.path_header.proofs.writing.hop_bytes.Goals as goal

pub returns-clause-text : goal.returns-clause-text
returns-clause-text c = search (rules, six)
