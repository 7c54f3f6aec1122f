use Rattle.path_header.proofs.SameHeader.{header_eq-Decides}
use Rattle.path_header.proofs.header.Header.is_same.Goals as goal

pub returns : goal.returns
returns c = header_eq-Decides c.args.self.now c.args.other.now c.eq.result c.eq.ensures
