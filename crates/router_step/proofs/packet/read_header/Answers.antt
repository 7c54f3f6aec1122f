-- What the bytes behind the addresses spell is what is read of them.
use Rattle.std.proofs.Common.{◌∙◌}
use Rattle.router_step.proofs.Frames.{behind}
use Rattle.router_step.proofs.packet.read_header.Goals as goal

pub returns-in-Ok-clause-only : goal.returns-in-Ok-clause-only
returns-in-Ok-clause-only c addresses text rest header f =
    let read = c.decode.ensures.only header text rest f.spells (c.split_at.ensures.back ∙ behind _ addresses text rest header f) in cc

pub returns-in-Err-clause-only : goal.returns-in-Err-clause-only
returns-in-Err-clause-only c addresses text rest header f =
    let read = c.decode.ensures.only header text rest f.spells (c.split_at.ensures.back ∙ behind _ addresses text rest header f) in absurd (cc)
