-- The turn is that of what was read, and each fault is answered as it came.
use Rattle.std.proofs.Common.{◌∙◌}
use Rattle.std.specs.Prelude.{Ok}
use Rattle.commands.proofs.Done.{IsStill-same, Prints-fault, Prints-memory, Prints-unwritten, Prints-written, Steps-read, Steps-unread}
use Rattle.commands.proofs.program.run_step.Goals as goal

pub returns-in_err-packet : goal.returns-in_err-packet
returns-in_err-packet g c =
    Steps-unread c.from_residual.result c.in_err-packet.field-0.0 _ _ _ c.from_residual.ensures.1
    (c.in_err-packet.ensures.bytes, c.in_err-packet.ensures.flag) (IsStill-same g.K.Sink.held g.K.Sink.failed _)

pub returns-in_err-line : goal.returns-in_err-line
returns-in_err-line g c =
    Steps-read c.from_residual-in_err-line.result c.args.command.now _ _ c.in_ok-packet.packet.items c.deref.result.now
    (c.in_ok-packet.ensures.bytes, c.in_ok-packet.ensures.flag) c.deref.ensures.value
    (Prints-fault c.from_residual-in_err-line.result c.in_err-line.field-0.0 _ _ c.from_residual-in_err-line.ensures.1
    c.in_err-line.ensures (IsStill-same g.K.Sink.held g.K.Sink.failed _))

pub returns-in_err-push_str : goal.returns-in_err-push_str
returns-in_err-push_str g c =
    Steps-read c.from_residual-in_err-push_str.result c.args.command.now _ _ c.in_ok-packet.packet.items c.deref.result.now
    (c.in_ok-packet.ensures.bytes, c.in_ok-packet.ensures.flag) c.deref.ensures.value
    (Prints-memory c.from_residual-in_err-push_str.result _ _ c.from_residual-in_err-push_str.ensures.1
    (IsStill-same g.K.Sink.held g.K.Sink.failed _))

pub returns-in_err-write_all : goal.returns-in_err-write_all
returns-in_err-write_all g c =
    Steps-read c.from_residual-in_err-write_all.result c.args.command.now _ _ c.in_ok-packet.packet.items c.deref.result.now
    (c.in_ok-packet.ensures.bytes, c.in_ok-packet.ensures.flag) c.deref.ensures.value
    (Prints-unwritten c.from_residual-in_err-write_all.result _ _ c.as_bytes.result.now _ c.from_residual-in_err-write_all.ensures.1
    c.in_ok-line.ensures (c.as_bytes.ensures.value ∙ c.in_ok-push_str.ensures.bytes) c.in_err-write_all.ensures.front
    c.in_err-write_all.ensures.flag)

pub returns : goal.returns
returns g c =
    Steps-read (Ok (tt {0})) c.args.command.now _ _ c.in_ok-packet.packet.items c.deref.result.now
    (c.in_ok-packet.ensures.bytes, c.in_ok-packet.ensures.flag) c.deref.ensures.value
    (Prints-written (tt {0}) _ _ c.as_bytes.result.now _ c.in_ok-line.ensures
    (c.as_bytes.ensures.value ∙ c.in_ok-push_str.ensures.bytes) c.in_ok-write_all.ensures.written c.in_ok-write_all.ensures.flag)
