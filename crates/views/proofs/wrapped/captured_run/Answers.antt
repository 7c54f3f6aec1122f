-- All that was read is answered and captured.
use Rattle.views.proofs.Wrapping.{captured}
use Rattle.views.proofs.wrapped.captured_run.Goals as goal

pub returns : goal.returns
returns g c =
    captured c.args.info.now c.in_ok-input.input.items c.in_ok-capture.field-0.items c.deref.result.now c.deref-2.result.now
    _ _ _ _ c.in_ok-input.ensures.bytes.0.0 c.deref.ensures.value c.deref-2.ensures.value c.in_ok-write_replies.ensures
    c.in_ok-capture.ensures
