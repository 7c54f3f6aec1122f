-- The source has the input, and what is left of it afterwards.
use Rattle.std.proofs.Common.{ap, Some}
use Rattle.streams.specs.Adapters.{reader_behind}
use Rattle.views.proofs.Wrapping.{answered}
use Rattle.views.proofs.wrapped.write_replies.Goals as goal

pub returns : goal.returns
returns g c =
    answered c.in_ok-network_after.field-0 c.args.input.now _ (Some (reader_behind c.network_after.new.source).now) _ _
    (ap (λ slice. Some slice.now) c.new.ensures.reader) c.in_ok-network_after.ensures.listens
