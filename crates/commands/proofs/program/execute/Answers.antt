-- Words that are refused are answered before anything is read.
use Rattle.commands.proofs.Done.{Does-refused, IsStill-same}
use Rattle.commands.proofs.program.execute.Goals as goal

pub returns-in_err-command-clause-does : goal.returns-in_err-command-clause-does
returns-in_err-command-clause-does g c =
    Does-refused c.from_residual.result c.in_err-command.field-0.0 _ _ _ c.from_residual.ensures.1 c.in_err-command.ensures.asks
    (IsStill-same g.S.Source.left g.S.Source.failed _) (IsStill-same g.K.Sink.held g.K.Sink.failed _)
