use Rattle.std.proofs.Common.{Bool, Result, Ok, inl, subst}
use Rattle.event_lines.specs.declared.fault.RunFault.{RunFault}
use Rattle.line_faults.specs.declared.finding.FindingForm.{FindingForm}
use Rattle.line_faults.specs.Explained.{AreExplained}
use Rattle.views.specs.Explained.{form_of}
use Rattle.views.proofs.explain.explanation.Goals as goal

pub returns-in-Ok-clause-explains : goal.returns-in-Ok-clause-explains
returns-in-Ok-clause-explains g c =
    inl (subst (λ (result : Result Bool RunFault). AreExplained (form_of c.args.is_json) result
    (g.S.Source.left c.args.source.now) (g.S.Source.left c.explain.new.source)
    (g.K.Sink.held c.args.sink.now) (g.K.Sink.held c.explain.new.sink))
    c.in-Ok.is
    (subst (λ (form : FindingForm). AreExplained form c.explain.result
    (g.S.Source.left c.args.source.now) (g.S.Source.left c.explain.new.source)
    (g.K.Sink.held c.args.sink.now) (g.K.Sink.held c.explain.new.sink))
    c.form_of-form.ensures c.explain.ensures.explained))
