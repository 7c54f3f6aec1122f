use Rattle.std.proofs.lemmas.Result.{on_ok_weaker}
use Rattle.beacon_lines.proofs.Serving.{served_both}
use Rattle.beacon_lines.proofs.search.SearchGraph.serve_both.Goals as goal

pub returns-clause-served : goal.returns-clause-served
returns-clause-served c = on_ok_weaker c.serve-2.result (λ d.
    served_both c.args.options.now c.args.self.now c.args.origin c.min-per_pair.result c.min.result
    c.args.run.now.net c.serve.new.run.net c.serve-2.new.run.net c.min-per_pair.ensures
    c.min.ensures
    c.in_ok-serve.ensures.served d) c.serve-2.ensures.served
