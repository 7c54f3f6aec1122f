use Rattle.std.proofs.Common.{rules}
use Rattle.std.proofs.lemmas.Fn.{filter_same}
use Rattle.path_segment.specs.Tests.{is_live}
use Rattle.path_server.specs.inner.Index.{passes_at}
use Rattle.path_server.proofs.sweeps.keep_places.Goals as goal

pub returns-clause-kept : goal.returns-clause-kept
returns-clause-kept c = filter_same _ (passes_at (is_live c.args.now) c.args.segments.now) _ (λ x b f' k. search rules) _ _ c.retain.ensures.filtered
