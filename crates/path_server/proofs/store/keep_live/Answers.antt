use Rattle.std.proofs.Common.{rules}
use Rattle.std.proofs.lemmas.Fn.{filter_same}
use Rattle.path_segment.specs.Tests.{is_live}
use Rattle.path_server.proofs.store.keep_live.Goals as goal

pub returns-clause-kept : goal.returns-clause-kept
returns-clause-kept c = filter_same _ (is_live c.args.now) _ (λ x b f' k. search rules) _ _ c.retain.ensures.filtered
