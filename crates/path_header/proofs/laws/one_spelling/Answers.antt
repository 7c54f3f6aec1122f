use Rattle.std.proofs.Common.{sym, ◌∙◌}
use Rattle.path_header.proofs.WholeHeader.{spelled_once}
use Rattle.path_header.proofs.laws.one_spelling.Goals as goal

pub returns-clause-same_text : goal.returns-clause-same_text
returns-clause-same_text c = λ v text other first second. first.spelled ∙ sym second.spelled

pub returns-clause-no_prefix : goal.returns-clause-no_prefix
returns-clause-no_prefix c = spelled_once
