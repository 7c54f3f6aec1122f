use Rattle.combinator.proofs.Moments.{turned_set, answer_too, options_too}
use Rattle.combinator.proofs.laws.answers_outlast_moments.Goals as goal

pub returns-clause-paths : goal.returns-clause-paths
returns-clause-paths c = λ set other src dst rules limit paths same here there. (
  answer_too set other src dst rules same here there limit paths,
  answer_too other set src dst rules (turned_set set other same) there here limit paths,
)

pub returns-clause-options : goal.returns-clause-options
returns-clause-options c = λ set other src dst options limit used paths same here there. (
  options_too set other src dst same here there options limit used paths,
  options_too other set src dst (turned_set set other same) there here options limit used paths,
)
