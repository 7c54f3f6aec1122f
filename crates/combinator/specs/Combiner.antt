-- Of what paths between two ASes are made.
use Rattle.std.specs.Prelude.{ℕ}
use Rattle.path_server.specs.Lookup.{Selection}
use Rattle.policy_expr.specs.Policy.{Rules}
use Rattle.combinator.specs.Candidate.{Question, question_of}

-- the known segments, and the ends of the paths
pub record CombinerValue : Type 0 where
  pub set : Selection
  pub src : ℕ
  pub dst : ℕ

abbrev pub combiner_of : (set : Selection) (src dst : ℕ) → CombinerValue
combiner_of set src dst = record { set = set; src = src; dst = dst }

-- the question for the paths under a policy
abbrev pub asked_of : CombinerValue → Rules → Question
asked_of combiner rules = question_of combiner.set combiner.src combiner.dst rules
