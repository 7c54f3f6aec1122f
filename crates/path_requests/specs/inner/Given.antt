-- The answer to a request of which a part was read.
use Rattle.std.specs.Prelude.{ℕ, List}
use Rattle.refusal.specs.Refusal.{◌>>=◌}
use Rattle.serde_json.specs.Data.{Data}
use Rattle.path_requests.specs.Asked.{Asked}
use Rattle.path_requests.specs.Given.{given_with, request_at}
use Rattle.path_requests.specs.Verdict.{AnswersVerdict}

-- the text answers the request to verify in this JSON value, whose common part is this one
abbrev pub AnswersGiven : Asked → Data → List ℕ → Type 0
AnswersGiven asked d text = AnswersVerdict (given_with asked d >>= request_at) text
