-- The answers to requests for paths.
use Rattle.std.specs.Prelude.{◌≡◌, ℕ, List, [], Result, Ok, Err}
use Rattle.std.specs.List.{fold}
use Rattle.refusal.specs.Refusal.{◌>>=◌, check, refused_as}
use Rattle.path_segment.specs.Chain.{Chain}
use Rattle.path_server.specs.Store.{with_registered}
use Rattle.path_server.specs.Lookup.{Selection, segments_for}
use Rattle.policy_expr.specs.Options.{WeighedRules, options_at}
use Rattle.combinator.specs.Answer.{AnswerValue, AnswersWith, is_limit}
use Rattle.combinator.specs.Fault.{ends_at}
use Rattle.path_requests.specs.declared.fault.RequestFault.{RequestFault}
use Rattle.path_requests.specs.declared.fault.RequestFault.TheVariants.{BadLimit, Policy, Ends}
use Rattle.path_requests.specs.Asked.{Asked, PathsAsked, paths_asked_in}
use Rattle.path_requests.specs.Text.{answer_json, fault_json}

-- the options of a request, or its first refusal
unfoldable pub options_of_request : PathsAsked → Result (List WeighedRules) RequestFault
options_of_request request = do
  _ ← check (is_limit request.limit) BadLimit
  options ← refused_as Policy (options_at request.asked.options)
  _ ← refused_as Ends (ends_at request.asked.src request.asked.dst)
  Ok options

-- the store after each of these segments was registered, in their order
abbrev pub with_all_registered : (moment : ℕ) (store segments : List Chain) → List Chain
with_all_registered moment store segments =
    fold (λ known segment. with_registered known segment moment) store segments

-- the lookup in a store of the request's segments
abbrev pub selection_of : Asked → Selection
selection_of asked =
    segments_for (with_all_registered asked.moment [] asked.segments)
    asked.src asked.dst asked.moment

-- the answer is one to the request under these options
abbrev pub AreAnswer : PathsAsked → List WeighedRules → AnswerValue → Type 0
AreAnswer request options answer =
    AnswersWith (selection_of request.asked) request.asked.src request.asked.dst options
    request.limit answer.used answer.paths

-- the text is that of an answer, or of the refusal of the request
abbrev pub AnswersUnder : PathsAsked → Result (List WeighedRules) RequestFault → List ℕ → Type 0
AnswersUnder request (Ok options) text =
    (answer : AnswerValue) × (AreAnswer request options answer
    × (text ≡ answer_json request.asked.segments answer))
AnswersUnder request (Err fault) text = text ≡ fault_json fault

abbrev pub AnswersRequest : Result PathsAsked RequestFault → List ℕ → Type 0
AnswersRequest (Ok request) text = AnswersUnder request (options_of_request request) text
AnswersRequest (Err fault) text = text ≡ fault_json fault

-- the text answers the request in these bytes
abbrev pub AnswersPaths : (bytes text : List ℕ) → Type 0
AnswersPaths bytes text = AnswersRequest (paths_asked_in bytes) text
