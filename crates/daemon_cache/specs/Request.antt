-- A daemon's requests, their answers, and their refusals.
use Rattle.std.specs.Prelude.{◌≡◌, ℕ, ◌==◌, not, List, Result, Ok, Err}
use Rattle.refusal.specs.Refusal.{◌>>=◌, check, refused_as}
use Rattle.refusal.specs.declared.fault.OrMemory.{OrMemory}
use Rattle.refusal.specs.declared.fault.OrMemory.TheVariants.{Memory, Refused}
use Rattle.path_server.specs.Lookup.{Selection}
use Rattle.policy_expr.specs.Options.{OptionTexts, WeighedRules, options_at}
use Rattle.combinator.specs.Answer.{AnswersWith, AnswerValue, is_limit}
use Rattle.segment_board.specs.Board.{Informed}
use Rattle.daemon_cache.specs.declared.fault.AskFault.{AskFault}
use Rattle.daemon_cache.specs.declared.fault.AskFault.TheVariants as fault

-- a request: its ends, the texts of its options, and the largest number of paths wanted
pub record RequestValue : Type 0 where
  pub src : ℕ
  pub dst : ℕ
  pub texts : List OptionTexts
  pub limit : ℕ

abbrev pub request_value : (src dst : ℕ) (texts : List OptionTexts) (limit : ℕ) → RequestValue
request_value src dst texts limit = record { src = src; dst = dst; texts = texts; limit = limit }

-- the answer is one to the request from this set of segments, under the options that the request's
-- texts give
pub record IsAnswerToRequest (request : RequestValue) (set : Selection)
    (answer : AnswerValue) : Type 0 where
  pub options : List WeighedRules
  pub read : options_at request.texts ≡ Ok options
  pub answers : AnswersWith set request.src request.dst options request.limit answer.used
      answer.paths

-- the request is lawful, or the first refusal: that of its limit, of its options, of its ends
unfoldable pub lawful_at : RequestValue → Result (Unit {0}) AskFault
lawful_at request = do
  few ← check (is_limit request.limit) fault.BadLimit
  options ← refused_as fault.Options (options_at request.texts)
  check (not (request.src == request.dst)) fault.SameAs

-- the error of a request. If the request is lawful, the reader could not enter the board, and has
-- seen nothing more; or memory ran out once it had entered, and it has seen what it found. Else it
-- is the refusal of the request, and the reader was not used.
abbrev pub GivesNoAnswer : (fault : OrMemory AskFault) (request : RequestValue)
    (before after : Informed) → Type 0
GivesNoAnswer Memory request before after =
    (lawful_at request ≡ Ok tt) × (after.found ≡ after.seen)
GivesNoAnswer (Refused fault.NoEntry) request before after =
    (lawful_at request ≡ Ok tt) × (after ≡ record before { found = after.found })
GivesNoAnswer (Refused refusal) request before after =
    (lawful_at request ≡ Err refusal) × (after ≡ before)
