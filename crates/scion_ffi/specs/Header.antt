-- The answers about a path header.
use Rattle.std.specs.Prelude.{◌≡◌, ℕ, List, ◌++◌, drop, Result, Ok, Err}
use Rattle.path_header.specs.declared.fault.HeaderFault.{HeaderFault}
use Rattle.path_header.specs.Value.{HeaderValue}
use Rattle.path_header.specs.Spelling.{spelling}
use Rattle.path_header.specs.Reversal.{reversed_header}
use Rattle.scion_ffi.specs.declared.answer.ScionAnswer.{ScionAnswer}
use Rattle.scion_ffi.specs.Answer.{answer, header_answer}

-- the answer about a header: its length, or why there is none
abbrev pub read_answer : Result (HeaderValue × ℕ) HeaderFault → ScionAnswer
read_answer (Ok read) = answer 0 read.1
read_answer (Err fault) = header_answer fault

-- the reversed header has replaced the header; or there is no header, and no byte has changed
abbrev pub IsTurnedRound : (read : Result (HeaderValue × ℕ) HeaderFault) (old new : List ℕ) → Type 0
IsTurnedRound (Ok read) old new = new ≡ spelling (reversed_header read.0) ++ drop read.1 old
IsTurnedRound (Err fault) old new = new ≡ old
