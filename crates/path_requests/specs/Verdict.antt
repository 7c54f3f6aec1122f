-- The answers to requests to verify a path.
use Rattle.std.specs.Prelude.{◌≡◌, ◌⊎◌, ℕ, List, Result, Ok, Err}
use Rattle.refusal.specs.Refusal.{◌>>=◌}
use Rattle.path_verifier.specs.declared.fault.VerifyFault.{VerifyFault}
use Rattle.path_verifier.specs.Accepted.{Request, IsAccepted, IsRefused}
use Rattle.path_requests.specs.declared.fault.RequestFault.{RequestFault}
use Rattle.path_requests.specs.declared.fault.RequestFault.TheVariants.{Path}
use Rattle.path_requests.specs.Given.{given_in, request_at}
use Rattle.path_requests.specs.Text.{accepted_json, fault_json}

-- the path may be sent, and the text describes it; or it may not, and the text has the fault of the
-- first rule that it breaks
abbrev pub IsJudged : Request → List ℕ → Type 0
IsJudged request text =
    (IsAccepted request × (text ≡ accepted_json request.pieces))
    ⊎ ((fault : VerifyFault) × (IsRefused request fault × (text ≡ fault_json (Path fault))))

-- the verifier has judged the request; or the text has the refusal before it
abbrev pub AnswersVerdict : Result Request RequestFault → List ℕ → Type 0
AnswersVerdict (Ok request) text = IsJudged request text
AnswersVerdict (Err fault) text = text ≡ fault_json fault

-- the text answers the request to verify in these bytes
abbrev pub AnswersVerify : (bytes text : List ℕ) → Type 0
AnswersVerify bytes text = AnswersVerdict (given_in bytes >>= request_at) text
