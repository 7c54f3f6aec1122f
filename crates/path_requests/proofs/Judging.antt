-- The verifier judges a request whose header can be read and that has at most three pieces.
use Rattle.std.proofs.Common.{◌≡◌, ℕ, ◌≤◌, Bool, true, List, length, Result, Ok, ap, ◌∙◌, sym, subst}
use Rattle.std.specs.Prelude.{nat_le, String}
use Rattle.std.specs.declared.alloc.Global.{Global}
use Rattle.std.proofs.lemmas.Bool.{le-leb}
use Rattle.refusal.specs.declared.fault.OrMemory.{OrMemory}
use Rattle.refusal.specs.Refusal.{◌>>=◌, check, refused_as}
use Rattle.path_header.specs.Value.{HeaderValue}
use Rattle.path_header.specs.Reading.{read_at}
use Rattle.policy_expr.specs.Policy.{Rules}
use Rattle.path_verifier.specs.declared.fault.VerifyFault.TheVariants.{PieceCount}
use Rattle.path_verifier.specs.Piece.{PieceValue}
use Rattle.path_verifier.specs.Accepted.{request_of}
use Rattle.path_requests.specs.declared.fault.RequestFault.{RequestFault}
use Rattle.path_requests.specs.declared.fault.RequestFault.TheVariants.{Header, Path}
use Rattle.path_requests.specs.Asked.{Asked}
use Rattle.path_requests.specs.Given.{given_of, request_under}
use Rattle.path_requests.specs.Verdict.{AnswersVerdict, IsJudged}
use Rattle.path_requests.specs.Told.{Tells}

-- two steps that are not refused
both : {A B F : Type 0} (first : Result A F) (fits : Bool) (fault : F) (f : A → B) (x : A) → first ≡ Ok x → fits ≡ true
    → (first >>= (λ read. check fits fault >>= (λ few. Ok (f read)))) ≡ Ok (f x)
both first fits fault f x is holds =
    ap (λ r. r >>= (λ read. check fits fault >>= (λ few. Ok (f read)))) is ∙ ap
    (λ b. check b fault >>= (λ few. Ok (f x))) holds

request_read : (rules : Rules) (asked : Asked) (pieces : List PieceValue) (bytes : List ℕ) (header : HeaderValue) (len : ℕ)
    → read_at bytes ≡ Ok (header, len) → length pieces ≤ 3
    → request_under rules (given_of asked pieces bytes)
    ≡ Ok (request_of pieces header asked.src asked.dst asked.moment rules)
unfolding request_under
request_read rules asked pieces bytes header len read few =
    both (refused_as Header (read_at bytes)) (nat_le (length pieces) 3) (Path PieceCount)
    (λ (read : HeaderValue × ℕ). request_of pieces read.0 asked.src asked.dst asked.moment rules)
    (header, len) (ap (refused_as Header) read) (le-leb (length pieces) 3 few)

-- so what answers the request to the verifier answers the request to verify
pub answered : (rules : Rules) (asked : Asked) (list pieces : List PieceValue) (bytes : List ℕ) (header : HeaderValue) (len : ℕ)
    (result : Result (String Global) (OrMemory RequestFault))
    → read_at bytes ≡ Ok (header, len) → length list ≤ 3 → pieces ≡ list
    → Tells (IsJudged (request_of pieces header asked.src asked.dst asked.moment rules)) result
    → Tells (AnswersVerdict (request_under rules (given_of asked list bytes))) result
answered rules asked list pieces bytes header len result read few same judged =
    subst (λ given. Tells (AnswersVerdict given) result) (sym (request_read rules asked list bytes header len read few))
    (subst (λ ps. Tells (IsJudged (request_of ps header asked.src asked.dst asked.moment rules)) result) same judged)
