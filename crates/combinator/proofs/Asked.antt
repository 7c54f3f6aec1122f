-- What the verifier's parts say of a path that was found.
use Rattle.std.proofs.Common.{◌≡◌, ℕ, List, None, All, refl, sym, subst}
use Rattle.path_header.specs.Value.{HeaderValue}
use Rattle.policy_expr.specs.declared.hop.WalkHop.{WalkHop}
use Rattle.policy_expr.specs.Policy.{AllowsHops, HasWord, Rules}
use Rattle.path_verifier.specs.Piece.{PieceValue}
use Rattle.path_verifier.specs.Header.{header_of}
use Rattle.path_verifier.specs.Walk.{walk_of}
use Rattle.path_verifier.specs.Accepted.{MakesPath, request_of, IsAccepted, IsRefused}
use Rattle.path_verifier.specs.declared.fault.VerifyFault.{VerifyFault}
use Rattle.path_verifier.proofs.Breaches.{accepts, hops_kept, word_kept, refused_is_not_accepted}
use Rattle.combinator.specs.Candidate.{Question, PathValue, IsCandidate, IsOf, path_with}
use Rattle.combinator.proofs.Tried.{accepted_as_asked}

-- pieces that are refused under each policy are no path
pub refused_is_no_path : (pieces : List PieceValue) (src dst now : ℕ) (fault : VerifyFault)
    → ((header : HeaderValue) (rules : Rules) → IsRefused (request_of pieces header src dst now rules) fault)
    → ¬ (MakesPath pieces src dst now)
refused_is_no_path pieces src dst now fault refused path =
    let any : Rules = record { acl = None; sequence = None } in
    let request = request_of pieces (header_of pieces) src dst now any in
    refused_is_not_accepted request fault (refused (header_of pieces) any) (accepts request path refl tt tt)

-- a path of the question, as the code sees it
pub path_seen : (question seen : Question) (pieces own : List PieceValue) (moment : ℕ) → own ≡ pieces → seen ≡ question
    → moment ≡ seen.set.moment → MakesPath pieces question.src question.dst question.set.moment
    → MakesPath own seen.src seen.dst moment
path_seen question seen pieces own moment same is at path =
    subst (λ (m : ℕ). MakesPath own seen.src seen.dst m) (sym at)
    (subst (λ (q : Question). MakesPath own q.src q.dst q.set.moment) (sym is)
    (subst (λ (ps : List PieceValue). MakesPath ps question.src question.dst question.set.moment) (sym same) path))

-- a candidate is a path that the policy allows
module _ (question : Question) (found : PathValue) (own : All (IsOf question.set) found.pieces)
    (header : found.header ≡ header_of found.pieces) where
  pub candidate_of_parts : MakesPath found.pieces question.src question.dst question.set.moment
      → (walk : List WalkHop) → walk ≡ walk_of found.pieces → (rules : Rules) → rules ≡ question.rules
      → AllowsHops rules.acl walk → HasWord rules.sequence walk → IsCandidate question found
  candidate_of_parts path walk is rules as_asked hops word = record {
    own = own;
    accepted = accepts (request_of found.pieces found.header question.src question.dst question.set.moment question.rules)
        path header
        (subst (λ (r : Rules). AllowsHops r.acl (walk_of found.pieces)) as_asked (subst (AllowsHops rules.acl) is hops))
        (subst (λ (r : Rules). HasWord r.sequence (walk_of found.pieces)) as_asked (subst (HasWord rules.sequence) is word));
  }

pub allowed_hops : (question : Question) (found : PathValue) (walk : List WalkHop) (rules : Rules) → walk ≡ walk_of found.pieces
    → rules ≡ question.rules → IsCandidate question found → AllowsHops rules.acl walk
allowed_hops question found walk rules is as_asked candidate =
    subst (AllowsHops rules.acl) (sym is) (subst (λ (r : Rules). AllowsHops r.acl (walk_of found.pieces)) (sym as_asked) (hops_kept candidate.accepted))

pub allowed_word : (question : Question) (found : PathValue) (walk : List WalkHop) (rules : Rules) → walk ≡ walk_of found.pieces
    → rules ≡ question.rules → IsCandidate question found → HasWord rules.sequence walk
allowed_word question found walk rules is as_asked candidate =
    subst (HasWord rules.sequence) (sym is) (subst (λ (r : Rules). HasWord r.sequence (walk_of found.pieces)) (sym as_asked) (word_kept candidate.accepted))

-- a candidate is accepted
pub candidate_is_accepted : (question seen : Question) (found : PathValue) (own : List PieceValue) (moment : ℕ)
    → own ≡ found.pieces → seen ≡ question → moment ≡ seen.set.moment → IsCandidate question found
    → IsAccepted (request_of own (header_of own) seen.src seen.dst moment seen.rules)
candidate_is_accepted question seen found own moment same is at candidate =
    accepted_as_asked question seen own moment is at found.header
    (subst (λ (ps : List PieceValue). IsCandidate question (path_with ps found.header)) (sym same) candidate)
