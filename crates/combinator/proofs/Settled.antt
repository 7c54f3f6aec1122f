-- A walk is met where the best path for it is.
use Rattle.std.proofs.Common.{◌≡◌, ℕ, List, [], ◌∷◌, sym, subst, inl, inr}
use Rattle.std.specs.List.{AllByRecursion}
use Rattle.std.specs.declared.cmp.Ordering.TheVariants.{Less, Equal}
use Rattle.path_header.specs.Value.{HeaderValue}
use Rattle.policy_expr.specs.declared.hop.WalkHop.{WalkHop}
use Rattle.path_verifier.specs.Piece.{PieceValue}
use Rattle.path_verifier.specs.Walk.{walk_of}
use Rattle.combinator.specs.Candidate.{Question, PathValue, AreSpelled, path_with}
use Rattle.combinator.specs.Order.{header_and_walk, shown_cmp, path_cmp}
use Rattle.combinator.specs.Answer.{IsBest}
use Rattle.combinator.specs.inner.Placed.{Tied, Met}
use Rattle.combinator.specs.inner.Search.{IsMetBy}
use Rattle.combinator.proofs.Agreeing.{best_is_one}

-- ---- paths that show the same are met alike

tied_alike : (one other : PathValue) → header_and_walk one ≡ header_and_walk other → (paths : List PathValue)
    → Tied path_cmp one paths → Tied path_cmp other paths
tied_alike one other same [] tied = tied
tied_alike one other same (path ∷ paths) (inl tie) =
    inl (subst (λ (shown : HeaderValue × List WalkHop). shown_cmp shown (header_and_walk path) ≡ Equal) same tie)
tied_alike one other same (path ∷ paths) (inr tied) = inr (tied_alike one other same paths tied)

before_alike : (one other : PathValue) → header_and_walk one ≡ header_and_walk other → (paths : List PathValue)
    → AllByRecursion (λ path. path_cmp path one ≡ Less) paths
    → AllByRecursion (λ path. path_cmp path other ≡ Less) paths
before_alike one other same [] all = tt
before_alike one other same (path ∷ paths) all = (
  subst (λ (shown : HeaderValue × List WalkHop). shown_cmp (header_and_walk path) shown ≡ Less) same all.0,
  before_alike one other same paths all.1,
)

met_alike : (limit : ℕ) (paths : List PathValue) (one other : PathValue)
    → header_and_walk one ≡ header_and_walk other → Met path_cmp limit paths one
    → Met path_cmp limit paths other
met_alike limit paths one other same (inl tied) = inl (tied_alike one other same paths tied)
met_alike limit paths one other same (inr full) = inr (full.0, before_alike one other same paths full.1)

-- ---- a walk of which the best path is met

module _ (question : Question) (spelled : AreSpelled question) (limit : ℕ) where
  pub met_by_best : (paths : List PathValue) (best : PathValue) (pieces : List PieceValue)
      → IsBest question best → Met path_cmp limit paths best → walk_of pieces ≡ walk_of best.pieces
      → IsMetBy question limit paths pieces
  unfolding IsMetBy
  met_by_best paths best pieces is met walk = λ header also.
      met_alike limit paths best (path_with pieces header)
      (best_is_one question spelled best (path_with pieces header) is also (sym walk)) met
