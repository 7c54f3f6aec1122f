-- Whether a path is the best for its walk: no candidate of the same walk is better.
use Rattle.std.proofs.Common.{List, []}
use Rattle.path_verifier.specs.Piece.{PieceValue}
use Rattle.combinator.specs.Candidate.{Question, PathValue, IsCandidate}
use Rattle.combinator.specs.Answer.{IsBest}
use Rattle.combinator.specs.inner.Search.{HaveAll, IsNoBetter, OfEachBehind}
use Rattle.combinator.proofs.Answering.{of_candidate}

pub found_best : (question : Question) (usable_pieces : List PieceValue) (found : PathValue)
    → HaveAll question usable_pieces → IsCandidate question found
    → OfEachBehind (IsNoBetter question found) usable_pieces 3 [] question.src → IsBest question found
unfolding IsNoBetter
found_best question usable_pieces found whole candidate tried =
    let none = of_candidate question usable_pieces whole (IsNoBetter question found) tried in
    record {
      candidate = candidate;
      latest = λ other is same. (none other is other.header is same).latest;
      least = λ other is same. (none other is other.header is same).least;
    }
