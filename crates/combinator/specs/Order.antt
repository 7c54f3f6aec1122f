-- The order of the paths in an answer, and the order of paths with the same walk.
use Rattle.std.specs.Prelude.{◌≡◌, ℕ, List, length}
use Rattle.std.specs.declared.cmp.Ordering.{Ordering}
use Rattle.std.specs.Ordering.{nat_cmp, ordering_then}
use Rattle.std.specs.Cmp.Lexicographic.{slice_cmp}
use Rattle.path_header.specs.Value.{HeaderValue}
use Rattle.path_header.specs.Spelling.{spelling}
use Rattle.policy_expr.specs.declared.hop.WalkHop.{WalkHop}
use Rattle.path_verifier.specs.Piece.{PieceValue}
use Rattle.path_verifier.specs.Walk.{walk_of}
use Rattle.path_verifier.specs.Accepted.{LastTo}
use Rattle.combinator.specs.Candidate.{PathValue}

-- the parts of a path by which it is ordered: its header and its walk
abbrev pub header_and_walk : PathValue → HeaderValue × List WalkHop
header_and_walk path = (path.header, walk_of path.pieces)

-- the order of hops: by AS, then by way in, then by way out
abbrev pub hop_cmp : (one other : WalkHop) → Ordering
hop_cmp one other = ordering_then (nat_cmp one.ia other.ia)
    (ordering_then (nat_cmp one.ingress other.ingress) (nat_cmp one.egress other.egress))

-- the order of walks, hop by hop
abbrev pub walk_cmp : (one other : List WalkHop) → Ordering
walk_cmp = slice_cmp hop_cmp

-- the order of headers, by their bytes
unfoldable pub bytes_cmp : (one other : HeaderValue) → Ordering
bytes_cmp one other = slice_cmp nat_cmp (spelling one) (spelling other)

-- the order of headers with walks: by number of hop fields, then by header bytes, then by walk
unfoldable pub shown_cmp : (one other : HeaderValue × List WalkHop) → Ordering
shown_cmp one other = ordering_then (nat_cmp (length one.0.hops) (length other.0.hops))
    (ordering_then (bytes_cmp one.0 other.0) (walk_cmp one.1 other.1))

-- the order of paths in an answer
abbrev pub path_cmp : (one other : PathValue) → Ordering
path_cmp one other = shown_cmp (header_and_walk one) (header_and_walk other)

-- the pieces expire no earlier than the others
abbrev pub LastAsLong : (pieces others : List PieceValue) → Type 0
LastAsLong pieces others = (half : ℕ) → LastTo half others → LastTo half pieces

-- both paths have the same walk
abbrev pub HaveOneWalk : (one other : PathValue) → Type 0
HaveOneWalk one other = walk_of one.pieces ≡ walk_of other.pieces
