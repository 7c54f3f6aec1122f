-- What is said of the paths between two ASes.
use Rattle.std.specs.Prelude.{◌≡◌, ◌⊎◌, ◌↔◌, ℕ, ◌<◌, ◌≤◌, ◌/◌, ◌==◌, ◌&&◌, not, Bool, true, false, List, [], ◌∷◌, length, filter, map, Contains, Option, Some, None}
use Rattle.std.specs.List.{list_all}
use Rattle.scion_topology.specs.declared.network.AsEntry.{AsEntry}
use Rattle.scion_topology.specs.declared.network.Link.{Link}
use Rattle.path_server.specs.Lookup.{segments_for}
use Rattle.policy_expr.specs.Policy.{Rules}
use Rattle.policy_expr.specs.declared.hop.WalkHop.{WalkHop}
use Rattle.path_verifier.specs.Piece.{PieceValue}
use Rattle.path_verifier.specs.Walk.{walk_of}
use Rattle.path_verifier.specs.Accepted.{IsExpiry}
use Rattle.combinator.specs.Candidate.{Question, question_of, PathValue, IsCandidate}
use Rattle.combinator.specs.Answer.{IsAnswer}
use Rattle.combinator.specs.Walks.{AreWalks}
use Rattle.network_core.specs.Value.{NetValue}
use Rattle.path_report.specs.declared.pair.AsPair.{AsPair}
use Rattle.path_report.specs.declared.best.BestPath.{BestPath}
use Rattle.path_report.specs.Paths.{crosses, passes, is_open, open_paths, open_walks, IsSurvived}

-- what is said of an ordered pair of ASes: whether there may be more walks than were found, the
-- number of open ones, the best open path, how many links may be lost, the links that each open
-- walk crosses, and the ASes between the two that each open walk passes
pub record PairValue : Type 0 where
  pub pair : AsPair
  pub is_full : Bool
  pub paths : ℕ
  pub best : Option BestPath
  pub survives : ℕ
  pub needed : List Link
  pub through : List ℕ

-- the question for the paths of a pair in a network, at its second
abbrev pub question_between : NetValue → Rules → AsPair → Question
question_between net rules pair =
    question_of (segments_for net.segments pair.from pair.to net.moment) pair.from pair.to rules

-- what is said of the path of these pieces: its hops, and the last second at which they are live
abbrev pub TellsPath : List PieceValue → BestPath → Type 0
TellsPath pieces best = (half : ℕ) × (IsExpiry pieces half
    × (best ≡ record { hops = length (walk_of pieces); last = half / 2 }))

-- what is said of the first of these paths, if there is one
abbrev pub TellsFirst : List PathValue → Option BestPath → Type 0
TellsFirst [] best = best ≡ None
TellsFirst (path ∷ later) best =
    (one : BestPath) × ((best ≡ Some one) × TellsPath path.pieces one)

-- what is said of the first open path of an answer to the question; nothing is said only if no path
-- of the answer is open, and it has all paths, or as many as the limit
pub record TellsBest (links : List Link) (question : Question) (limit : ℕ) (best : Option BestPath)
    : Type 0 where
  pub some : ℕ
  pub few : some ≤ limit
  pub paths : List PathValue
  pub answer : IsAnswer question some paths
  pub tells : TellsFirst (open_paths links paths) best
  pub whole : best ≡ None → (length paths < some) ⊎ (some ≡ limit)

-- each path that may be sent, and whose links are all up, has a walk that passes this test
abbrev pub EachOpen : List Link → Question → (test : (List WalkHop → Bool)) → Type 0
EachOpen links question test = (path : PathValue) → IsCandidate question path
    → is_open links (walk_of path.pieces) ≡ true → test (walk_of path.pieces) ≡ true

-- each such path crosses this link
abbrev pub IsNeeded : List Link → Question → Link → Type 0
IsNeeded links question link = EachOpen links question (λ walk. crosses walk link)

-- each such path passes this AS
abbrev pub IsPassed : List Link → Question → (ia : ℕ) → Type 0
IsPassed links question ia = EachOpen links question (λ walk. passes walk ia)

-- whether an AS is neither of the pair
abbrev pub is_between : AsPair → (ia : ℕ) → Bool
is_between pair ia = not (pair.from == ia) && not (pair.to == ia)

-- the addresses of some ASes
abbrev pub addresses : List AsEntry → List ℕ
addresses ases = map (λ one. one.ia) ases

-- what is said of a pair is true of the walks of its paths: all of them, or as many as the limit.
-- If all are known and one is open, the named links are exactly those that each open path needs,
-- and the named ASes those that each passes, in the network's order, and the loss of as many links
-- as is said always leaves an open path
pub record IsPairReport (net : NetValue) (rules : Rules) (limit : ℕ) (report : PairValue)
    : Type 0 where
  pub walks : List (List WalkHop)
  pub gathered : AreWalks (question_between net rules report.pair) limit walks
  pub full : report.is_full ≡ (length walks == limit)
  pub count : report.paths ≡ length (open_walks net.network.links walks)
  pub best : 0 < report.paths → TellsBest net.network.links
      (question_between net rules report.pair) limit report.best
  pub links : report.is_full ≡ false → 0 < report.paths → (link : Link)
      → Contains report.needed link ↔ (Contains net.network.links link
      × IsNeeded net.network.links (question_between net rules report.pair) link)
  pub order : report.is_full ≡ false → 0 < report.paths → report.needed ≡ filter
      (λ link. list_all (λ walk. crosses walk link) (open_walks net.network.links walks))
      net.network.links
  pub ases : report.is_full ≡ false → 0 < report.paths → (ia : ℕ)
      → Contains report.through ia ↔ (Contains (addresses net.network.ases) ia
      × (is_between report.pair ia ≡ true)
      × IsPassed net.network.links (question_between net rules report.pair) ia)
  pub ases_order : report.is_full ≡ false → 0 < report.paths → report.through ≡ filter
      (λ ia. is_between report.pair ia
      && list_all (λ walk. passes walk ia) (open_walks net.network.links walks))
      (addresses net.network.ases)
  pub survives : report.is_full ≡ false → 0 < report.paths
      → IsSurvived net.network.links (open_walks net.network.links walks) report.survives
  pub unknown : report.is_full ≡ true → (report.needed ≡ []) × (report.through ≡ [])
  pub none : report.paths ≡ 0
      → (report.needed ≡ []) × (report.through ≡ []) × (report.best ≡ None)
