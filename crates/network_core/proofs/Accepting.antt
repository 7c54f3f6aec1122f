-- What an answer has: its paths are accepted, and their segments are of the store.
use Rattle.std.proofs.Common.{◌≡◌, ℕ, List, Option, Some, None, All, sym, ap, ◌∙◌, subst}
use Rattle.std.specs.Prelude.{slice_get}
use Rattle.std.specs.Option.{option_map_or}
use Rattle.std.proofs.lemmas.List.Elements.{All-nil, All-weaker, All-contains}
use Rattle.path_segment.specs.Chain.{Chain}
use Rattle.path_server.specs.Lookup.{is_intra_to, is_reached, leads_between, segments_for}
use Rattle.policy_expr.specs.Policy.{Rules}
use Rattle.policy_expr.specs.Options.{WeighedRules}
use Rattle.path_verifier.specs.declared.kind.PieceKind.{PieceKind}
use Rattle.path_verifier.specs.declared.kind.PieceKind.TheVariants.{Up, Core, Down}
use Rattle.path_verifier.specs.Piece.{PieceValue, kind_of}
use Rattle.path_verifier.specs.Accepted.{request_of, IsAccepted}
use Rattle.combinator.specs.Candidate.{PathValue, segments_of, IsOf}
use Rattle.combinator.specs.Answer.{IsBest, question_under, AnswersWith}
use Rattle.forwarding.specs.Turned.{no_rules}
use Rattle.network_core.specs.Value.{KeptAnswer, way_on, asked_at, NetValue}
use Rattle.network_core.specs.Step.{rules_used, IsAnswerTo}
use Rattle.network_core.proofs.Issuing.{all_filter}

-- ---- one path

best_accepted : (segments : List Chain) (src dst moment : ℕ) (option : WeighedRules)
    (path : PathValue) → IsBest (question_under (segments_for segments src dst moment) src dst option) path
    → IsAccepted (request_of path.pieces path.header src dst moment option.rules)
unfolding segments_for
best_accepted segments src dst moment option path best = best.candidate.accepted

-- what is so of all stored segments is so of those of each kind that are found
found_all : (P : Chain → Type 0) (segments : List Chain) (src dst moment : ℕ) (kind : PieceKind)
    → All P segments → All P (segments_of (segments_for segments src dst moment) kind)
unfolding segments_for
found_all P segments src dst moment Up all = all_filter P (is_intra_to src moment) segments all
found_all P segments src dst moment Core all =
    all_filter P (leads_between (is_reached src (segments_for segments src dst moment).ups)
    (is_reached dst (segments_for segments src dst moment).downs) moment) segments all
found_all P segments src dst moment Down all = all_filter P (is_intra_to dst moment) segments all

best_stored : (P : Chain → Type 0) (segments : List Chain) (src dst moment : ℕ)
    (option : WeighedRules) (path : PathValue) → All P segments
    → IsBest (question_under (segments_for segments src dst moment) src dst option) path
    → All (λ piece. P piece.segment) path.pieces
best_stored P segments src dst moment option path all best =
    let set = segments_for segments src dst moment in
    All-weaker (IsOf set) (λ piece. P piece.segment)
    (λ piece own. All-contains P (segments_of set (kind_of piece)) piece.segment
    (found_all P segments src dst moment (kind_of piece) all) own) path.pieces best.candidate.own

-- ---- all paths of an answer

abbrev rules_of : WeighedRules → Rules
rules_of option = option.rules

used_rules : (options : List WeighedRules) (used : ℕ) (option : WeighedRules) (rules : Rules)
    → slice_get options used ≡ Some option → rules ≡ rules_used options (Some used)
    → option.rules ≡ rules
used_rules options used option rules there are =
    ap (λ (o : Option WeighedRules). option_map_or rules_of o no_rules) (sym there) ∙ sym are

all_accepted : (segments : List Chain) (src dst moment : ℕ) (options : List WeighedRules)
    (limit : ℕ) (used : Option ℕ) (paths : List PathValue) (rules : Rules)
    → AnswersWith (segments_for segments src dst moment) src dst options limit used paths
    → rules ≡ rules_used options used
    → All (λ path. IsAccepted (request_of path.pieces path.header src dst moment rules)) paths
all_accepted segments src dst moment options limit None paths rules is are =
    let P = λ (path : PathValue). IsAccepted (request_of path.pieces path.header src dst moment rules) in
    subst (All P) (sym is.0) (All-nil P)
all_accepted segments src dst moment options limit (Some used) paths rules is are =
    let same = used_rules options used is.option rules is.there are in
    All-weaker (IsBest (question_under (segments_for segments src dst moment) src dst is.option)) _
    (λ path best. subst (λ r. IsAccepted (request_of path.pieces path.header src dst moment r)) same
    (best_accepted segments src dst moment is.option path best)) paths is.answer.best

all_stored : (P : Chain → Type 0) (segments : List Chain) (src dst moment : ℕ)
    (options : List WeighedRules) (limit : ℕ) (used : Option ℕ) (paths : List PathValue)
    → All P segments
    → AnswersWith (segments_for segments src dst moment) src dst options limit used paths
    → All (λ path. All (λ piece. P piece.segment) path.pieces) paths
all_stored P segments src dst moment options limit None paths all is =
    let Q = λ (path : PathValue). All (λ (piece : PieceValue). P piece.segment) path.pieces in
    subst (All Q) (sym is.0) (All-nil Q)
all_stored P segments src dst moment options limit (Some used) paths all is =
    All-weaker (IsBest (question_under (segments_for segments src dst moment) src dst is.option)) _
    (λ path best. best_stored P segments src dst moment is.option path all best) paths is.answer.best

-- ---- what is kept

pub kept_accepted : (net : NetValue) (options : List WeighedRules) (limit : ℕ) (one : KeptAnswer)
    → IsAnswerTo net one.source one.destination options limit one
    → All (λ path. IsAccepted (asked_at net.moment (way_on one path))) one.answer.paths
kept_accepted net options limit one is =
    all_accepted net.segments one.source one.destination net.moment options limit one.answer.used
    one.answer.paths one.rules is.answers is.rules

pub kept_stored : (P : Chain → Type 0) (net : NetValue) (options : List WeighedRules) (limit : ℕ)
    (one : KeptAnswer) → All P net.segments
    → IsAnswerTo net one.source one.destination options limit one
    → All (λ path. All (λ piece. P piece.segment) path.pieces) one.answer.paths
kept_stored P net options limit one all is =
    all_stored P net.segments one.source one.destination net.moment options limit one.answer.used
    one.answer.paths all is.answers
