-- Trying lists of pieces one by one.
use Rattle.std.proofs.Common.{◌≡◌, ℕ, zero, suc, ◌+◌, ◌<◌, List, [], ◌∷◌, ◌++◌, length, get_or, take, filter, All, Contains, refl, sym, subst, ap, eq-eqb, ◌∙◌, arith, append_assoc, length-append}
use Rattle.std.specs.List.{AllByRecursion, flat_map}
use Rattle.std.specs.Ordering.{nat_cmp}
use Rattle.std.specs.declared.cmp.Ordering.TheVariants.{Less}
use Rattle.std.proofs.lemmas.Bool.{lt-ltb}
use Rattle.std.proofs.lemmas.List.Elements.{All-filter, All-push, All-from_recursion, recursion_from_All}
use Rattle.std.proofs.lemmas.List.Sums.{sum_by-cons}
use Rattle.path_header.specs.Value.{HeaderValue}
use Rattle.path_server.specs.Lookup.{Selection}
use Rattle.path_server.proofs.Members.{Contains-filter}
use Rattle.path_verifier.specs.Piece.{PieceValue, HasRange, begins_in, ends_in}
use Rattle.path_verifier.specs.Header.{header_of, fields_of, len_of, total_hops}
use Rattle.path_verifier.specs.Accepted.{Request, request_of, DoEndIn, IsAccepted}
use Rattle.path_verifier.proofs.Headers.{length_fields_of}
use Rattle.path_verifier.proofs.Breaches.{header_kept}
use Rattle.combinator.specs.Candidate.{Question, IsOf, PathValue, IsCandidate, path_with}
use Rattle.combinator.specs.Order.{path_cmp, shown_cmp}
use Rattle.combinator.specs.Answer.{IsBest}
use Rattle.combinator.specs.inner.Placed.{Met}
use Rattle.combinator.specs.inner.Search.{OfEachBehind, IsMetBy, StillMeet}
use Rattle.combinator.specs.inner.UsablePieces.{begins_at}
use Rattle.combinator.proofs.Collected.{by_items}

-- ---- lists that begin with some pieces

pub behind_on : (P Q : List PieceValue → Type 0) (usable_pieces : List PieceValue) (depth : ℕ) (pieces : List PieceValue) (at : ℕ)
    → ((list : List PieceValue) → P list → Q list)
    → OfEachBehind P usable_pieces depth pieces at → OfEachBehind Q usable_pieces depth pieces at
unfolding OfEachBehind
behind_on P Q usable_pieces zero pieces at goes all = tt
behind_on P Q usable_pieces (suc depth) pieces at goes all = λ piece there begins. (
  goes (pieces ++ piece ∷ []) (all piece there begins).0,
  behind_on P Q usable_pieces depth (pieces ++ piece ∷ []) (ends_in piece) goes (all piece there begins).1,
)

-- what holds of each longer list holds of each that is tried
pub all_behind : (P : List PieceValue → Type 0) (usable_pieces : List PieceValue) (depth : ℕ) (pieces : List PieceValue) (at : ℕ)
    → ((piece : PieceValue) (later : List PieceValue) → P (pieces ++ piece ∷ later))
    → OfEachBehind P usable_pieces depth pieces at
unfolding OfEachBehind
all_behind P usable_pieces zero pieces at all = tt
all_behind P usable_pieces (suc depth) pieces at all = λ piece there begins. (
  all piece [],
  all_behind P usable_pieces depth (pieces ++ piece ∷ []) (ends_in piece)
      (λ next later. subst P (sym (append_assoc pieces (piece ∷ []) (next ∷ later))) (all piece (next ∷ later))),
)

-- each piece that begins here was tried, and what goes on from it
abbrev pub WasTried : (List PieceValue → Type 0) → List PieceValue → ℕ → List PieceValue → ℕ → PieceValue → Type 0
WasTried P usable_pieces depth pieces at piece = begins_in piece ≡ at → P (pieces ++ piece ∷ []) × OfEachBehind P usable_pieces depth (pieces ++ piece ∷ []) (ends_in piece)

was_tried_on : (P Q : List PieceValue → Type 0) (usable_pieces : List PieceValue) (depth : ℕ) (pieces : List PieceValue) (at : ℕ)
    → ((list : List PieceValue) → P list → Q list)
    → (piece : PieceValue) → WasTried P usable_pieces depth pieces at piece
    → WasTried Q usable_pieces depth pieces at piece
was_tried_on P Q usable_pieces depth pieces at goes piece was begins = (
  goes (pieces ++ piece ∷ []) (was begins).0,
  behind_on P Q usable_pieces depth (pieces ++ piece ∷ []) (ends_in piece) goes (was begins).1,
)

pub tried_here : (P : List PieceValue → Type 0) (usable_pieces : List PieceValue) (depth : ℕ) (pieces longer : List PieceValue) (piece : PieceValue) (end at : ℕ)
    → longer ≡ pieces ++ piece ∷ [] → end ≡ ends_in piece → P longer
    → OfEachBehind P usable_pieces depth longer end → WasTried P usable_pieces depth pieces at piece
tried_here P usable_pieces depth pieces longer piece end at is ends here behind = λ begins. (
  subst P is here,
  subst (λ more. OfEachBehind P usable_pieces depth more (ends_in piece)) is
      (subst (OfEachBehind P usable_pieces depth longer) ends behind),
)

pub tried_more : (P Q : List PieceValue → Type 0) (usable_pieces part : List PieceValue) (depth : ℕ) (pieces : List PieceValue) (at i : ℕ) (piece : PieceValue)
    → i < length part → piece ≡ get_or part i piece → ((list : List PieceValue) → P list → Q list)
    → ((one : PieceValue) → Contains (take i part) one → WasTried P usable_pieces depth pieces at one)
    → WasTried Q usable_pieces depth pieces at piece
    → (one : PieceValue) → Contains (take (i + 1) part) one → WasTried Q usable_pieces depth pieces at one
tried_more P Q usable_pieces part depth pieces at i piece within is goes =
    by_items (WasTried P usable_pieces depth pieces at)
    (WasTried Q usable_pieces depth pieces at) part i piece within is
    (was_tried_on P Q usable_pieces depth pieces at goes)

pub none_tried : (P : List PieceValue → Type 0) (usable_pieces : List PieceValue) (depth : ℕ) (pieces : List PieceValue) (at : ℕ)
    → depth ≡ 0 → OfEachBehind P usable_pieces depth pieces at
unfolding OfEachBehind
none_tried P usable_pieces zero pieces at is = tt
none_tried P usable_pieces (suc depth) pieces at is = absurd (omega (arith, is))

each_tried : (P : List PieceValue → Type 0) (usable_pieces : List PieceValue) (depth left : ℕ) (pieces : List PieceValue) (at : ℕ)
    → left + 1 ≡ depth
    → ((piece : PieceValue) → Contains usable_pieces piece → WasTried P usable_pieces left pieces at piece)
    → OfEachBehind P usable_pieces depth pieces at
unfolding OfEachBehind
each_tried P usable_pieces zero left pieces at is all = tt
each_tried P usable_pieces (suc depth) left pieces at is all =
    let same : left ≡ depth = omega (arith, is) in
    subst (λ (n : ℕ). (piece : PieceValue) → Contains usable_pieces piece → WasTried P usable_pieces n pieces at piece) same all

-- where the pieces that begin here were tried, all were
pub all_tried : (P : List PieceValue → Type 0) (usable_pieces part : List PieceValue) (depth left : ℕ) (pieces : List PieceValue) (at : ℕ)
    → left + 1 ≡ depth
    → part ≡ filter (begins_at at) usable_pieces
    → ((piece : PieceValue) → Contains part piece → WasTried P usable_pieces left pieces at piece)
    → OfEachBehind P usable_pieces depth pieces at
all_tried P usable_pieces part depth left pieces at is same tried =
    each_tried P usable_pieces depth left pieces at is
    (λ piece there begins. tried piece
    (subst (λ (ps : List PieceValue). Contains ps piece) (sym same) ((Contains-filter (begins_at at) usable_pieces piece).1 (there, eq-eqb (begins_in piece) at begins)))
    begins)

-- what holds of all pieces holds of those that begin here
pub part_own : (P : PieceValue → Type 0) (usable_pieces part : List PieceValue) (at : ℕ)
    → part ≡ filter (begins_at at) usable_pieces → All P usable_pieces → All P part
part_own P usable_pieces part at same own = subst (All P) (sym same) (All-filter (begins_at at) P usable_pieces own)

-- ---- a list with one more piece

pub longer_by : (pieces longer : List PieceValue) (copy piece : PieceValue) → longer ≡ pieces ++ copy ∷ []
    → copy ≡ piece → longer ≡ pieces ++ piece ∷ []
longer_by pieces longer copy piece is same = is ∙ ap (λ (p : PieceValue). pieces ++ p ∷ []) same

pub one_more : (pieces longer : List PieceValue) (piece : PieceValue) → longer ≡ pieces ++ piece ∷ []
    → length longer ≡ length pieces + 1
one_more pieces longer piece is = ap length is ∙ length-append pieces (piece ∷ [])

pub own_more : (set : Selection) (pieces longer : List PieceValue) (piece : PieceValue)
    → longer ≡ pieces ++ piece ∷ [] → All (IsOf set) pieces → IsOf set piece → All (IsOf set) longer
own_more set pieces longer piece is own one = subst (All (IsOf set)) (sym is) (All-push (IsOf set) pieces piece own one)

pub ranges_more : (pieces longer : List PieceValue) (piece : PieceValue) → longer ≡ pieces ++ piece ∷ []
    → AllByRecursion HasRange pieces → HasRange piece → AllByRecursion HasRange longer
ranges_more pieces longer piece is ranges one =
    subst (AllByRecursion HasRange) (sym is)
    (recursion_from_All HasRange (pieces ++ piece ∷ []) (All-push HasRange pieces piece (All-from_recursion HasRange pieces ranges) one))

-- ---- the AS in which a list ends

pub one_end : (pieces : List PieceValue) (one other : ℕ) → DoEndIn one pieces → DoEndIn other pieces → one ≡ other
one_end [] one other is also = absurd is
one_end (piece ∷ []) one other is also = sym is ∙ also
one_end (piece ∷ next ∷ later) one other is also = one_end (next ∷ later) one other is also

pub ends_with : (front : List PieceValue) (piece : PieceValue) → DoEndIn (ends_in piece) (front ++ piece ∷ [])
ends_with [] piece = refl
ends_with (first ∷ []) piece = refl
ends_with (first ∷ next ∷ front) piece = ends_with (next ∷ front) piece

pub ends_more : (pieces longer : List PieceValue) (piece : PieceValue) (end : ℕ)
    → longer ≡ pieces ++ piece ∷ [] → end ≡ ends_in piece → DoEndIn end longer
ends_more pieces longer piece end is same =
    subst (DoEndIn end) (sym is)
    (subst (λ (at : ℕ). DoEndIn at (pieces ++ piece ∷ [])) (sym same) (ends_with pieces piece))

-- ---- what was met

pub met_on : (question : Question) (limit : ℕ) (old new : List PathValue) → StillMeet limit old new
    → (pieces : List PieceValue) → IsMetBy question limit old pieces → IsMetBy question limit new pieces
unfolding IsMetBy
met_on question limit old new still pieces met = λ header best. still (path_with pieces header) (met header best)

-- ---- numbers of hop fields

flat_count : (pieces : List PieceValue) → length (flat_map fields_of pieces) ≡ total_hops pieces
flat_count [] = refl
flat_count (piece ∷ pieces) =
    let both = length-append (fields_of piece) (flat_map fields_of pieces) in
    let one = length_fields_of piece in
    let more = flat_count pieces in
    let sum = sum_by-cons len_of piece pieces in
    omega (arith, both, one, more, sum)

pub count_fields : (pieces : List PieceValue) → length (header_of pieces).hops ≡ total_hops pieces
unfolding header_of
count_fields pieces = flat_count pieces

pub total_both : (front later : List PieceValue) → total_hops (front ++ later) ≡ total_hops front + total_hops later
total_both [] later = (let none : total_hops [] ≡ 0 = refl in omega (arith, none))
total_both (piece ∷ front) later =
    let more = total_both front later in
    let sum = sum_by-cons len_of piece front in
    let whole = sum_by-cons len_of piece (front ++ later) in
    omega (arith, more, sum, whole)

-- ---- paths of fewer hop fields

nat_less : (n m : ℕ) → n < m → nat_cmp n m ≡ Less
nat_less n m less = rw (lt-ltb n m less) refl

pub fewer_hops : (one other : PathValue) → length one.header.hops < length other.header.hops → path_cmp one other ≡ Less
unfolding shown_cmp
fewer_hops one other less = rw (nat_less (length one.header.hops) (length other.header.hops) less) refl

-- ---- a list that was looked at

pub met_none : (question : Question) (limit : ℕ) (paths : List PathValue) (pieces : List PieceValue)
    → ((header : HeaderValue) → ¬ (IsCandidate question (path_with pieces header)))
    → IsMetBy question limit paths pieces
unfolding IsMetBy
met_none question limit paths pieces never = λ header best. absurd (never header best.candidate)

module _ (question : Question) (limit : ℕ) (paths : List PathValue) (pieces : List PieceValue)
    (found : PathValue) (is : found ≡ path_with pieces (header_of pieces)) where
  pub met_not_best : ¬ (IsBest question found) → IsMetBy question limit paths pieces
  unfolding IsMetBy
  met_not_best never = λ header best. absurd (never (subst (IsBest question) (ap (path_with pieces) (header_kept best.candidate.accepted) ∙ sym is) best))

  pub met_taken : Met path_cmp limit paths found → IsMetBy question limit paths pieces
  unfolding IsMetBy
  met_taken met = λ header best. subst (Met path_cmp limit paths) (is ∙ ap (path_with pieces) (sym (header_kept best.candidate.accepted))) met

pub path_is : (pieces own : List PieceValue) (header : HeaderValue) (found : PathValue)
    → found ≡ path_with own header → own ≡ pieces → header ≡ header_of pieces
    → found ≡ path_with pieces (header_of pieces)
path_is pieces own header found is same_pieces same_header =
    is ∙ ap (λ (ps : List PieceValue). path_with ps header) same_pieces ∙ ap (path_with pieces) same_header

-- ---- what was accepted

-- what was accepted for what was asked is a candidate
pub candidate_of : (question : Question) (pieces : List PieceValue) (path : Request) (found : PathValue)
    → All (IsOf question.set) pieces
    → path ≡ request_of pieces (header_of pieces) question.src question.dst question.set.moment question.rules
    → IsAccepted (request_of pieces (header_of pieces) question.src question.dst question.set.moment question.rules)
    → found ≡ path_with path.pieces path.header → IsCandidate question found
candidate_of question pieces path found own is accepted made =
    let whole : IsCandidate question (path_with pieces (header_of pieces)) = record {
      own = own;
      accepted = accepted;
    } in
    subst (IsCandidate question)
    (sym (made ∙ ap (λ (request : Request). path_with request.pieces request.header) is)) whole

-- ---- what was asked, as the code sees it

same_request : (question seen : Question) (pieces : List PieceValue) (moment : ℕ) → seen ≡ question
    → moment ≡ seen.set.moment
    → request_of pieces (header_of pieces) seen.src seen.dst moment seen.rules ≡ request_of pieces (header_of pieces) question.src question.dst question.set.moment question.rules
same_request question seen pieces moment is at =
    ap (λ (m : ℕ). request_of pieces (header_of pieces) seen.src seen.dst m seen.rules) at
    ∙ ap (λ (q : Question). request_of pieces (header_of pieces) q.src q.dst q.set.moment q.rules) is

pub found_as_asked : (question seen : Question) (pieces : List PieceValue) (moment : ℕ) (path : Request) (found : PathValue)
    → seen ≡ question → moment ≡ seen.set.moment
    → All (IsOf question.set) pieces
    → (path ≡ request_of pieces (header_of pieces) seen.src seen.dst moment seen.rules) × IsAccepted (request_of pieces (header_of pieces) seen.src seen.dst moment seen.rules)
    → found ≡ path_with path.pieces path.header → IsCandidate question found
found_as_asked question seen pieces moment path found is at own accepted made =
    let same = same_request question seen pieces moment is at in
    candidate_of question pieces path found own (accepted.0 ∙ same) (subst IsAccepted same accepted.1) made

-- and the verifier accepts what was asked, with the header that the pieces give
pub accepted_as_asked : (question seen : Question) (pieces : List PieceValue) (moment : ℕ)
    → seen ≡ question → moment ≡ seen.set.moment
    → (header : HeaderValue) → IsCandidate question (path_with pieces header)
    → IsAccepted (request_of pieces (header_of pieces) seen.src seen.dst moment seen.rules)
accepted_as_asked question seen pieces moment is at header candidate =
    subst IsAccepted (sym (same_request question seen pieces moment is at)) (subst
    (λ (own : HeaderValue). IsAccepted (request_of pieces own question.src question.dst question.set.moment question.rules))
    (header_kept candidate.accepted) candidate.accepted)
