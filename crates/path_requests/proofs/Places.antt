-- The pieces of an answer are of segments of the request, and each is found at the place that is
-- told for it.
use Rattle.std.proofs.Common.{◌≡◌, ◌⊎◌, ℕ, suc, ◌+◌, Bool, true, false, List, [], ◌∷◌, length, get_or, All, Contains, Option, Some, None, Decides, ap, ◌∙◌, inl, inr, arith}
use Rattle.std.specs.Prelude.{slice_get}
use Rattle.std.proofs.lemmas.Bool.{cond_both}
use Rattle.std.proofs.lemmas.Bool.Decides.{not_from_Decides}
use Rattle.std.proofs.lemmas.Map.Made.{Contains-tail}
use Rattle.path_segment.specs.Chain.{Chain}
use Rattle.path_segment.specs.Tests.{is_same}
use Rattle.path_segment.proofs.Decided.{is_same-Decides}
use Rattle.path_server.specs.Store.{with_registered}
use Rattle.path_server.specs.Lookup.{segments_for}
use Rattle.path_server.proofs.Plain.{Contains-registered_added, ups_are_plain, downs_are_plain, cores_are_plain}
use Rattle.path_verifier.specs.declared.kind.PieceKind.{PieceKind}
use Rattle.path_verifier.specs.declared.kind.PieceKind.TheVariants.{Up, Core, Down}
use Rattle.path_verifier.specs.Piece.{PieceValue, kind_of}
use Rattle.policy_expr.specs.Options.{WeighedRules}
use Rattle.combinator.specs.Candidate.{PathValue, segments_of}
use Rattle.combinator.specs.Answer.{AnswerValue, AnswersWith}
use Rattle.path_requests.specs.Asked.{PathsAsked}
use Rattle.path_requests.specs.Text.{place_in_list}
use Rattle.path_requests.specs.Answer.{AreAnswer, selection_of, with_all_registered}

behind : (one : Chain) (later : List Chain) (k : ℕ) → slice_get (one ∷ later) (1 + k) ≡ slice_get later k
behind one later k = let next : 1 + k ≡ suc k = omega arith in ap (slice_get (one ∷ later)) next

-- a segment of the list is at the place that is told for it
found_at : (segments : List Chain) (segment : Chain) → Contains segments segment
    → slice_get segments (place_in_list segment segments) ≡ Some segment
unfolding place_in_list
found_at [] segment there = absurd (let within = there.1 in omega arith)
found_at (one ∷ later) segment there =
    let same = is_same-Decides one segment in
    cond_both (is_same one segment) 0 (1 + place_in_list segment later)
    (λ place. slice_get (one ∷ later) place ≡ Some segment)
    (λ yes. ap Some (same.0 yes))
    (λ no. behind one later (place_in_list segment later)
    ∙ found_at later segment (Contains-tail one later segment (not_from_Decides _ same no) there))

-- a store has no segments but those that were registered
of_list : (moment : ℕ) (store segments : List Chain) (segment : Chain)
    → Contains (with_all_registered moment store segments) segment → Contains store segment ⊎ Contains segments segment
of_list moment store [] segment there = inl there
of_list moment store (one ∷ later) segment there =
    elim (of_list moment (with_registered store one moment) later segment there) [
      | inl kept ↦ elim (Contains-registered_added store one moment segment kept) [
        | inl old ↦ inl old
        | inr same ↦ inr (0, omega arith, same)
      ]
      | inr late ↦ inr (suc late.0, (let within = late.1 in omega arith), late.2)
    ]

-- nor has what a lookup finds
in_store : (segments : List Chain) (src dst now : ℕ) (kind : PieceKind) (segment : Chain)
    → Contains (segments_of (segments_for segments src dst now) kind) segment → Contains segments segment
in_store segments src dst now Up segment there = ((ups_are_plain segments src dst now segment).0 there).there
in_store segments src dst now Core segment there = ((cores_are_plain segments src dst now segment).0 there).there
in_store segments src dst now Down segment there = ((downs_are_plain segments src dst now segment).0 there).there

-- the piece is of the segment at the place that is told for it
abbrev IsToldAt : List Chain → PieceValue → Type 0
IsToldAt segments piece = slice_get segments (place_in_list piece.segment segments) ≡ Some piece.segment

told_at : (moment src dst now : ℕ) (segments : List Chain) (piece : PieceValue)
    → Contains (segments_of (segments_for (with_all_registered moment [] segments) src dst now) (kind_of piece)) piece.segment
    → IsToldAt segments piece
told_at moment src dst now segments piece there =
    elim (of_list moment [] segments piece.segment
    (in_store (with_all_registered moment [] segments) src dst now (kind_of piece) piece.segment there)) [
      | inl none ↦ absurd (let within = none.1 in omega arith)
      | inr some ↦ found_at segments piece.segment some
    ]

told_in : (request : PathsAsked) (options : List WeighedRules) (used : Option ℕ) (paths : List PathValue)
    → AnswersWith (selection_of request.asked) request.asked.src request.asked.dst options request.limit used paths
    → All (λ path. All (IsToldAt request.asked.segments) path.pieces) paths
told_in request options None paths none = λ k d within. absurd (let empty = ap length none.0 in omega arith)
told_in request options (Some one) paths used = λ k d within j e inside.
    told_at request.asked.moment request.asked.src request.asked.dst request.asked.moment request.asked.segments
    (get_or (get_or paths k d).pieces j e) ((used.answer.best k d within).candidate.own j e inside)

pub told : (request : PathsAsked) (options : List WeighedRules) (answer : AnswerValue)
    → AreAnswer request options answer
    → All (λ path. All (IsToldAt request.asked.segments) path.pieces) answer.paths
told request options answer is = told_in request options answer.used answer.paths is
