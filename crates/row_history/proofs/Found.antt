-- The answer to the request: the one path over the one segment.
use Rattle.std.proofs.Common.{◌≡◌, ℕ, zero, suc, List, [], ◌∷◌, All, Bool, true, false, Some, refl, sym, ap, subst, ◌∙◌, arith, inl, inr}
use Rattle.std.specs.Prelude.{slice_get, Contains, ◌≢◌}
use Rattle.std.specs.Ordering.{ordering_reverse}
use Rattle.std.specs.declared.cmp.Ordering.{Ordering}
use Rattle.std.specs.declared.cmp.Ordering.TheVariants.{Less, Equal, Greater}
use Rattle.std.proofs.lemmas.List.Elements.{All-nil, All-cons, All-head, recursion_from_All}
use Rattle.std.proofs.lemmas.Option.{same_Some}
use Rattle.path_segment.specs.Chain.{Chain, first_as, last_as}
use Rattle.path_segment.specs.Tests.{is_live}
use Rattle.path_server.specs.Lookup.{Selection, segments_for, is_intra_to, is_reached, leads_between}
use Rattle.path_header.specs.Value.{HeaderValue}
use Rattle.policy_expr.specs.Options.{WeighedRules}
use Rattle.path_verifier.specs.declared.kind.PieceKind.{PieceKind}
use Rattle.path_verifier.specs.declared.kind.PieceKind.TheVariants.{Up, Core, Down}
use Rattle.path_verifier.specs.declared.fault.VerifyFault.TheVariants.{HeaderDiffers}
use Rattle.path_verifier.specs.Piece.{PieceValue, HasRange, kind_in, kind_of, begins_in, ends_in}
use Rattle.path_verifier.specs.Walk.{walk_of}
use Rattle.path_verifier.specs.Header.{header_of}
use Rattle.path_verifier.specs.Accepted.{LastTo, MakesPath, DoAdjoin}
use Rattle.path_verifier.proofs.Breaches.{path_kept}
use Rattle.combinator.specs.Candidate.{Question, PathValue, path_with, segments_of, IsOf, IsCandidate}
use Rattle.combinator.specs.Order.{bytes_cmp}
use Rattle.combinator.specs.Answer.{IsBest, IsAnswer, IsUsed, AnswersWith, GoesBefore, question_under}
use Rattle.combinator.proofs.Ranks.{bytes_total}
use Rattle.row_history.specs.Row.{top, leaf, any_path}
use Rattle.row_history.proofs.Path.{segment, piece_with, piece, pieces, path}
use Rattle.row_history.proofs.Allowed.{accepted}

abbrev pub set : Selection
set = record { ups = segment ∷ []; cores = []; downs = []; moment = 1000 }

pub finds : segments_for (segment ∷ []) leaf.ia top.ia 1000 ≡ set
unfolding segments_for is_intra_to is_reached leads_between is_live first_as last_as
finds = refl

abbrev pub question : Question
question = question_under set leaf.ia top.ia any_path

-- ---- there is no other candidate

own_up : (kind : PieceKind) (one : Chain) → Contains (segments_of set kind) one
    → (kind ≡ Up) × (segment ≡ one)
own_up Up one (zero, within, same) = (refl, same)
own_up Up one (suc k, within, same) = absurd (omega (arith, within))
own_up Core one (k, within, same) = absurd (omega (arith, within))
own_up Down one (k, within, same) = absurd (omega (arith, within))

-- a piece of the segment from the leaf to the top is the whole segment
abbrev IsWhole : Chain → ℕ → ℕ → Bool → Type 0
IsWhole one from to along = kind_in one.kind along ≡ Up → HasRange (piece_with one from to along)
    → begins_in (piece_with one from to along) ≡ leaf.ia
    → ends_in (piece_with one from to along) ≡ top.ia
    → piece_with one from to along ≡ piece

whole : (from to : ℕ) (along : Bool) → IsWhole segment from to along
unfolding begins_in ends_in
whole from to true up range begins ends = absurd cc
whole zero zero false up range begins ends = absurd (let o = range.order in omega (arith, o))
whole zero (suc zero) false up range begins ends = absurd (omega (arith, begins))
whole zero (suc (suc zero)) false up range begins ends = refl
whole zero (suc (suc (suc k))) false up range begins ends =
    absurd (let w = range.within in omega (arith, w))
whole (suc zero) zero false up range begins ends = absurd (let o = range.order in omega (arith, o))
whole (suc zero) (suc zero) false up range begins ends =
    absurd (let o = range.order in omega (arith, o))
whole (suc zero) (suc (suc zero)) false up range begins ends = absurd (omega (arith, ends))
whole (suc zero) (suc (suc (suc k))) false up range begins ends =
    absurd (let w = range.within in omega (arith, w))
whole (suc (suc from)) to false up range begins ends =
    absurd (let w = range.within in let o = range.order in omega (arith, w, o))

one_piece : (one : PieceValue) → IsOf set one → HasRange one → begins_in one ≡ leaf.ia
    → ends_in one ≡ top.ia
    → one ≡ piece
one_piece one own range begins ends =
    let up = own_up (kind_of one) one.segment own in
    subst (λ s. IsWhole s one.from one.to one.along) up.1 (whole one.from one.to one.along) up.0
    range begins ends

no_two : (kind next : PieceKind) → kind ≡ Up → next ≡ Up → DoAdjoin (kind ∷ next ∷ []) → ⊥
no_two Up Up first second adjoin = adjoin.0
no_two Up Core first second adjoin = absurd cc
no_two Up Down first second adjoin = absurd cc
no_two Core next first second adjoin = absurd cc
no_two Down next first second adjoin = absurd cc

one_only : (others : List PieceValue) → All (IsOf set) others → MakesPath others leaf.ia top.ia 1000
    → others ≡ pieces
one_only [] own makes = absurd (let some = makes.some in omega (arith, some))
one_only (one ∷ []) own makes =
    ap (λ (x : PieceValue). x ∷ []) (one_piece one (All-head (IsOf set) one [] own)
    (All-head HasRange one [] makes.ranges) makes.source makes.destination)
one_only (one ∷ next ∷ later) own makes =
    let each = recursion_from_All (IsOf set) (one ∷ next ∷ later) own in
    absurd (no_two (kind_of one) (kind_of next) (own_up (kind_of one) one.segment each.0).0
    (own_up (kind_of next) next.segment each.1.0).0 (makes.kinds.0, tt))

same_path : (others : List PieceValue) (header : HeaderValue) → others ≡ pieces
    → header ≡ header_of others
    → path_with others header ≡ path
same_path others header same spelled =
    ap (path_with others) spelled ∙ ap (λ (ps : List PieceValue). path_with ps (header_of ps)) same

pub candidate_is : (other : PathValue) → IsCandidate question other → other ≡ path
candidate_is other candidate =
    same_path other.pieces other.header
    (one_only other.pieces candidate.own (path_kept candidate.accepted))
    (candidate.accepted.keeps HeaderDiffers)

-- ---- and this one is the answer

pub candidate : IsCandidate question path
candidate = record {
  own = All-cons (IsOf set) piece [] (0, omega arith, refl) (All-nil (IsOf set));
  accepted = accepted;
}

not_less : (c : Ordering) → c ≡ ordering_reverse c → c ≢ Less
not_less Less turned e = absurd cc
not_less Equal turned e = absurd cc
not_less Greater turned e = absurd cc

best : IsBest question path
best = record {
  candidate = candidate;
  latest = λ other is same half lasts.
      subst (λ (x : PathValue). LastTo half x.pieces) (candidate_is other is) lasts;
  least = λ other is same longer.
      subst (λ (x : PathValue). bytes_cmp x.header path.header ≢ Less) (sym (candidate_is other is))
      (not_less (bytes_cmp path.header path.header) (bytes_total.antisymm path.header path.header));
}

is_answer : IsAnswer question 4 (path ∷ [])
is_answer = record {
  best = All-cons (IsBest question) path [] best (All-nil (IsBest question));
  once = λ i j d order within. absurd (omega (arith, order, within));
  ordered = λ i j d order within. absurd (omega (arith, order, within));
  few = omega arith;
  whole = λ other is. inl (
    0,
    path,
    omega arith,
    refl,
    ap (λ (x : PathValue). walk_of x.pieces)
        (sym (candidate_is other is)),
  );
}

none_before : (j : ℕ) (other : WeighedRules) → slice_get (any_path ∷ []) j ≡ Some other
    → GoesBefore j other 0 any_path → ⊥
none_before zero other there (inl heavier) =
    let e = ap (λ (x : WeighedRules). x.weight) (same_Some any_path other there) in omega
    (arith, e, heavier)
none_before zero other there (inr before) = let o = before.1 in omega (arith, o)
none_before (suc j) other there before = absurd cc

used : IsUsed set leaf.ia top.ia (any_path ∷ []) 4 0 (path ∷ [])
used = record {
  option = any_path;
  there = refl;
  some = omega arith;
  answer = is_answer;
  first = λ j other there before. absurd (none_before j other there before);
}

pub answered : AnswersWith (segments_for (segment ∷ []) leaf.ia top.ia 1000) leaf.ia top.ia
    (any_path ∷ []) 4
    (Some 0) (path ∷ [])
answered = subst (λ s. AnswersWith s leaf.ia top.ia (any_path ∷ []) 4 (Some 0) (path ∷ []))
    (sym finds) used
