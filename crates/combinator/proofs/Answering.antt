-- What was found, settled and put in order is the answer.
use Rattle.std.proofs.Common.{◌≡◌, ℕ, suc, ◌+◌, ◌*◌, ◌<◌, ◌≤◌, Bool, true, false, cond, List, [], ◌∷◌, length, get_or, All, Any, AllPairs, Contains, refl, sym, ap, subst, ◌∙◌, inl, inr, arith}
use Rattle.std.specs.Prelude.{◌⊎◌}
use Rattle.std.specs.declared.cmp.Ordering.TheVariants.{Less}
use Rattle.std.proofs.lemmas.List.Elements.{All-from_recursion, All-cons, All-nil}
use Rattle.std.proofs.lemmas.List.Kept.{AllPairs-cons}
use Rattle.hop_mac.specs.Lifetime.{expiry_of}
use Rattle.path_segment.specs.declared.entry.Entry.{Entry}
use Rattle.path_segment.specs.declared.kind.SegKind.{SegKind}
use Rattle.path_segment.specs.declared.kind.SegKind.TheVariants as segs
use Rattle.policy_expr.specs.declared.hop.WalkHop.{WalkHop}
use Rattle.path_verifier.specs.declared.kind.PieceKind.{PieceKind}
use Rattle.path_verifier.specs.declared.kind.PieceKind.TheVariants.{Up, Core, Down}
use Rattle.path_verifier.specs.Piece.{PieceValue, HasRange, kind_in, kind_of, entries_of, begins_in, ends_in}
use Rattle.path_verifier.specs.Accepted.{IsCore, MayAdjoin, AreLive}
use Rattle.path_verifier.proofs.Lengths.{path_is_short, pieces_adjoin}
use Rattle.path_verifier.proofs.Breaches.{header_kept, path_kept}
use Rattle.path_header.specs.Value.{HeaderValue}
use Rattle.std.specs.List.{AllByRecursion}
use Rattle.combinator.specs.Candidate.{Question, IsOf, segments_of, PathValue, IsCandidate, path_with, AreSpelled}
use Rattle.combinator.specs.Order.{path_cmp, HaveOneWalk}
use Rattle.combinator.specs.Answer.{IsBest, IsLeftOut, IsAnswer}
use Rattle.combinator.specs.inner.Placed.{Tied, InOrder, Met}
use Rattle.combinator.specs.inner.Search.{HaveAll, OfEachBehind, IsMetBy}
use Rattle.combinator.specs.inner.UsablePieces.{outer_of, IsCut, IsWhole}
use Rattle.combinator.proofs.Ranks.{same_shown, tied_shown}
use Rattle.combinator.proofs.Agreeing.{best_is_one}
use Rattle.combinator.proofs.Best.{GoesOn, best_there}

-- ---- each piece of a candidate is listed

up_parts : (kind : SegKind) (along : Bool) → kind_in kind along ≡ Up → (kind ≡ segs.Intra) × (along ≡ false)
up_parts segs.Core along e = absurd cc
up_parts segs.Intra true e = absurd cc
up_parts segs.Intra false e = (refl, refl)

core_part : (kind : SegKind) (along : Bool) → kind_in kind along ≡ Core → kind ≡ segs.Core
core_part segs.Core along e = refl
core_part segs.Intra true e = absurd cc
core_part segs.Intra false e = absurd cc

down_parts : (kind : SegKind) (along : Bool) → kind_in kind along ≡ Down → (kind ≡ segs.Intra) × (along ≡ true)
down_parts segs.Core along e = absurd cc
down_parts segs.Intra true e = (refl, refl)
down_parts segs.Intra false e = absurd cc

outer_up : (piece : PieceValue) (at : ℕ) → piece.along ≡ false → begins_in piece ≡ at → outer_of piece ≡ at
outer_up piece at e begins = ap (λ (b : Bool). cond b (ends_in piece) (begins_in piece)) e ∙ begins

outer_down : (piece : PieceValue) (at : ℕ) → piece.along ≡ true → ends_in piece ≡ at → outer_of piece ≡ at
outer_down piece at e ends = ap (λ (b : Bool). cond b (ends_in piece) (begins_in piece)) e ∙ ends

module _ (question : Question) (usable_pieces : List PieceValue)
    (ups : (piece : PieceValue) → IsCut question.set.ups false question.src piece
    → AreLive question.set.moment (piece ∷ []) → Contains usable_pieces piece)
    (cores : (piece : PieceValue) → IsWhole question.set.cores piece
    → AreLive question.set.moment (piece ∷ []) → Contains usable_pieces piece)
    (downs : (piece : PieceValue) → IsCut question.set.downs true question.dst piece
    → AreLive question.set.moment (piece ∷ []) → Contains usable_pieces piece) where
  listed : (kind : PieceKind) (piece : PieceValue) → kind_of piece ≡ kind → IsOf question.set piece → HasRange piece
      → (IsCore piece → (piece.from ≡ 0) × (piece.to + 1 ≡ length piece.segment.entries))
      → AreLive question.set.moment (piece ∷ [])
      → (kind ≡ Up → begins_in piece ≡ question.src) → (kind ≡ Down → ends_in piece ≡ question.dst)
      → Contains usable_pieces piece
  listed Up piece is own range whole live up down =
      let parts = up_parts piece.segment.kind piece.along is in
      ups piece (record {
        there = subst (λ (kind : PieceKind). Contains (segments_of question.set kind) piece.segment) is own;
        range = range;
        kind = parts.0;
        direction = parts.1;
        end = outer_up piece question.src parts.1 (up refl);
      }) live
  listed Core piece is own range whole live up down =
      let cut = whole is in
      cores piece (record {
        there = subst (λ (kind : PieceKind). Contains (segments_of question.set kind) piece.segment) is own;
        kind = core_part piece.segment.kind piece.along is;
        first = cut.0;
        last = cut.1;
      }) live
  listed Down piece is own range whole live up down =
      let parts = down_parts piece.segment.kind piece.along is in
      downs piece (record {
        there = subst (λ (kind : PieceKind). Contains (segments_of question.set kind) piece.segment) is own;
        range = range;
        kind = parts.0;
        direction = parts.1;
        end = outer_down piece question.dst parts.1 (down refl);
      }) live

  -- a piece at a place of a candidate
  at_place : (path : PathValue) (is : IsCandidate question path) (k : ℕ) (piece : PieceValue)
      → k < length path.pieces → get_or path.pieces k piece ≡ piece
      → (kind_of piece ≡ Up → begins_in piece ≡ question.src)
      → (kind_of piece ≡ Down → ends_in piece ≡ question.dst) → Contains usable_pieces piece
  at_place path is k piece within at up down =
      let own : IsOf question.set piece = subst (IsOf question.set) at (is.own k piece within) in
      let range : HasRange piece = subst HasRange at ((path_kept is.accepted).ranges k piece within) in
      let whole : IsCore piece → (piece.from ≡ 0) × (piece.to + 1 ≡ length piece.segment.entries) = λ core. (
      let cut =
      subst (λ (p : PieceValue). (p.from ≡ 0) × (IsCore p → p.to + 1 ≡ length p.segment.entries)) at ((path_kept is.accepted).cuts.with_core (k, piece, within, at, core) k piece within) in
      (cut.0, cut.1 core)) in
      let live : AreLive question.set.moment (piece ∷ []) =
      All-cons (λ (p : PieceValue). All (λ (entry : Entry). 2 * question.set.moment ≤ expiry_of p.segment.timestamp entry.exp_time) (entries_of p))
      piece [] (subst (λ (p : PieceValue). All (λ (entry : Entry). 2 * question.set.moment ≤ expiry_of p.segment.timestamp entry.exp_time) (entries_of p))
      at ((path_kept is.accepted).live k piece within)) (All-nil _) in
      listed (kind_of piece) piece refl own range whole live up down

  no_up : (kind : PieceKind) → MayAdjoin kind Up → ⊥
  no_up Up h = h
  no_up Core h = h
  no_up Down h = h

  not_up : (one next : PieceKind) → MayAdjoin one next → next ≡ Up → ⊥
  not_up one next may is = no_up one (subst (MayAdjoin one) is may)

  not_down : (one next : PieceKind) → MayAdjoin one next → one ≡ Down → ⊥
  not_down one next may is =
      (let h : MayAdjoin Down next = subst (λ (kind : PieceKind). MayAdjoin kind next) is may in h)

  all_of : (pieces : List PieceValue) (header : HeaderValue) → IsCandidate question (path_with pieces header)
      → AllByRecursion (Contains usable_pieces) pieces
  all_of [] header is = tt
  all_of (a ∷ []) header is =
      let path = path_kept is.accepted in
      (at_place (path_with (a ∷ []) header) is 0 a (omega arith) refl (λ _. path.source) (λ _. path.destination), tt)
  all_of (a ∷ b ∷ []) header is =
      let path = path_kept is.accepted in
      let may = pieces_adjoin [] [] a b question.src question.dst question.set.moment path in (
        at_place (path_with (a ∷ b ∷ []) header) is 0 a (omega arith) refl (λ _. path.source)
            (λ down. absurd (not_down (kind_of a) (kind_of b) may down)),
        (at_place (path_with (a ∷ b ∷ []) header) is 1 b (omega arith) refl (λ up. absurd (not_up (kind_of a) (kind_of b) may up)) (λ _. path.destination), tt),
      )
  all_of (a ∷ b ∷ c ∷ []) header is =
      let path = path_kept is.accepted in
      let may = pieces_adjoin [] (c ∷ []) a b question.src question.dst question.set.moment path in
      let also = pieces_adjoin (a ∷ []) [] b c question.src question.dst question.set.moment path in (
        at_place (path_with (a ∷ b ∷ c ∷ []) header) is 0 a (omega arith) refl (λ _. path.source)
            (λ down. absurd (not_down (kind_of a) (kind_of b) may down)),
        (
          at_place (path_with (a ∷ b ∷ c ∷ []) header) is 1 b (omega arith) refl
              (λ up. absurd (not_up (kind_of a) (kind_of b) may up))
              (λ down. absurd (not_down (kind_of b) (kind_of c) also down)),
          (at_place (path_with (a ∷ b ∷ c ∷ []) header) is 2 c (omega arith) refl (λ up. absurd (not_up (kind_of b) (kind_of c) also up)) (λ _. path.destination), tt),
        ),
      )
  all_of (a ∷ b ∷ c ∷ d ∷ more) header is =
      absurd (let few = path_is_short (a ∷ b ∷ c ∷ d ∷ more) question.src question.dst question.set.moment (path_kept is.accepted) in omega arith)

  pub have_all : HaveAll question usable_pieces
  have_all path is = All-from_recursion (Contains usable_pieces) path.pieces (all_of path.pieces path.header is)

-- ---- what was tried

module _ (question : Question) (usable_pieces : List PieceValue) (whole : HaveAll question usable_pieces) where
  module _ (P : List PieceValue → Type 0) (tried : OfEachBehind P usable_pieces 3 [] question.src) where
    of_pieces : (pieces : List PieceValue) (header : HeaderValue)
        → IsCandidate question (path_with pieces header) → P pieces
    unfolding OfEachBehind
    of_pieces [] header is = absurd (let some = (path_kept is.accepted).some in omega arith)
    of_pieces (a ∷ []) header is =
        let path = path_kept is.accepted in
        (tried a (whole (path_with (a ∷ []) header) is 0 a (omega arith)) path.source).0
    of_pieces (a ∷ b ∷ []) header is =
        let path = path_kept is.accepted in
        let there = whole (path_with (a ∷ b ∷ []) header) is in
        ((tried a (there 0 a (omega arith)) path.source).1 b (there 1 b (omega arith)) (sym path.meet.0)).0
    of_pieces (a ∷ b ∷ c ∷ []) header is =
        let path = path_kept is.accepted in
        let there = whole (path_with (a ∷ b ∷ c ∷ []) header) is in
        (((tried a (there 0 a (omega arith)) path.source).1 b (there 1 b (omega arith)) (sym path.meet.0)).1 c (there 2 c (omega arith)) (sym path.meet.1.0)).0
    of_pieces (a ∷ b ∷ c ∷ d ∷ more) header is =
        absurd (let few = path_is_short (a ∷ b ∷ c ∷ d ∷ more) question.src question.dst question.set.moment (path_kept is.accepted) in omega arith)

    -- what holds of each list that was tried holds of the pieces of each candidate
    pub of_candidate : (path : PathValue) → IsCandidate question path → P path.pieces
    of_candidate path is = of_pieces path.pieces path.header is

  goes_of : (pieces : List PieceValue) (header : HeaderValue) → IsCandidate question (path_with pieces header)
      → GoesOn usable_pieces 3 [] (path_with pieces header)
  goes_of [] header is = absurd (let some = (path_kept is.accepted).some in omega arith)
  goes_of (a ∷ []) header is =
      let there = whole (path_with (a ∷ []) header) is in
      inr (a, there 0 a (omega arith), inl (ap (path_with (a ∷ [])) (header_kept is.accepted)))
  goes_of (a ∷ b ∷ []) header is =
      let there = whole (path_with (a ∷ b ∷ []) header) is in
      inr (a, there 0 a (omega arith), inr (b, there 1 b (omega arith), inl (ap (path_with (a ∷ b ∷ [])) (header_kept is.accepted))))
  goes_of (a ∷ b ∷ c ∷ []) header is =
      let there = whole (path_with (a ∷ b ∷ c ∷ []) header) is in
      inr (a, there 0 a (omega arith), inr (b, there 1 b (omega arith), inr (c, there 2 c (omega arith), ap (path_with (a ∷ b ∷ c ∷ [])) (header_kept is.accepted))))
  goes_of (a ∷ b ∷ c ∷ d ∷ more) header is =
      absurd (let few = path_is_short (a ∷ b ∷ c ∷ d ∷ more) question.src question.dst question.set.moment (path_kept is.accepted) in omega arith)

  pub goes_on : (path : PathValue) → IsCandidate question path → GoesOn usable_pieces 3 [] path
  goes_on path is = goes_of path.pieces path.header is

-- ---- the answer

module _ (question : Question) (limit : ℕ) (usable_pieces : List PieceValue) (ordered : List PathValue)
    (own : All (IsOf question.set) usable_pieces)
    (whole : HaveAll question usable_pieces) (spelled : AreSpelled question) (order : InOrder path_cmp ordered) (few : length ordered ≤ limit) (best : All (IsBest question) ordered)
    (met : OfEachBehind (IsMetBy question limit ordered) usable_pieces 3 [] question.src) where
  pairs : (paths : List PathValue) → InOrder path_cmp paths → AllPairs (λ one other. path_cmp one other ≡ Less) paths
  pairs [] is = λ i j d less within. absurd (omega arith)
  pairs (path ∷ paths) is =
      AllPairs-cons (λ one other. path_cmp one other ≡ Less) path paths
      (All-from_recursion (λ other. path_cmp path other ≡ Less) paths is.0) (pairs paths is.1)

  once : AllPairs (λ one other. ¬ (HaveOneWalk one other)) ordered
  once i j d less within same =
      let first = best i d (omega arith) in
      let second = best j d within in
      let tie =
      tied_shown (get_or ordered i d) (get_or ordered j d) (best_is_one question spelled (get_or ordered i d) (get_or ordered j d) first second same) in
      let both = sym (pairs ordered order i j d less within) ∙ tie in
      cc

  tied_walk : (paths : List PathValue) (one path : PathValue) → All (IsBest question) paths
      → IsCandidate question one → HaveOneWalk one path → Tied path_cmp one paths
      → Any (λ p. HaveOneWalk p path) paths
  tied_walk [] one path all is same tied = absurd tied
  tied_walk (first ∷ paths) one path all is same (inl tie) =
      let shows = same_shown one first (spelled one is) (spelled first (all 0 first (omega arith)).candidate) tie in
      (0, first, omega arith, refl, sym (ap (λ (s : _ × List WalkHop). s.1) shows) ∙ same)
  tied_walk (first ∷ paths) one path all is same (inr tied) =
      let some = tied_walk paths one path (λ k d within. all (suc k) d (omega arith)) is same tied in
      (suc some.0, some.1, (let within = some.2 in omega arith), some.3, some.4)

  met_best : (path : PathValue) → IsBest question path → Met path_cmp limit ordered path
  unfolding IsMetBy
  met_best path is = of_candidate question usable_pieces whole
      (IsMetBy question limit ordered) met path is.candidate path.header is

  each : (path : PathValue) → IsCandidate question path
      → Any (λ one. HaveOneWalk one path) ordered ⊎ IsLeftOut question limit ordered path
  each path is =
      let first = best_there question path is usable_pieces own (goes_on question usable_pieces whole) in
      elim (met_best first.0 first.1) [
        | inl tied ↦ inl (tied_walk ordered first.0 path best first.1.candidate first.2 tied)
        | inr full ↦ inr
            (record { full = full.0; best = first.0; is_best = first.1; same = first.2; behind = All-from_recursion (λ one. path_cmp one first.0 ≡ Less) ordered full.1 })
      ]

  pub answer : IsAnswer question limit ordered
  answer = record { best = best; once = once; ordered = pairs ordered order; few = few; whole = each }
