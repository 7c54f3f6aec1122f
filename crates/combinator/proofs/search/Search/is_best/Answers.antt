use Rattle.std.proofs.Common.{◌≡◌, [], ℕ, true, false, not, List, All, refl, sym, ap, subst, ◌∙◌, inl, inr}
use Rattle.std.proofs.lemmas.Bool.{cases_Bool, not-true}
use Rattle.path_verifier.specs.Accepted.{AreLive}
use Rattle.path_verifier.specs.Header.{header_of}
use Rattle.path_verifier.specs.Piece.{PieceValue}
use Rattle.path_verifier.specs.Walk.{walk_of}
use Rattle.combinator.specs.Candidate.{Question, PathValue, IsCandidate, IsOf, path_with}
use Rattle.combinator.specs.Answer.{IsBest}
use Rattle.combinator.specs.inner.Group.{GroupValue}
use Rattle.combinator.specs.inner.Over.{MaySearch, OfChoices, OfEachOver}
use Rattle.combinator.specs.inner.Search.{IsNoBetter}
use Rattle.combinator.proofs.Over.{best_over, path_of}
use Rattle.combinator.proofs.search.Search.is_best.Goals as goal

-- a path whose header is that of its pieces
path_is : (found : PathValue) (own : List PieceValue) → own ≡ found.pieces → found.header ≡ header_of found.pieces → path_of own ≡ found
path_is found own same header =
    ap (λ (ps : List PieceValue). path_of ps) same ∙ ap (λ h. path_with found.pieces h) (sym header)

pub may_send-requires : goal.may_send-requires
may_send-requires g c =
    let question = c.args.self.now.ask.now in
    record {
      own = subst (All (IsOf question.set)) (sym c.pieces.ensures) c.requires.own;
      live = subst (AreLive question.set.moment) (sym c.pieces.ensures) c.requires.live;
      walk = c.requires.walk ∙ ap walk_of (sym c.pieces.ensures);
      once = c.requires.once;
    }

pub returns-then-not-may_send : goal.returns-then-not-may_send
returns-then-not-may_send g c =
    let question = c.args.self.now.ask.now in
    let is = path_is c.args.found.now c.pieces.result c.pieces.ensures c.known.ensures.header in (
      λ never. (let clash : false ≡ true = never in cc),
      λ best. sym c.if-not-may_send.true ∙ c.may_send.ensures.1 (subst (IsCandidate question) (sym is) best.candidate),
    )

pub has_better-requires-clause-candidate : goal.has_better-requires-clause-candidate
has_better-requires-clause-candidate g c =
    subst (IsCandidate c.args.self.now.ask.now)
    (path_is c.args.found.now c.pieces.result c.pieces.ensures c.known.ensures.header)
    (c.may_send.ensures.0 c.if-not-may_send.false)

-- no list of groups is better, so the path found is the best for its walk
found_is_best : (question : Question) (groups : List GroupValue) (search : MaySearch question groups) (found : PathValue)
    (front : List GroupValue) (src : ℕ) → IsCandidate question found → front ≡ [] → src ≡ question.src
    → OfEachOver (OfChoices (IsNoBetter question found)) groups 3 front src → IsBest question found
found_is_best question groups search found front src candidate none is tried =
    best_over question groups search.usable_pieces found search.are.each search.are.grouped search.whole candidate
    (subst (OfEachOver (OfChoices (IsNoBetter question found)) groups 3 []) is
    (subst (λ (gs : List GroupValue). OfEachOver (OfChoices (IsNoBetter question found)) groups 3 gs src) none tried))

pub returns : goal.returns
returns g c =
    let question = c.args.self.now.ask.now in
    let src : c.ask.inside.src ≡ question.src = ap (λ (q : Question). q.src) c.ask.view_is in
    let candidate = subst (IsCandidate question)
    (path_is c.args.found.now c.pieces.result c.pieces.ensures c.known.ensures.header)
    (c.may_send.ensures.0 c.if-not-may_send.false) in (
      λ none. found_is_best question c.args.self.now.groups.now c.requires.search c.args.found.now [] c.ask.inside.src
          candidate refl src (c.has_better.ensures.none (not-true c.has_better.result none)),
      λ best. elim (cases_Bool c.has_better.result) [
        | inl better ↦ absurd (c.has_better.ensures.better better best)
        | inr none ↦ ap not none
      ],
    )
