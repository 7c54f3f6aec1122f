-- Sets of the same segments, all live at the moments of both, have the same answers.
use Rattle.std.proofs.Common.{ℕ, ◌+◌, List, take, All, Contains, Option, None, Some, inl, inr}
use Rattle.std.proofs.lemmas.List.Elements.{All-weaker, All-contains, All-take, All-drop}
use Rattle.hop_mac.specs.Lifetime.{IsLive}
use Rattle.path_segment.specs.declared.entry.Entry.{Entry}
use Rattle.path_segment.specs.Chain as segments
use Rattle.path_segment.specs.Chain.{Chain}
use Rattle.path_server.specs.Lookup.{Selection}
use Rattle.policy_expr.specs.Policy.{Rules}
use Rattle.policy_expr.specs.Options.{WeighedRules}
use Rattle.path_verifier.specs.declared.kind.PieceKind.{PieceKind}
use Rattle.path_verifier.specs.declared.kind.PieceKind.TheVariants.{Up, Core, Down}
use Rattle.path_verifier.specs.Piece.{PieceValue, kind_of, entries_of}
use Rattle.path_verifier.specs.Accepted.{AreLive, MakesPath}
use Rattle.path_verifier.proofs.Breaches.{accepts, header_kept, hops_kept, path_kept, word_kept}
use Rattle.combinator.specs.Candidate.{question_of, PathValue, segments_of, IsOf, IsCandidate, HasNone}
use Rattle.combinator.specs.Answer.{IsBest, IsLeftOut, IsAnswer, AnswersWith, question_under}
use Rattle.combinator.specs.Lasting.{IsSameSet, AreAllLive}

pub turned_set : (set other : Selection) → IsSameSet set other → IsSameSet other set
turned_set set other same = record {
  ups = λ segment. ((same.ups segment).1, (same.ups segment).0);
  cores = λ segment. ((same.cores segment).1, (same.cores segment).0);
  downs = λ segment. ((same.downs segment).1, (same.downs segment).0);
}

also_of : (set other : Selection) → IsSameSet set other → (kind : PieceKind) (segment : Chain)
    → Contains (segments_of set kind) segment → Contains (segments_of other kind) segment
also_of set other same Up segment there = (same.ups segment).0 there
also_of set other same Core segment there = (same.cores segment).0 there
also_of set other same Down segment there = (same.downs segment).0 there

live_in : (set : Selection) (now : ℕ) → AreAllLive set now → (kind : PieceKind) (segment : Chain)
    → Contains (segments_of set kind) segment → segments.IsChainLive segment now
live_in set now live Up segment there = All-contains (λ s. segments.IsChainLive s now) set.ups segment live.ups there
live_in set now live Core segment there =
    All-contains (λ s. segments.IsChainLive s now) set.cores segment live.cores there
live_in set now live Down segment there =
    All-contains (λ s. segments.IsChainLive s now) set.downs segment live.downs there

live_stretch : (piece : PieceValue) (now : ℕ) → segments.IsChainLive piece.segment now
    → All (λ (entry : Entry). IsLive piece.segment.timestamp entry.exp_time now) (entries_of piece)
live_stretch piece now live =
    All-drop (λ (entry : Entry). IsLive piece.segment.timestamp entry.exp_time now) piece.from
    (take (piece.to + 1) piece.segment.entries)
    (All-take (λ (entry : Entry). IsLive piece.segment.timestamp entry.exp_time now) (piece.to + 1) piece.segment.entries live)

live_pieces : (set : Selection) (now : ℕ) (pieces : List PieceValue) → AreAllLive set now
    → All (IsOf set) pieces → AreLive now pieces
live_pieces set now pieces live own =
    All-weaker (IsOf set) (λ piece. All (λ entry. IsLive piece.segment.timestamp entry.exp_time now) (entries_of piece))
    (λ piece there. live_stretch piece now (live_in set now live (kind_of piece) piece.segment there)) pieces own

module _ (set other : Selection) (src dst : ℕ) (rules : Rules) where
  candidate_too : IsSameSet set other → AreAllLive other other.moment → (path : PathValue)
      → IsCandidate (question_of set src dst rules) path → IsCandidate (question_of other src dst rules) path
  candidate_too same live path is =
      let own =
      All-weaker (IsOf set) (IsOf other) (λ piece there. also_of set other same (kind_of piece) piece.segment there) path.pieces is.own in
      let was = path_kept is.accepted in
      let makes : MakesPath path.pieces src dst other.moment = record {
        some = was.some;
        ranges = was.ranges;
        kinds = was.kinds;
        cuts = was.cuts;
        meet = was.meet;
        source = was.source;
        destination = was.destination;
        few = was.few;
        once = was.once;
        live = live_pieces other other.moment path.pieces live own;
      } in
      record {
        own = own;
        accepted = accepts _ makes (header_kept is.accepted) (hops_kept is.accepted) (word_kept is.accepted);
      }

module _ (set other : Selection) (src dst : ℕ) (rules : Rules) (same : IsSameSet set other)
    (here : AreAllLive set set.moment) (there : AreAllLive other other.moment) where
  to : (path : PathValue) → IsCandidate (question_of set src dst rules) path
      → IsCandidate (question_of other src dst rules) path
  to = candidate_too set other src dst rules same there

  back : (path : PathValue) → IsCandidate (question_of other src dst rules) path
      → IsCandidate (question_of set src dst rules) path
  back = candidate_too other set src dst rules (turned_set set other same) here

  best_too : (path : PathValue) → IsBest (question_of set src dst rules) path
      → IsBest (question_of other src dst rules) path
  best_too path is = record {
    candidate = to path is.candidate;
    latest = λ one candidate. is.latest one (back one candidate);
    least = λ one candidate. is.least one (back one candidate);
  }

  left_out_too : (limit : ℕ) (paths : List PathValue) (path : PathValue)
      → IsLeftOut (question_of set src dst rules) limit paths path
      → IsLeftOut (question_of other src dst rules) limit paths path
  left_out_too limit paths path out = record { full = out.full; best = out.best; is_best = best_too out.best out.is_best; same = out.same; behind = out.behind }

  pub answer_too : (limit : ℕ) (paths : List PathValue) → IsAnswer (question_of set src dst rules) limit paths
      → IsAnswer (question_of other src dst rules) limit paths
  answer_too limit paths is = record {
    best = All-weaker (IsBest (question_of set src dst rules))
        (IsBest (question_of other src dst rules)) best_too paths is.best;
    once = is.once;
    ordered = is.ordered;
    few = is.few;
    whole = λ path candidate. elim (is.whole path (back path candidate)) [ inl some ↦ inl some | inr out ↦ inr (left_out_too limit paths path out) ];
  }

  pub none_too : HasNone (question_of set src dst rules) → HasNone (question_of other src dst rules)
  none_too none path is = none path (back path is)

-- the same under several options
module _ (set other : Selection) (src dst : ℕ) (same : IsSameSet set other) (here : AreAllLive set set.moment)
    (there : AreAllLive other other.moment) where
  pub options_too : (options : List WeighedRules) (limit : ℕ) (used : Option ℕ) (paths : List PathValue)
      → AnswersWith set src dst options limit used paths → AnswersWith other src dst options limit used paths
  options_too options limit None paths is = (
    is.0,
    All-weaker (λ option. HasNone (question_under set src dst option))
        (λ option. HasNone (question_under other src dst option))
        (λ option none. none_too set other src dst option.rules same here there none) options is.1,
  )
  options_too options limit (Some used) paths is = record {
    option = is.option;
    there = is.there;
    some = is.some;
    answer = answer_too set other src dst is.option.rules same here there limit paths is.answer;
    first = λ j one at before. none_too set other src dst one.rules same here there (is.first j one at before);
  }
