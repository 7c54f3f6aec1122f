-- What holds of lists of groups holds of lists of their pieces.
use Rattle.std.proofs.Common.{◌≡◌, ℕ, zero, suc, ◌*◌, ◌≤◌, List, [], ◌∷◌, ◌++◌, All, Contains, refl, sym, subst, ◌∙◌, arith}
use Rattle.std.specs.List.{AllByRecursion}
use Rattle.std.proofs.lemmas.List.Elements.{All-cons, All-head}
use Rattle.hop_mac.specs.Lifetime.{expiry_of}
use Rattle.path_header.specs.Value.{HeaderValue}
use Rattle.path_verifier.specs.Piece.{PieceValue, HasRange, ends_in, entries_of}
use Rattle.path_verifier.specs.Walk.{walk_of}
use Rattle.policy_expr.specs.declared.hop.WalkHop.{WalkHop}
use Rattle.policy_expr.specs.Policy.{AllowsHops, HasWord}
use Rattle.path_verifier.specs.Header.{header_of, total_hops}
use Rattle.path_verifier.specs.Accepted.{AreLive, IsAccepted, MakesPath, request_of}
use Rattle.path_verifier.proofs.Breaches.{accepts, header_kept, path_kept, hops_kept, word_kept}
use Rattle.combinator.specs.Candidate.{Question, PathValue, IsCandidate, IsOf, AreSpelled, path_with}
use Rattle.combinator.specs.Order.{path_cmp, HaveOneWalk}
use Rattle.combinator.specs.Answer.{IsBest}
use Rattle.combinator.specs.inner.Placed.{Met}
use Rattle.combinator.specs.inner.Search.{OfEachBehind, IsMetBy, IsNoBetter, IsNoWorse, HaveAll}
use Rattle.combinator.proofs.Lasting.{no_worse_on}
use Rattle.combinator.proofs.Rivals.{found_best}
use Rattle.combinator.proofs.Settled.{met_by_best}
use Rattle.combinator.specs.inner.Alike.{IsUsable, AreAlike}
use Rattle.combinator.specs.inner.Group.{heads_of, GroupValue, IsGroup, AreOf, IsBestOf}
use Rattle.combinator.specs.inner.Over.{AreGrouped, OfEachOver, OfChoices, AreLiveGroups, AreOwnGroups}
use Rattle.combinator.proofs.Joined.{walk_alike}
use Rattle.combinator.proofs.Alike.{begins_alike, ends_alike, accepted_alike, total_alike}
use Rattle.combinator.proofs.Choices.{heads_alike, of_group, best_of, chosen_of, choices_alike, usable_there}

of_push : (groups : List GroupValue) (pieces : List PieceValue) (group : GroupValue) (piece : PieceValue)
    → AreOf groups pieces → Contains group.pieces piece → AreOf (groups ++ group ∷ []) (pieces ++ piece ∷ [])
of_push [] [] group piece of there = (there, tt)
of_push [] (one ∷ pieces) group piece of there = absurd of
of_push (first ∷ groups) [] group piece of there = absurd of
of_push (first ∷ groups) (one ∷ pieces) group piece of there = (of.0, of_push groups pieces group piece of.1 there)

pub group_there : (P : GroupValue → Type 0) (groups : List GroupValue) (group : GroupValue) → All P groups → Contains groups group → P group
group_there P groups group all there = subst P there.2 (all there.0 group there.1)

-- law 3: what holds of each choice from each list of groups holds of each list of usable pieces
module _ (fact : List PieceValue → Type 0) (groups : List GroupValue) (usable_pieces : List PieceValue)
    (are : All IsGroup groups) (grouped : AreGrouped groups usable_pieces) where
  pub to_pieces : (depth : ℕ) (front : List GroupValue) (pieces : List PieceValue) (at : ℕ) → AreOf front pieces
      → OfEachOver (OfChoices fact) groups depth front at → OfEachBehind fact usable_pieces depth pieces at
  unfolding OfEachOver OfEachBehind
  to_pieces zero front pieces at of all = tt
  to_pieces (suc depth) front pieces at of all = λ piece there begins.
      let found = grouped piece there in
      let group = found.0 in
      let is = group_there IsGroup groups group are found.1 in
      let alike : AreAlike group.head piece = of_group (AreAlike group.head) group.pieces piece is.alike found.2 in
      let range : HasRange piece = (of_group IsUsable group.pieces piece is.usable found.2).range in
      let here = all group found.1 (begins_alike group.head piece is.head.range range alike ∙ begins) in
      let more = of_push front pieces group piece of found.2 in (
        here.0 (pieces ++ piece ∷ []) more,
        subst (OfEachBehind fact usable_pieces depth (pieces ++ piece ∷ [])) (ends_alike group.head piece is.head.range range alike)
            (to_pieces depth (front ++ group ∷ []) (pieces ++ piece ∷ []) (ends_in group.head) more here.1),
      )

-- ---- the facts of a search about all choices from some groups

live_cons : (now : ℕ) (piece : PieceValue) (pieces : List PieceValue) → AreLive now (piece ∷ []) → AreLive now pieces → AreLive now (piece ∷ pieces)
live_cons now piece pieces one more =
    let P : PieceValue → Type 0 = λ (p : PieceValue). All (λ entry. 2 * now ≤ expiry_of p.segment.timestamp entry.exp_time) (entries_of p) in
    All-cons P piece pieces (All-head P piece [] one) more

pub live_there : (now : ℕ) (groups : List GroupValue) (pieces : List PieceValue) → AreLiveGroups now groups → AreOf groups pieces → AreLive now pieces
live_there now [] [] live of = λ k d within. absurd (omega (arith, within))
live_there now [] (piece ∷ pieces) live of = absurd of
live_there now (group ∷ groups) [] live of = absurd of
live_there now (group ∷ groups) (piece ∷ pieces) live of =
    live_cons now piece pieces (of_group (λ p. AreLive now (p ∷ [])) group.pieces piece live.0 of.0) (live_there now groups pieces live.1 of.1)

pub own_there : (question : Question) (groups : List GroupValue) (pieces : List PieceValue) → AreOwnGroups question groups → AreOf groups pieces
    → All (IsOf question.set) pieces
own_there question [] [] own of = λ k d within. absurd (omega (arith, within))
own_there question [] (piece ∷ pieces) own of = absurd of
own_there question (group ∷ groups) [] own of = absurd of
own_there question (group ∷ groups) (piece ∷ pieces) own of =
    All-cons (IsOf question.set) piece pieces (of_group (IsOf question.set) group.pieces piece own.0 of.0) (own_there question groups pieces own.1 of.1)

abbrev pub path_of : List PieceValue → PathValue
path_of pieces = path_with pieces (header_of pieces)

-- where a choice is a candidate, each other one is
pub each_candidate : (question : Question) (groups : List GroupValue) → AllByRecursion IsGroup groups
    → AreLiveGroups question.set.moment groups → AreOwnGroups question groups
    → (others : List PieceValue) → AreOf groups others
    → (pieces : List PieceValue) (header : HeaderValue) → AreOf groups pieces
    → IsCandidate question (path_with pieces header) → IsCandidate question (path_of others)
each_candidate question groups are live own others of_others pieces header of candidate = record {
  own = own_there question groups others own of_others;
  accepted = accepted_alike pieces others question.src question.dst question.set.moment question.rules
      (usable_there groups others are of_others) (choices_alike groups pieces others are of of_others)
      (live_there question.set.moment groups others live of_others)
      (subst (λ (h : HeaderValue). IsAccepted (request_of pieces h question.src question.dst question.set.moment question.rules))
      (header_kept candidate.accepted) candidate.accepted);
}

module _ (question : Question) (groups : List GroupValue) (are : AllByRecursion IsGroup groups)
    (live : AreLiveGroups question.set.moment groups) (own : AreOwnGroups question groups)
    (best : List PieceValue) (is_best : IsBestOf groups best) where
  best_is_of : AreOf groups best
  best_is_of = chosen_of is_best.half groups best is_best.least

  -- where a choice is a candidate, the best choice is one
  pub candidate_too : (pieces : List PieceValue) (header : HeaderValue) → AreOf groups pieces
      → IsCandidate question (path_with pieces header) → IsCandidate question (path_of best)
  candidate_too = each_candidate question groups are live own best best_is_of

  pub one_walk : (pieces : List PieceValue) → AreOf groups pieces → walk_of pieces ≡ walk_of best
  one_walk pieces of = walk_alike pieces best (choices_alike groups pieces best are of best_is_of)

  -- where a choice is the best for its walk, the best choice is
  pub best_too : (pieces : List PieceValue) (header : HeaderValue) → AreOf groups pieces
      → IsBest question (path_with pieces header) → IsBest question (path_of best)
  best_too pieces header of is =
      let same : header ≡ header_of pieces = header_kept is.candidate.accepted in
      let first : IsNoWorse (path_of best) (path_with pieces header) =
      subst (λ (h : HeaderValue). IsNoWorse (path_of best) (path_with pieces h)) (sym same) (best_of groups best pieces are is_best of) in
      let rivals : (other : PathValue) → IsCandidate question other → HaveOneWalk other (path_of best) → IsNoWorse (path_of best) other =
      λ other candidate walk. no_worse_on (path_of best) (path_with pieces header) other first
      (record {
        latest = is.latest other candidate (walk ∙ sym (one_walk pieces of));
        least = is.least other candidate (walk ∙ sym (one_walk pieces of));
      }) in
      record {
        candidate = candidate_too pieces header of is.candidate;
        latest = λ other candidate walk. (rivals other candidate walk).latest;
        least = λ other candidate walk. (rivals other candidate walk).least;
      }

  -- the exits of `consider`: the best choice is no candidate; it is not the best for its walk; it is
  -- met already, or now
  pub met_no_candidate : (limit : ℕ) (paths : List PathValue) → ¬ (IsCandidate question (path_of best))
      → OfChoices (IsMetBy question limit paths) groups
  unfolding IsMetBy
  met_no_candidate limit paths never = λ pieces of header is. absurd (never (candidate_too pieces header of is.candidate))

  pub met_not_best : (limit : ℕ) (paths : List PathValue) → ¬ (IsBest question (path_of best))
      → OfChoices (IsMetBy question limit paths) groups
  unfolding IsMetBy
  met_not_best limit paths never = λ pieces of header is. absurd (never (best_too pieces header of is))

  pub met_best : (limit : ℕ) (paths : List PathValue) → AreSpelled question → Met path_cmp limit paths (path_of best)
      → OfChoices (IsMetBy question limit paths) groups
  unfolding IsMetBy
  met_best limit paths spelled met = λ pieces of header is.
      met_by_best question spelled limit paths (path_of best) pieces (best_too pieces header of is) met (one_walk pieces of) header is

  -- the exits of `has_better` on one list of groups: the best choice is no better than the path
  -- found; or it is no path
  pub no_better_best : (found : PathValue) → IsNoWorse found (path_of best) → OfChoices (IsNoBetter question found) groups
  unfolding IsNoBetter
  no_better_best found upto = λ pieces of header is same.
      subst (λ (h : HeaderValue). IsNoWorse found (path_with pieces h)) (sym (header_kept is.accepted))
      (no_worse_on found (path_of best) (path_of pieces) upto (best_of groups best pieces are is_best of))

  pub no_better_refused : (found : PathValue) → ¬ (MakesPath best question.src question.dst question.set.moment)
      → OfChoices (IsNoBetter question found) groups
  unfolding IsNoBetter
  no_better_refused found never = λ pieces of header is same.
      absurd (never (path_kept (candidate_too pieces header of is).accepted))

  -- and where the best choice has another walk
  pub no_better_apart : (found : PathValue) → ¬ (walk_of best ≡ walk_of found.pieces) → OfChoices (IsNoBetter question found) groups
  unfolding IsNoBetter
  no_better_apart found never = λ pieces of header is same. absurd (never (sym (one_walk pieces of) ∙ same))

  -- the best choice has as many hop fields as the heads
  pub best_count : total_hops (heads_of groups) ≡ total_hops best
  best_count = total_alike (heads_of groups) best (heads_alike groups best are best_is_of)

  pub best_live : AreLive question.set.moment best
  best_live = live_there question.set.moment groups best live best_is_of

  pub best_own : All (IsOf question.set) best
  best_own = own_there question groups best own best_is_of

  -- where the best choice is a path with the walk of a candidate, it is a candidate; so where it is
  -- better, the path found is not the best
  pub better_not_best : (found : PathValue) → IsCandidate question found
      → MakesPath best question.src question.dst question.set.moment → walk_of best ≡ walk_of found.pieces
      → ¬ (IsNoWorse found (path_of best)) → ¬ (IsBest question found)
  better_not_best found candidate path walk worse is =
      let allowed = λ (hops : List WalkHop). AllowsHops question.rules.acl hops in
      let matched = λ (hops : List WalkHop). HasWord question.rules.sequence hops in
      let rival : IsCandidate question (path_of best) = record {
        own = best_own;
        accepted = accepts (request_of best (header_of best) question.src question.dst question.set.moment question.rules) path refl
            (subst allowed (sym walk) (hops_kept candidate.accepted)) (subst matched (sym walk) (word_kept candidate.accepted));
      } in
      worse (record { latest = is.latest (path_of best) rival walk; least = is.least (path_of best) rival walk })

-- has_better is false: the path found is the best for its walk
pub best_over : (question : Question) (groups : List GroupValue) (usable_pieces : List PieceValue) (found : PathValue)
    → All IsGroup groups → AreGrouped groups usable_pieces → HaveAll question usable_pieces → IsCandidate question found
    → OfEachOver (OfChoices (IsNoBetter question found)) groups 3 [] question.src → IsBest question found
best_over question groups usable_pieces found are grouped whole candidate tried =
    found_best question usable_pieces found whole candidate
    (to_pieces (IsNoBetter question found) groups usable_pieces are grouped 3 [] [] question.src tt tried)

-- ---- groups made of all usable pieces

pub there_front : (front later : List PieceValue) (piece : PieceValue) → Contains front piece → Contains (front ++ later) piece
there_front [] later piece there = absurd (let within = there.1 in omega (arith, within))
there_front (one ∷ front) later piece (zero, within, at) = (0, omega arith, at)
there_front (one ∷ front) later piece (suc k, within, at) =
    let more = there_front front later piece (k, omega (arith, within), at) in
    (suc more.0, (let here = more.1 in omega (arith, here)), more.2)
