-- What is said of the walks of a pair is true of its question: the links that all its open walks
-- cross, and the ASes that all pass, are those that each open path needs, if all walks are known.
use Rattle.std.proofs.Common.{◌≡◌, ℕ, ◌<◌, Bool, true, List, get_or, length, Contains, Option, refl, sym, ap, ◌∙◌, subst, arith, eqb-true}
use Rattle.std.specs.Prelude.{◌↔◌, ◌==◌, ◌&&◌, filter}
use Rattle.std.specs.List.{list_all}
use Rattle.std.proofs.lemmas.Bool.{and_parts}
use Rattle.std.proofs.lemmas.List.Elements.{All-contains, All-filter, filter_passes}
use Rattle.std.proofs.lemmas.List.Sums.{AllPass-from_list_all, list_all-from_AllPass}
use Rattle.path_server.proofs.Members.{Contains-filter}
use Rattle.policy_expr.specs.Policy.{Rules}
use Rattle.policy_expr.specs.declared.hop.WalkHop.{WalkHop}
use Rattle.scion_topology.specs.declared.network.Link.{Link}
use Rattle.path_verifier.specs.Walk.{walk_of}
use Rattle.combinator.specs.Candidate.{Question}
use Rattle.combinator.specs.Walks.{AreWalks, IsWalkOf}
use Rattle.network_core.specs.Value.{NetValue}
use Rattle.path_report.specs.declared.best.BestPath.{BestPath}
use Rattle.path_report.specs.declared.pair.AsPair.{AsPair}
use Rattle.path_report.specs.Paths.{IsSurvived, crosses, is_open, open_walks, passes}
use Rattle.path_report.specs.Pair.{EachOpen, IsNeeded, IsPairReport, IsPassed, TellsBest, addresses, is_between, question_between}
use Rattle.path_report.specs.inner.Needed.{is_crossed, is_through}

module _ (links : List Link) (question : Question) (limit : ℕ) (walks : List (List WalkHop))
    (gathered : AreWalks question limit walks) where
  -- where all walks are known, a test that each open one passes is passed by each open path
  all_is_each : (test : List WalkHop → Bool) → length walks < limit → list_all test (open_walks links walks) ≡ true
      → EachOpen links question test
  all_is_each test short all path candidate opens =
      All-contains (λ walk. test walk ≡ true) (open_walks links walks) (walk_of path.pieces)
      (AllPass-from_list_all test (open_walks links walks) all)
      ((Contains-filter (is_open links) walks (walk_of path.pieces)).1 (gathered.whole short path candidate, opens))

  each_is_all : (test : List WalkHop → Bool) → EachOpen links question test → list_all test (open_walks links walks) ≡ true
  each_is_all test each =
      list_all-from_AllPass test (open_walks links walks)
      (λ k d within.
      let walk = get_or (open_walks links walks) k d in
      let is : IsWalkOf question walk = All-filter (is_open links) (IsWalkOf question) walks gathered.each k d within in
      ap test (sym is.same)
      ∙ each is.path is.candidate (ap (is_open links) is.same ∙ filter_passes (is_open links) walks k d within))

  needed_exactly : length walks < limit → (link : Link)
      → Contains (filter (is_crossed (open_walks links walks)) links) link ↔ (Contains links link × IsNeeded links question link)
  needed_exactly short link =
      let kept = Contains-filter (is_crossed (open_walks links walks)) links link in (
        λ found. (let both = kept.0 found in (both.0, all_is_each (λ walk. crosses walk link) short both.1)),
        λ both. kept.1 (both.0, each_is_all (λ walk. crosses walk link) both.1),
      )

  passed_exactly : length walks < limit → (pair : AsPair) (ases : List ℕ) (ia : ℕ)
      → Contains (filter (is_through pair (open_walks links walks)) ases) ia
      ↔ (Contains ases ia × (is_between pair ia ≡ true) × IsPassed links question ia)
  passed_exactly short pair ases ia =
      let all = list_all (λ walk. passes walk ia) (open_walks links walks) in
      let kept = Contains-filter (is_through pair (open_walks links walks)) ases ia in (
        λ found. (
            let both = kept.0 found in
            let parts = and_parts (is_between pair ia) all both.1 in
            (both.0, parts.0, all_is_each (λ walk. passes walk ia) short parts.1)),
        λ parts. kept.1 (parts.0, ap (λ (b : Bool). b && all) parts.1 ∙ each_is_all (λ walk. passes walk ia) parts.2),
      )

module _ (net : NetValue) (rules : Rules) (limit : ℕ) (pair : AsPair) (walks : List (List WalkHop))
    (gathered : AreWalks (question_between net rules pair) limit walks) where
  abbrev opens : List (List WalkHop)
  opens = open_walks net.network.links walks

  -- where all walks are known, and one is open
  module _ (paths survives : ℕ) (best : Option BestPath) (needed : List Link) (through : List ℕ)
      (apart : ¬ (length walks ≡ limit)) (count : paths ≡ length opens) (some : 0 < paths)
      (tells : TellsBest net.network.links (question_between net rules pair) limit best)
      (survived : IsSurvived net.network.links opens survives)
      (is : needed ≡ filter (is_crossed opens) net.network.links)
      (through_is : through ≡ filter (is_through pair opens) (addresses net.network.ases)) where
    short : length walks < limit
    short = let few = gathered.few in omega (arith, few, apart)

    pub reported_all : IsPairReport net rules limit (record {
      pair = pair;
      is_full = length walks == limit;
      paths = paths;
      best = best;
      survives = survives;
      needed = needed;
      through = through;
    })
    reported_all = record {
      walks = walks;
      gathered = gathered;
      full = refl;
      count = count;
      best = λ up. tells;
      links = λ known_too up link. subst (λ (list : List Link). Contains list link ↔ (Contains net.network.links link
          × IsNeeded net.network.links (question_between net rules pair) link)) (sym is)
          (needed_exactly net.network.links (question_between net rules pair) limit walks gathered short link);
      order = λ known_too up. is;
      ases = λ known_too up ia. subst (λ (list : List ℕ). Contains list ia ↔ (Contains (addresses net.network.ases) ia
          × (is_between pair ia ≡ true) × IsPassed net.network.links (question_between net rules pair) ia)) (sym through_is)
          (passed_exactly net.network.links (question_between net rules pair) limit walks gathered short pair (addresses net.network.ases) ia);
      ases_order = λ known_too up. through_is;
      survives = λ known_too up. survived;
      unknown = λ full. absurd (apart (eqb-true (length walks) limit full));
      none = λ none. absurd (omega (arith, some, none));
    }
