-- The options that are wanted, in a pass over the lists of groups.
use Rattle.std.proofs.Common.{◌≡◌, ℕ, ◌+◌, ◌<◌, ◌≤◌, List, [], ◌∷◌, ◌++◌, length, All, Contains, Option, Some, None, refl, sym, ap, subst, ◌∙◌, inl, inr, arith, append_assoc}
use Rattle.std.specs.Prelude.{◌⊎◌, slice_get, IfSome}
use Rattle.std.specs.List.{AllByRecursion}
use Rattle.std.proofs.lemmas.Bool.{cases_lt}
use Rattle.std.proofs.lemmas.List.{map-append}
use Rattle.std.proofs.lemmas.Option.{same_Some, slice_get_within}
use Rattle.path_header.specs.Value.{HeaderValue}
use Rattle.path_server.specs.Lookup.{Selection}
use Rattle.policy_expr.specs.Options.{WeighedRules}
use Rattle.policy_expr.specs.Policy.{Rules, AllowsHops, HasWord}
use Rattle.policy_expr.specs.declared.hop.WalkHop.{WalkHop}
use Rattle.path_verifier.specs.Piece.{PieceValue, ends_in, kind_of}
use Rattle.path_verifier.specs.Walk.{walk_of}
use Rattle.path_verifier.specs.Accepted.{DoEndIn, MakesPath, MayAdjoin, NamesOnce}
use Rattle.path_verifier.specs.Header.{total_hops}
use Rattle.path_verifier.proofs.Breaches.{path_kept, hops_kept, word_kept}
use Rattle.combinator.specs.Candidate.{Question, IsCandidate, path_with, question_of}
use Rattle.combinator.specs.Answer.{GoesBefore, question_under}
use Rattle.combinator.specs.inner.Choice.{Allows, MayChoose, AreForAny, IsWanted, IsFirst, GoesNoLater, LeavesPath, LeaveNone, IsAllowed, AllowNone, HaveNone}
use Rattle.combinator.specs.inner.Group.{GroupValue, IsGroup, AreOf, heads_of}
use Rattle.combinator.specs.inner.Over.{OfChoices, OfEachOver}
use Rattle.combinator.proofs.Alike.{path_alike}
use Rattle.combinator.proofs.Answering.{of_candidate}
use Rattle.combinator.proofs.Asked.{candidate_of_parts}
use Rattle.combinator.proofs.Choices.{choices_alike, heads_there, usable_there}
use Rattle.combinator.proofs.Facts.{HaveNoCandidate, kinds_apart, named_twice, none_behind_end, too_long}
use Rattle.combinator.proofs.Over.{group_there, live_there, own_there, path_of, to_pieces}
use Rattle.combinator.proofs.Prefix.{both_groups, over_all}
use Rattle.combinator.proofs.Passing.{each_longer, each_tried, more_hops}
use Rattle.combinator.proofs.Tried.{ends_with, one_end}
use Rattle.combinator.proofs.Trying.{WasTriedOver, for_more, tried_here}
use Rattle.combinator.proofs.Joined.{walk_alike}

-- ---- the order of options

before_on : (i j k : ℕ) (one other third : WeighedRules) → GoesBefore i one j other → GoesBefore j other k third
    → GoesBefore i one k third
before_on i j k one other third first second = elim first [
  | inl more ↦ elim second [
    | inl also ↦ inl (omega (arith, more, also))
    | inr level ↦ (let same = level.0 in inl (omega (arith, more, same)))
  ]
  | inr level ↦ (let same = level.0 in let before = level.1 in elim second [
    | inl more ↦ inl (omega (arith, more, same))
    | inr also ↦ (let equal = also.0 in let less = also.1 in inr (omega (arith, same, equal), omega (arith, before, less)))
  ])
]

not_before_itself : (i : ℕ) (one other : WeighedRules) → one ≡ other → GoesBefore i one i other → ⊥
not_before_itself i one other is goes =
    let same : one.weight ≡ other.weight = ap (λ (o : WeighedRules). o.weight) is in
    elim goes [ inl more ↦ (omega (arith, more, same)) | inr level ↦ (let less = level.1 in omega (arith, less)) ]

-- the best option is the one it was
pub still_best : (best : Option ℕ) (Q : ℕ → Type 0) → IfSome best (λ place. (best ≡ Some place) ⊎ Q place)
still_best None Q = tt
still_best (Some place) Q = inl refl

-- an option that allows the walk of a path
pub allowed_path : (Path : Type 0) → Path → (best next : Option ℕ) (Q : ℕ → Type 0)
    → IfSome next (λ place. (best ≡ Some place) ⊎ Q place) → IfSome next (λ place. (best ≡ Some place) ⊎ (Path × Q place))
allowed_path Path path best None Q is = tt
allowed_path Path path best (Some place) Q is = elim is [ inl same ↦ inl same | inr allowed ↦ inr (path, allowed) ]

module _ (options : List WeighedRules) where
  -- an option that goes before the best one takes its place
  pub now_best : (place : ℕ) (option : WeighedRules) → slice_get options place ≡ Some option → (best : Option ℕ)
      → IsWanted options best place option → GoesNoLater options (Some place) best
  now_best place option there None wanted = λ p o goes. tt
  now_best place option there (Some best) wanted = λ p o goes other at.
      before_on p place best o option other (goes option there) (wanted other at)

  pub no_more_itself : (place : ℕ) (option : WeighedRules) → slice_get options place ≡ Some option
      → IsWanted options (Some place) place option → ⊥
  no_more_itself place option there wanted = not_before_itself place option option refl (wanted option there)

  earlier_or_here : (place : ℕ) (option : WeighedRules) → slice_get options place ≡ Some option → (j : ℕ) (other : WeighedRules)
      → j < place + 1 → slice_get options j ≡ Some other → (j < place) ⊎ ((j ≡ place) × (option ≡ other))
  earlier_or_here place option here j other within at = elim (cases_lt j place) [
    | inl less ↦ inl less
    | inr upto ↦
        (let same : j ≡ place = omega (arith, upto, within) in inr (same, same_Some option other (sym here ∙ ap (slice_get options) (sym same) ∙ at)))
  ]

  -- no option before a place goes before the best one and allows the walk
  abbrev pub AllowNoneTo : ℕ → Option ℕ → List WalkHop → Type 0
  AllowNoneTo place best walk = (j : ℕ) (other : WeighedRules) → j < place → slice_get options j ≡ Some other
      → IsWanted options best j other → ¬ (Allows other.rules walk)

  module _ (place : ℕ) (option : WeighedRules) (here : slice_get options place ≡ Some option) (best : Option ℕ)
      (walk : List WalkHop) (so_far : AllowNoneTo place best walk) where
    pub none_taken : IsWanted options best place option → AllowNoneTo (place + 1) (Some place) walk
    none_taken wanted j other within at goes = elim (earlier_or_here place option here j other within at) [
      | inl less ↦ so_far j other less at (now_best place option here best wanted j other goes)
      | inr same ↦ absurd (no_more_itself place option here
          (subst (λ (o : WeighedRules). IsWanted options (Some place) place o) (sym same.1)
          (subst (λ (i : ℕ). IsWanted options (Some place) i other) same.0 goes)))
    ]

    pub none_passed : (IsWanted options best place option → ¬ (Allows option.rules walk)) → AllowNoneTo (place + 1) best walk
    none_passed never j other within at goes = elim (earlier_or_here place option here j other within at) [
      | inl less ↦ so_far j other less at goes
      | inr same ↦ (λ allows. never
          (subst (λ (o : WeighedRules). IsWanted options best place o) (sym same.1)
          (subst (λ (i : ℕ). IsWanted options best i other) same.0 goes))
          (subst (λ (o : WeighedRules). Allows o.rules walk) (sym same.1) allows))
    ]

  pub none_of_all : (place : ℕ) (best : Option ℕ) (walk : List WalkHop) → length options ≤ place → AllowNoneTo place best walk
      → AllowNone options best walk
  none_of_all place best walk past none j other at =
      none j other (let within = slice_get_within options j other at in omega (arith, within, past)) at

  -- no option before a place goes before the first one
  abbrev pub IsFirstTo : ℕ → ℕ → Type 0
  IsFirstTo place first = (j : ℕ) (other : WeighedRules) → j < place → slice_get options j ≡ Some other
      → ¬ (IsWanted options (Some first) j other)

  module _ (place first : ℕ) (option : WeighedRules) (here : slice_get options place ≡ Some option)
      (so_far : IsFirstTo place first) where
    pub first_taken : IsWanted options (Some first) place option → IsFirstTo (place + 1) place
    first_taken wanted j other within at goes = elim (earlier_or_here place option here j other within at) [
      | inl less ↦ so_far j other less at (now_best place option here (Some first) wanted j other goes)
      | inr same ↦ no_more_itself place option here
          (subst (λ (o : WeighedRules). IsWanted options (Some place) place o) (sym same.1)
          (subst (λ (i : ℕ). IsWanted options (Some place) i other) same.0 goes))
    ]

    pub first_still : (IsWanted options (Some first) place option → ⊥) → IsFirstTo (place + 1) first
    first_still never j other within at goes = elim (earlier_or_here place option here j other within at) [
      | inl less ↦ so_far j other less at goes
      | inr same ↦ never
          (subst (λ (o : WeighedRules). IsWanted options (Some first) place o) (sym same.1)
          (subst (λ (i : ℕ). IsWanted options (Some first) i other) same.0 goes))
    ]

  pub first_of_all : (place first : ℕ) → length options ≤ place → IsFirstTo place first → IsFirst options first
  first_of_all place first past none j other at =
      none j other (let within = slice_get_within options j other at in omega (arith, within, past)) at

-- ---- the paths of some groups

pub within_of : (under : WeighedRules → Question) (options : List WeighedRules) (best : Option ℕ) → IfSome best (LeavesPath under options)
    → IfSome best (λ place. place < length options)
within_of under options None leaves = tt
within_of under options (Some place) leaves = slice_get_within options place leaves.option leaves.there

module _ (set : Selection) (src dst : ℕ) (options : List WeighedRules) where
  -- no option that goes before the best one has a candidate among these choices
  abbrev pub Passed : Option ℕ → List GroupValue → Type 0
  Passed best groups = OfChoices (LeaveNone (question_under set src dst) options best) groups

  pub passed_on : (next best : Option ℕ) → GoesNoLater options next best → (groups : List GroupValue)
      → Passed best groups → Passed next groups
  unfolding LeaveNone
  passed_on next best later groups none = λ pieces of place option there wanted header is.
      none pieces of place option there (later place option wanted) header is

  pub passed_where_none : (best : Option ℕ) (groups : List GroupValue)
      → ((rules : Rules) → HaveNoCandidate (question_of set src dst rules) groups) → Passed best groups
  unfolding LeaveNone
  passed_where_none best groups none = λ pieces of place option there wanted header is.
      none option.rules pieces of header is

  pub passed_at_first : (first : ℕ) (best : Option ℕ) → best ≡ Some first → IsFirst options first → (groups : List GroupValue)
      → Passed best groups
  unfolding LeaveNone
  passed_at_first first best is none groups = λ pieces of place option there wanted header candidate.
      none place option there (subst (λ (b : Option ℕ). IsWanted options b place option) is wanted)

  module _ (groups : List GroupValue) (are_for : AreForAny set src dst groups) where
    -- where a choice is a candidate under any rules, the heads are a path
    path_of_heads : (rules : Rules) (pieces : List PieceValue) (header : HeaderValue) → AreOf groups pieces
        → IsCandidate (question_of set src dst rules) (path_with pieces header)
        → MakesPath (heads_of groups) src dst set.moment
    path_of_heads rules pieces header of candidate =
        let is = are_for rules in
        let there = heads_there groups is.are in
        path_alike pieces (heads_of groups) src dst set.moment (usable_there groups (heads_of groups) is.are there)
        (choices_alike groups pieces (heads_of groups) is.are of there)
        (live_there set.moment groups (heads_of groups) is.live there) (path_kept candidate.accepted)

    pub passed_refused : (best : Option ℕ) → ¬ (MakesPath (heads_of groups) src dst set.moment) → Passed best groups
    unfolding LeaveNone
    passed_refused best never = λ pieces of place option there wanted header is.
        never (path_of_heads option.rules pieces header of is)

    module _ (walk : List WalkHop) (is_walk : walk ≡ walk_of (heads_of groups)) where
      passed_allowed : (best : Option ℕ) → AllowNone options best walk → Passed best groups
      unfolding LeaveNone
      passed_allowed best none = λ pieces of place option there wanted header is.
          let are = (are_for option.rules).are in
          let same : walk_of pieces ≡ walk =
          walk_alike pieces (heads_of groups) (choices_alike groups pieces (heads_of groups) are of (heads_there groups are)) ∙ sym is_walk in
          none place option there wanted (
            subst (λ (hops : List WalkHop). AllowsHops option.rules.acl hops) same (hops_kept is.accepted),
            subst (λ (hops : List WalkHop). HasWord option.rules.sequence hops) same (word_kept is.accepted),
          )

      -- if it is a path, the option allows none of them
      pub passed_if_path : (best : Option ℕ) → (MakesPath (heads_of groups) src dst set.moment → AllowNone options best walk)
          → Passed best groups
      unfolding LeaveNone
      passed_if_path best none = λ pieces of place option there wanted header is.
          passed_allowed best (none (path_of_heads option.rules pieces header of is)) pieces of place option there wanted header is

      leaves_allowed : MakesPath (heads_of groups) src dst set.moment → (place : ℕ) → IsAllowed options walk place
          → LeavesPath (question_under set src dst) options place
      leaves_allowed path place is =
          let question = question_under set src dst is.option in
          let each = are_for is.option.rules in record {
            option = is.option;
            there = is.there;
            path = path_of (heads_of groups);
            candidate = candidate_of_parts question (path_of (heads_of groups))
                (own_there question groups (heads_of groups) each.own (heads_there groups each.are)) refl path walk is_walk is.option.rules refl
                is.allows.0 is.allows.1;
          }

      pub leaves_on : (best next : Option ℕ) → IfSome best (LeavesPath (question_under set src dst) options)
          → IfSome next (λ place. (best ≡ Some place) ⊎ (MakesPath (heads_of groups) src dst set.moment × IsAllowed options walk place))
          → IfSome next (LeavesPath (question_under set src dst) options)
      leaves_on best None leaves is = tt
      leaves_on best (Some place) leaves is = elim is [
        | inl same ↦ subst (λ (b : Option ℕ). IfSome b (LeavesPath (question_under set src dst) options)) same leaves
        | inr both ↦ leaves_allowed both.0 place both.1
      ]

-- ---- the pass

-- rules that allow all
pub any_rules : Rules
any_rules = record { acl = None; sequence = None }

pub for_any_more : (set : Selection) (src dst : ℕ) (groups front longer : List GroupValue) (group : GroupValue)
    → MayChoose set src dst groups → AreForAny set src dst front → Contains groups group → longer ≡ front ++ group ∷ []
    → AreForAny set src dst longer
for_any_more set src dst groups front longer group search is there same rules =
    for_more (question_of set src dst rules) groups (search rules) front longer group there same (is rules)

module _ (set : Selection) (src dst : ℕ) (options : List WeighedRules) (groups : List GroupValue)
    (search : MayChoose set src dst groups) where
  each_is : All IsGroup groups
  each_is = (search any_rules).are.each

  -- the pass is over
  pub over_at_first : (first : ℕ) (best : Option ℕ) → best ≡ Some first → IsFirst options first → (depth : ℕ) (front : List GroupValue) (at : ℕ)
      → OfEachOver (Passed set src dst options best) groups depth front at
  over_at_first first best is none depth front at =
      over_all (Passed set src dst options best) groups each_is depth front at
      (λ group later also. passed_at_first set src dst options first best is none (front ++ group ∷ later))

  module _ (front : List GroupValue) (are_for : AreForAny set src dst front) (group : GroupValue) (there : Contains groups group)
      (best : Option ℕ) (left at : ℕ) where
    here_is : IsGroup group
    here_is = group_there IsGroup groups group each_is there

    -- the group is of a kind that may not follow
    pub from_apart : (before : List GroupValue) (last : GroupValue) → front ≡ before ++ last ∷ []
        → ¬ (MayAdjoin (kind_of last.head) (kind_of group.head))
        → WasTriedOver (Passed set src dst options best) groups left front at group
    from_apart before last ends never =
        each_tried (Passed set src dst options best) groups each_is front group
        (λ later also.
        let same : front ++ group ∷ later ≡ before ++ last ∷ group ∷ later =
        ap (λ (gs : List GroupValue). gs ++ group ∷ later) ends ∙ append_assoc before (last ∷ []) (group ∷ later) in
        subst (Passed set src dst options best) (sym same)
        (passed_where_none set src dst options best (before ++ last ∷ group ∷ later)
        (λ rules. kinds_apart (question_of set src dst rules) before later last group
        (subst (AllByRecursion IsGroup) same (both_groups front (group ∷ later) (are_for rules).are (here_is, also))) never))) left at

    -- with the group there are more hop fields than a path may have
    pub from_too_many : 64 < total_hops (heads_of (front ++ group ∷ []))
        → WasTriedOver (Passed set src dst options best) groups left front at group
    from_too_many many =
        each_tried (Passed set src dst options best) groups each_is front group
        (λ later also. passed_where_none set src dst options best (front ++ group ∷ later)
        (λ rules. too_long (question_of set src dst rules) (front ++ group ∷ later)
        (both_groups front (group ∷ later) (are_for rules).are (here_is, also))
        (let more = more_hops front later group in omega (arith, many, more)))) left at

    -- with the group an AS is passed twice
    pub from_twice : ¬ (NamesOnce (walk_of (heads_of (front ++ group ∷ []))))
        → WasTriedOver (Passed set src dst options best) groups left front at group
    from_twice never =
        each_tried (Passed set src dst options best) groups each_is front group
        (λ later also.
        let same : (front ++ group ∷ []) ++ later ≡ front ++ group ∷ later = append_assoc front (group ∷ []) later in
        subst (Passed set src dst options best) same
        (passed_where_none set src dst options best ((front ++ group ∷ []) ++ later)
        (λ rules. named_twice (question_of set src dst rules) (front ++ group ∷ []) later
        (subst (AllByRecursion IsGroup) (sym same) (both_groups front (group ∷ later) (are_for rules).are (here_is, also))) never))) left at

    -- the group ends in the destination
    pub from_end : ends_in group.head ≡ dst → (longer : List GroupValue) → longer ≡ front ++ group ∷ []
        → Passed set src dst options best longer → WasTriedOver (Passed set src dst options best) groups left front at group
    from_end ends longer is here =
        tried_here (Passed set src dst options best) groups left front (front ++ group ∷ []) group (ends_in group.head) at refl refl
        (subst (Passed set src dst options best) is here)
        (each_longer (Passed set src dst options best) groups each_is front group
        (λ next later also. passed_where_none set src dst options best (front ++ group ∷ next ∷ later)
        (λ rules. none_behind_end (question_of set src dst rules) front later group next here_is ends)) left (ends_in group.head))

    -- the group ends elsewhere
    pub from_elsewhere : ¬ (ends_in group.head ≡ dst) → (longer : List GroupValue) → longer ≡ front ++ group ∷ []
        → (end : ℕ) → end ≡ ends_in group.head
        → OfEachOver (Passed set src dst options best) groups left longer end
        → WasTriedOver (Passed set src dst options best) groups left front at group
    from_elsewhere never longer is end ends =
        tried_here (Passed set src dst options best) groups left front longer group end at is ends
        (passed_refused set src dst options longer (for_any_more set src dst groups front longer group search are_for there is) best
        (λ path. never (one_end (heads_of front ++ group.head ∷ []) (ends_in group.head) dst (ends_with (heads_of front) group.head)
        (subst (DoEndIn dst) (ap heads_of is ∙ map-append (λ (g : GroupValue). g.head) front (group ∷ [])) path.destination))))

  -- what was passed over is left by no option
  pub none_left : (best : Option ℕ) → OfEachOver (Passed set src dst options best) groups 3 [] src
      → HaveNone (question_under set src dst) options best
  unfolding LeaveNone
  none_left best tried place option there wanted path candidate =
      let question = question_of set src dst option.rules in
      let own = search option.rules in
      of_candidate question own.usable_pieces own.whole (LeaveNone (question_under set src dst) options best)
      (to_pieces (LeaveNone (question_under set src dst) options best) groups own.usable_pieces own.are.each own.are.grouped 3 [] [] src tt tried)
      path candidate place option there wanted path.header candidate
