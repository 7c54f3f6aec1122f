-- Links that meet walks, by their places in a list of links.
use Rattle.std.specs.Prelude.{◌≡◌, ℕ, ◌<◌, ◌≤◌, ◌==◌, suc, Bool, true, false, List, [], ◌++◌, length, get_or, take, All, Contains}
use Rattle.std.specs.List.{list_all, list_any}
use Rattle.path_report.specs.declared.open_walk.OpenWalk.{OpenWalk}

-- whether the walk crosses the link at this place, and whether it does at one of these places
abbrev pub crosses_at : (place : ℕ) → OpenWalk → Bool
crosses_at place walk = list_any (λ one. one == place) walk.places.items

abbrev pub is_met : (lost : List ℕ) → OpenWalk → Bool
is_met lost walk = list_any (λ place. crosses_at place walk) lost

-- whether each of the walks crosses one of these links
abbrev pub are_met : (lost : List ℕ) → List OpenWalk → Bool
are_met lost walks = list_all (is_met lost) walks

-- the walk at this place is the first that crosses none of these links
pub record IsFirstUnmet (lost : List ℕ) (walks : List OpenWalk) (place : ℕ) : Type 0 where
  pub within : place < length walks
  pub before : are_met lost (take place walks) ≡ true
  pub here : (walk : OpenWalk) → walk ≡ get_or walks place walk → is_met lost walk ≡ false

-- a walk crosses the link at this place
abbrev pub IsCrossed : List OpenWalk → (place : ℕ) → Type 0
IsCrossed walks place = (walk : OpenWalk) × Contains walks walk × (crosses_at place walk ≡ true)

-- with these links and at most `more` others, each of the walks crosses one
pub record CanCut (walks : List OpenWalk) (lost : List ℕ) (more : ℕ) : Type 0 where
  pub others : List ℕ
  pub few : length others ≤ more
  pub crossed : All (IsCrossed walks) others
  pub met : are_met (lost ++ others) walks ≡ true

-- without them: whichever others are chosen, a walk crosses none of them
abbrev pub CannotCut : List OpenWalk → (lost : List ℕ) (more : ℕ) → Type 0
CannotCut walks lost more = (others : List ℕ) → length others ≤ more
    → are_met (lost ++ others) walks ≡ false

-- the walks survive the loss of this many links, up to 3, and of no more
pub record DoSurvive (walks : List OpenWalk) (count : ℕ) : Type 0 where
  pub few : count ≤ 3
  pub survive : CannotCut walks [] count
  pub most : count < 3 → CanCut walks [] (suc count)
