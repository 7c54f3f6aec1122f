-- The paths of an answer whose links are all up, and the links that they need.
use Rattle.std.specs.Prelude.{◌≡◌, ℕ, ◌<◌, ◌≤◌, ◌==◌, suc, Bool, true, false, List, filter, length, All, Contains}
use Rattle.std.specs.List.{list_all, list_any}
use Rattle.std.specs.Option.{option_map_or}
use Rattle.policy_expr.specs.declared.hop.WalkHop.{WalkHop}
use Rattle.scion_topology.specs.declared.network.Link.{Link}
use Rattle.scion_topology.specs.Network.{link_named}
use Rattle.path_verifier.specs.Walk.{walk_of}
use Rattle.combinator.specs.Candidate.{PathValue}
use Rattle.network_view.specs.Marks.{was_passed}

-- whether a packet on this walk crosses the link: it leaves an AS by one of the link's ends
abbrev pub crosses : List WalkHop → Link → Bool
crosses walk link = was_passed walk link

-- whether the walk passes an AS, or begins or ends there
abbrev pub passes : List WalkHop → (ia : ℕ) → Bool
passes walk ia = list_any (λ hop. hop.ia == ia) walk

-- whether no link stops a packet that leaves by this hop: the one at the interface is up
abbrev pub lets_leave : List Link → WalkHop → Bool
lets_leave links hop = option_map_or (λ (link : Link). link.up) (link_named links hop.ia hop.egress) true

-- whether each link that the walk crosses is up: a router refuses a packet at a link that is down
abbrev pub is_open : List Link → List WalkHop → Bool
is_open links walk = list_all (lets_leave links) walk

-- the paths whose walks are open, and the walks that are, in their order
abbrev pub open_paths : List Link → List PathValue → List PathValue
open_paths links paths = filter (λ path. is_open links (walk_of path.pieces)) paths

abbrev pub open_walks : List Link → List (List WalkHop) → List (List WalkHop)
open_walks links walks = filter (is_open links) walks

-- whether each of the walks crosses one of the lost links, so that none is left
abbrev pub are_cut : (lost : List Link) (walks : List (List WalkHop)) → Bool
are_cut lost walks = list_all (λ walk. list_any (crosses walk) lost) walks

-- whichever links of a network are lost, at most this many, one of the walks is left
abbrev pub Survive : (links : List Link) (count : ℕ) (walks : List (List WalkHop)) → Type 0
Survive links count walks = (lost : List Link) → All (Contains links) lost → length lost ≤ count
    → are_cut lost walks ≡ false

-- the walks survive the loss of this many links, up to 3, and of no more
pub record IsSurvived (links : List Link) (walks : List (List WalkHop)) (count : ℕ) : Type 0 where
  pub few : count ≤ 3
  pub survive : Survive links count walks
  pub most : count < 3 → (lost : List Link) × All (Contains links) lost × (length lost ≤ suc count)
      × (are_cut lost walks ≡ true)
